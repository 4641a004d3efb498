-- Whether a waiting state holds together, as a proposition: its test holds exactly then, and where it doesn't a byte is refused by 12 before anything else.
use mathlib.Core.Path.{◌≡◌, refl, sym, ap, ◌∙◌}
use mathlib.Core.Bool.{true}
use mathlib.Core.List.{List, [], ◌∷◌}
use Prim.Native.Nat.{ℕ, ◌^◌, ◌<◌}
use lib.Dec.{eqb}
use borrow.Author.Tests.{eqb-true}
use Rattle.rows.specs.declared.Cursor.{Cursor}
use Rattle.rows.specs.Memory.{Memory, fault_of, zeroed, message_limit}
use Rattle.format.specs.declared.Answer.TheVariants.{Refused}
use Rattle.rows.specs.declared.lent.Lent.{Lent}
use Rattle.format.specs.declared.Frame.{Frame}
use Rattle.format.specs.Reading.{refused, taken}
use Rattle.format.specs.Step.{Mode, wait, over, act}
use Rattle.format.specs.Numbers.{Numbers, state_of, lent_of, same_lent, mode_fits, pairs_fit, sound}
use Rattle.format.specs.Answers.{fed, feed_call}
use Rattle.format.proofs.Tests.{on_bool, both, clash}
use Rattle.format.proofs.Kept.{fault_in}
use Rattle.format.proofs.Shows.{sound-holds, pairs-sound, good-sound, good-waits}
use Rattle.format.proofs.Pieces.{answer_in}
use Rattle.format.specs.Claims.{waiting}
use Rattle.promises.proofs.Answered.{lost_numbers, unsound-lost, Lost, never, unsound, unfit, lost-only}
use Rattle.format.specs.Refusals as refusals
pub use Rattle.format.specs.Together.{Together}

-- six lengths that are the same
abbrev lengths : ℕ → ℕ → ℕ → ℕ → ℕ → ℕ → Lent
lengths rows store strings objects traits names =
    record { rows = rows; store = store; strings = strings; objects = objects; traits = traits; names = names }

-- each of them
lengths-same : (a a' b b' c c' d d' e e' f f' : ℕ) → a ≡ a' → b ≡ b' → c ≡ c' → d ≡ d' → e ≡ e' → f ≡ f' → lengths a b c d e f ≡ lengths a' b' c' d' e' f'
lengths-same a a' b b' c c' d d' e e' f f' p q r s t u = rw (p, q, r, s, t, u)

-- their test
lent_same : (a b : Lent) → same_lent a b ≡ true → a ≡ b
unfolding same_lent
lent_same a b e =
    let (p, f) = both _ (eqb a.names b.names) e in
    let (q, t) = both _ (eqb a.traits b.traits) p in
    let (r, o) = both _ (eqb a.objects b.objects) q in
    let (s, u) = both _ (eqb a.strings b.strings) r in
    let (w, v) = both (eqb a.rows b.rows) (eqb a.store b.store) s in
    let rows = eqb-true a.rows b.rows w in
    let store = eqb-true a.store b.store v in
    let strings = eqb-true a.strings b.strings u in
    let objects = eqb-true a.objects b.objects o in
    let traits = eqb-true a.traits b.traits t in
    let names = eqb-true a.names b.names f in
    lengths-same _ _ _ _ _ _ _ _ _ _ _ _ rows store strings objects traits names

-- the lowest faulty loan, by the lengths
fault-of : (m : Memory) → fault_in (lent_of m) ≡ fault_of m
unfolding lent_of
fault-of m = refl

module _ (lent : Lent) (x : Mode) (ts : List Frame) (c : Cursor) (m : Memory) where
  -- of a sound state the loans have the lengths of the beginning
  lent-sound : sound lent x ts c m ≡ true → lent_of m ≡ lent
  unfolding sound
  lent-sound e = lent_same (lent_of m) lent (both _ _ (both _ _ (both _ _ (both _ _ (both _ (mode_fits c x) (both _ (pairs_fit c x) e).0).0).0).0).0).0

  -- a state whose test holds, holds together
  pub sound-together : sound lent x ts c m ≡ true → Together lent x ts c m
  sound-together e =
      let q = lent-sound e in
      let (h, f, u) = good-waits (good-sound lent x ts c m e) in
      record {
        loans = q;
        clean = sym (fault-of m) ∙ h.clean;
        within = rw (← h.place) at h.within;
        open_fits = f;
        counts = rw q at h.counts;
        works = u;
        pairs = pairs-sound lent x ts c m e;
      }

  -- and conversely
  pub together-sound : Together lent x ts c m → sound lent x ts c m ≡ true
  together-sound t =
      sound-holds {at = c.at} x ts c m
      (record { lends = t.loans; clean = ap fault_in (sym t.loans) ∙ fault-of m ∙ t.clean; place = refl; within = t.within; counts = t.counts })
      t.open_fits t.works t.pairs

-- ---- a byte more

-- where it doesn't hold together: 12 with told 0 and place 0, no byte taken, the loans zero
pub apart-lost : (n : Numbers) (m : Memory) (b : ℕ) (bs : List ℕ) (x : Mode) (ts : List Frame) (c : Cursor) → state_of n m ≡ wait x ts c m
    → (Together n.head.lent x ts c m → ⊥) → feed_call n m (b ∷ bs) ≡ fed (Refused refusals.lost 0 0 0) (lost_numbers n) (zeroed m)
apart-lost n m b bs x ts c e h = on_bool (sound n.head.lent x ts c m)
    (λ f. absurd (h (sound-together n.head.lent x ts c m f))) (λ f. unsound-lost n m b bs x ts c e f)

-- where it does, a byte is refused by 12 only by its own step
pub together-unfit : (n : Numbers) (m : Memory) (b : ℕ) (x : Mode) (ts : List Frame) (c : Cursor) → b < 2 ^ 8 → state_of n m ≡ wait x ts c m
    → Together n.head.lent x ts c m → (told place k : ℕ) → answer_in (feed_call n m (b ∷ [])) ≡ Refused refusals.lost told place k
    → (l : Memory) × (c.at < message_limit) × (act x b ts (taken c) m ≡ over (refused refusals.lost 0 0 l))
together-unfit n m b x ts c o e h told place k q = of (lost-only n m b told place k o (rw e waiting) q)
  where
    of : Lost n m b → (l : Memory) × (c.at < message_limit) × (act x b ts (taken c) m ≡ over (refused refusals.lost 0 0 l))
    of (never f) = clash cc
    of (unsound y us d f g) =
        let i : x ≡ y = cc in
        let j : ts ≡ us = cc in
        let o : c ≡ d = cc in
        let t : sound n.head.lent y us d m ≡ true = rw (i, j, o) at (together-sound n.head.lent x ts c m h) in
        clash cc
    of (unfit y us d l f g v a) =
        let i : x ≡ y = cc in
        let j : ts ≡ us = cc in
        let o : c ≡ d = cc in
        (l, rw o v, rw (i, j, o) a)
