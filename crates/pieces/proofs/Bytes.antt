-- A byte of a piece: what it leaves, that it counts where it was taken, and that nothing follows an end.
use mathlib.Core.Path.{◌≡◌, refl, sym, ap, ◌∙◌}
use mathlib.Core.Bool.{Bool, true, false, cond, ◌&&◌, ◌||◌}
use mathlib.Core.List.{List, ◌∷◌}
use Prim.Native.Nat.{ℕ, ◌+◌, ◌^◌, ◌<◌}
use native.Mathlib.Omega.{arith}
use native.Mathlib.Nat.{add-zero}
use lib.Dec.{leb, eqb}
use lib.ListN.{length}
use borrow.Author.Tests.{eqb-true}
use Rattle.rows.specs.declared.Cursor.{Cursor}
use Rattle.rows.specs.Memory.{Memory, fault_of, message_limit, open_limit}
use Rattle.format.specs.declared.Head.{Head}
use Rattle.rows.specs.declared.lent.Lent.{Lent}
use Rattle.format.specs.declared.Work.{Work}
use Rattle.format.specs.Reading.{finished, refused}
use Rattle.format.specs.Step.{State, wait, over, none, broken}
use Rattle.format.specs.Numbers.{Held, held, byte_step, state_of, after_step, mode_of, work_of, frames_of, laid, lent_of, same_lent, sound, sound_step, depth_fits}
use Rattle.format.specs.Numbers.{counts_fit, mode_fits, pairs_fit, finishable, frames_size}
use Rattle.format.specs.Answers.{run_held, taken_by, cost, cost_from, state_in}
use Rattle.format.proofs.Tests.{on_bool, clash, both}
use Rattle.format.proofs.States.{Shown, state-numbered, mode-of, length-laid, frames-laid}
use Rattle.format.proofs.Along.{Good, waits, finishes, declines, good-step}
use Rattle.format.proofs.Shows.{good-sound, good-shown, sound-pairs}
use Rattle.format.proofs.Pieces.{run-still, taken-still}
use Rattle.resume.specs.Steps.{Turn, Wait, Finished, Refused, After, after, after_of, settled}
use Rattle.pieces.specs.States.{numbers, state_after, held_of, cost_of, Ready, Nearly}
use Rattle.states.specs.Ends.{has_ended}
use Rattle.pieces.proofs.Steps.{goes, byte-held}
use Rattle.format.specs.Codes.{status_waiting, status_finished, status_refused}
use Rattle.format.specs.Refusals as refusals

-- ---- the answer, and the state that it tells

abbrev next_in : After → Turn
next_in (after a F m) = a

settles : (a : Turn) (F : List ℕ) (m : Memory) → next_in (settled (after a F m)) ≡ a
unfolding settled
settles (Wait w c d) F m = refl
settles (Finished c) F m = refl
settles (Refused r) F m = refl

cost-told : (F : List ℕ) (s : State) → cost s ≡ cost_of (next_in (after_of F s))
unfolding after_of
cost-told F (wait x ts c m) = refl
cost-told F (over (finished c m)) = refl
cost-told F (over (refused number told place m)) = refl
cost-told F (none m) = refl

-- ---- pairs done

module _ (w : Work) (c : Cursor) (d : ℕ) (F : List ℕ) (m : Memory) where
  pub nearly_ready : Nearly w c d F m → pairs_fit c (mode_of w) ≡ true → Ready w c d F m
  nearly_ready r e = (r.0 ∙ e, r.1)

  pub pairs_hold : Ready w c d F m → pairs_fit c (mode_of w) ≡ true
  unfolding sound
  pairs_hold r =
      (both (same_lent (lent_of m) (lent_of m) && eqb (fault_of m) 0 && leb c.at message_limit && depth_fits (mode_of w) (length (frames_of F d)) && counts_fit c m
      && mode_fits c (mode_of w)) (pairs_fit c (mode_of w)) r.0).1

  pub ready_nearly : Ready w c d F m → Nearly w c d F m
  ready_nearly r = (r.0 ∙ sym (pairs_hold r), r.1)

-- ---- what a byte leaves

-- a state that waits is sound but for its pairs done, over the loans that there were
abbrev Well : Lent → State → Type 0
Well l (wait x ts c m) = (sound (lent_of m) x ts c m ≡ pairs_fit c x) × (lent_of m ≡ l)
Well l (over e) = Unit
Well l (none m) = Unit

well_good : {l : Lent} {at : ℕ} (s : State) → Good l at s → Well l s
well_good s (waits {x = x} {ts = ts} {c = c} {m = m} h f u) = (rw h.lends (sound-pairs x ts c m h f u), h.lends)
well_good s (finishes h) = tt
well_good s (declines t h z) = tt

same-lengths : (a b : Lent) → same_lent a b ≡ true → b ≡ a
unfolding same_lent
same-lengths a b e =
    let (e5, n) = both _ (eqb a.names b.names) e in
    let (e4, u) = both _ (eqb a.traits b.traits) e5 in
    let (e3, o) = both _ (eqb a.objects b.objects) e4 in
    let (e2, t) = both _ (eqb a.strings b.strings) e3 in
    let (r, s) = both (eqb a.rows b.rows) (eqb a.store b.store) e2 in
    rw (
      eqb-true a.rows b.rows r,
      eqb-true a.store b.store s,
      eqb-true a.strings b.strings t,
      eqb-true a.objects b.objects o,
      eqb-true a.traits b.traits u,
      eqb-true a.names b.names n,
    )

first : (p q r s t u v : Bool) → (p && q && r && s && t && u && v) ≡ true → p ≡ true
first p q r s t u v e =
    (both p q (both (p && q) r (both (p && q && r) s (both (p && q && r && s) t (both (p && q && r && s && t) u (both (p && q && r && s && t && u) v e).0).0).0).0).0).0

lent-sound : (h : Head) (F : List ℕ) (m : Memory) → sound h.lent (mode_of h.work) (frames_of F h.depth) h.cursor m ≡ true → h.lent ≡ lent_of m
unfolding sound
lent-sound h F m e =
    same-lengths (lent_of m) h.lent (first (same_lent (lent_of m) h.lent) (eqb (fault_of m) 0) (leb h.cursor.at message_limit)
    (depth_fits (mode_of h.work) (length (frames_of F h.depth))) (counts_fit h.cursor m) (mode_fits h.cursor (mode_of h.work)) (pairs_fit h.cursor (mode_of h.work)) e)

module _ (b : ℕ) (octet : b < 2 ^ 8) (h : Head) (F : List ℕ) (m : Memory) where
  after_well : Well (lent_of m) (state_after b h F m) × Shown (state_after b h F m)
  unfolding state_after sound_step refusals.sayable
  after_well = on_bool (eqb h.status status_waiting)
      (λ e. rw e (on_bool (sound h.lent (mode_of h.work) (frames_of F h.depth) h.cursor m)
      (λ e. rw e (let g = good-step b _ octet (good-sound h.lent (mode_of h.work) (frames_of F h.depth) h.cursor m e) in (well_good _ g, good-shown _ g)))
      (λ e. rw e (tt, tt))))
      (λ e. rw e (tt, tt))

  module _ (going : has_ended h ≡ false) (room : length F ≡ frames_size) where
    -- the numbers after a byte show the state after it
    after-shown : state_in (byte_step b (held (numbers h F) m)) ≡ state_after b h F m
    unfolding after_step
    after-shown = ap state_in (goes b h F m going) ∙ state-numbered (numbers h F) (state_after b h F m) room after_well.1

    -- what was never begun takes no byte, and 12 counts none
    cost-after : cost_from (state_of (numbers h F) m) (state_after b h F m) ≡ cost (state_after b h F m)
    unfolding has_ended state_of state_after
    cost-after = by (eqb h.status status_waiting) (eqb h.status status_finished && finishable h.cursor) (eqb h.status status_refused && refusals.sayable h.number h.told h.place) going
      where
        by : (t u v : Bool) → cond t false (u || v) ≡ false
            → cost_from (cond t (wait (mode_of h.work) (frames_of F h.depth) h.cursor m)
            (cond u (over (finished h.cursor m)) (cond v (over (refused h.number h.told h.place m)) (none m))))
            (cond t (sound_step h.lent b (wait (mode_of h.work) (frames_of F h.depth) h.cursor m)) (broken m))
            ≡ cost (cond t (sound_step h.lent b (wait (mode_of h.work) (frames_of F h.depth) h.cursor m)) (broken m))
        by true u v e = refl
        by false true v e = clash cc
        by false false true e = clash cc
        by false false false e = refl

    module _ (a : Turn) (F' : List ℕ) (m' : Memory) (told : settled (after a F' m') ≡ after_of F (state_after b h F m)) where
      abbrev leaves : Held
      leaves = held_of h.lent (settled (after a F' m'))

      leaves-held : leaves ≡ byte_step b (held (numbers h F) m)
      leaves-held = byte-held b h F m (settled (after a F' m')) going told

      pub runs-byte : (bs : List ℕ) → run_held (held (numbers h F) m) (b ∷ bs) ≡ run_held leaves bs
      unfolding run_held
      runs-byte bs = ap (λ k. run_held k bs) (sym leaves-held)

      pub takes-byte : (bs : List ℕ) → taken_by (held (numbers h F) m) (b ∷ bs) ≡ cost_of a + taken_by leaves bs
      unfolding taken_by
      takes-byte bs =
          let e : cost (state_after b h F m) ≡ cost_of a = cost-told F (state_after b h F m) ∙ ap (λ x. cost_of (next_in x)) (sym told) ∙ ap cost_of (settles a F' m') in
          rw (leaves-held, after-shown, cost-after, e)

      -- an end stays
      still : (s : State) → state_in leaves ≡ s → Shown s → settled (after a F' m') ≡ after_of F s → ((w : Work) (c : Cursor) (d : ℕ) → a ≡ Wait w c d → ⊥)
          → (k : Held) → state_in k ≡ s → (bs : List ℕ) → (run_held k bs ≡ k) × (taken_by k bs ≡ 0)
      unfolding after_of
      still (wait x ts c k) p sh e o (held n j) q bs =
          let w : a ≡ Wait (work_of x) c (length ts) = sym (settles a F' m') ∙ ap next_in e in
          absurd (o _ _ _ w)
      still (over r) p sh e o (held n j) q bs = (run-still n j r q bs, taken-still n j r q bs)
      still (none k) p sh e o (held n j) q bs = absurd sh

      module _ (ends : ((w : Work) (c : Cursor) (d : ℕ) → a ≡ Wait w c d → ⊥)) (bs : List ℕ) where
        stays : (run_held leaves bs ≡ leaves) × (taken_by leaves bs ≡ 0)
        stays =
            let e : state_in leaves ≡ state_after b h F m = ap state_in leaves-held ∙ after-shown in
            still (state_after b h F m) e after_well.1 told ends leaves e bs

        pub runs_last : run_held (held (numbers h F) m) (b ∷ bs) ≡ leaves
        runs_last = runs-byte bs ∙ stays.0

        pub takes-last : taken_by (held (numbers h F) m) (b ∷ bs) ≡ cost_of a
        takes-last = takes-byte bs ∙ rw stays.1 (add-zero (cost_of a))

  -- where it waits
  module _ (w : Work) (c : Cursor) (d : ℕ) (F' : List ℕ) (m' : Memory) (told : settled (after (Wait w c d) F' m') ≡ after_of F (state_after b h F m)) where
    -- then the state was sound
    pub was_sound : h.lent ≡ lent_of m
    unfolding state_after sound_step settled after_of
    was_sound = on_bool (eqb h.status status_waiting)
        (λ p. on_bool (sound h.lent (mode_of h.work) (frames_of F h.depth) h.cursor m) (lent-sound h F m) (λ q. let z = rw (p, q) at told in clash cc))
        (λ p. let z = rw p at told in clash cc)

    ready-left : length F ≡ frames_size → (s : State) → Well (lent_of m) s → Shown s → settled (after (Wait w c d) F' m') ≡ after_of F s
        → Nearly w c d F' m' × (lent_of m' ≡ lent_of m) × (length F' ≡ length F)
    unfolding settled after_of open_limit
    ready-left room (wait x ts k n) (p, q) sh e =
        let ew : w ≡ work_of x = cc in
        let ec : c ≡ k = cc in
        let ed : d ≡ length ts = cc in
        let eF : F' ≡ laid F ts = cc in
        let em : m' ≡ n = cc in
        rw (ew, ec, ed, eF, em, mode-of x, frames-laid F ts (omega arith)) ((p, refl), q, length-laid F ts)
    ready-left room (over (finished k n)) p sh e = clash cc
    ready-left room (over (refused number place n k)) p sh e = clash cc
    ready-left room (none n) p sh e = clash cc

    pub is-ready : length F ≡ frames_size → Nearly w c d F' m' × (lent_of m' ≡ lent_of m) × (length F' ≡ length F)
    is-ready room = ready-left room (state_after b h F m) after_well.0 after_well.1 told
