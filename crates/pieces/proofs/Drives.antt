-- The bytes of a piece after its first, up to some place: what is left to run, and what is counted.
use mathlib.Core.Path.{◌≡◌, refl, sym, ap, ◌∙◌}
use mathlib.Core.Bool.{true, false, ◌&&◌}
use mathlib.Core.List.{List, [], ◌∷◌, ◌++◌}
use Prim.Native.Nat.{ℕ, zero, suc, ◌+◌, ◌-◌, ◌≤◌, ◌<◌}
use native.Mathlib.Numerals.{add-one}
use native.Mathlib.Omega.{arith}
use lib.ListN.{length, get_or, take, drop, drop_of_length-le, take-append-drop}
use lib.Seq.{sets, slice, drop-cons, drop-append-le, length-take-le, length-slice, take_at, get_or-drop}
use lib.Dec.{eqb, lit<}
use Rattle.rows.specs.declared.Cursor.{Cursor}
use Rattle.rows.specs.Memory.{Memory, memory, message_limit}
use Rattle.format.specs.declared.Head.{Head}
use Rattle.rows.specs.declared.lent.Lent.{Lent}
use Rattle.format.specs.declared.Work.{Work}
use Rattle.format.specs.Reading.{Ended, finished, refused}
use Rattle.format.specs.Step.{over, wait, step}
use Rattle.format.specs.Numbers.{Held, held, state_of, mode_of, frames_of, lent_of, pairs_fit, depth_fits, finishable, frames_size}
use Rattle.format.specs.Answers.{run_held, taken_by}
use Rattle.format.proofs.Tests.{on_bool, clash}
use Rattle.format.proofs.Pieces.{run-still, taken-still}
use Rattle.format.proofs.Shows.{good-sound, good-waits}
use Rattle.wire.proofs.Octets.{Bytes}
use Rattle.states.specs.Ends.{has_ended}
use Rattle.resume.specs.Steps.{loans_of, turn_of, Same, Steps, Turn, Wait, Refused, After, after, after_of, settled, refusal_of}
use Rattle.format.specs.declared.Refusal.{Refusal}
use Rattle.states.specs.Purposes.{IsRaw}
use Rattle.std.specs.Prelude.{Result, Ok, Err}
use Rattle.resume.specs.declared.Feeding.{Feeding}
use Rattle.resume.specs.declared.Next.{Next}
use Rattle.resume.specs.declared.Next.TheVariants as next
use Rattle.resume.proofs.Moves.{both_same}
use Rattle.pieces.specs.States.{Takes, RunsAll, Drives, Fillable, Filled, further, numbers, head_of, held_of, state_after, cost_of, Fold, ran, waiting, Ready, Nearly, Bulk, work_past, rows_past}
use Rattle.pieces.proofs.Steps.{stepped-on, not_sound, deep-enough}
use Rattle.pieces.proofs.Bytes.{runs-byte, takes-byte, runs_last, takes-last, was_sound, is-ready, nearly_ready, ready_nearly}
use Rattle.pieces.proofs.Fills.{Runs, past, spans, is-raw, raw_used}
use Rattle.format.specs.Codes.{mode_text, status_waiting, status_finished, status_refused}
use Rattle.format.specs.Refusals as refusals
use Rattle.format.proofs.Lengths.{SameLengths, lent_same, same-lent}

-- a part of a list, and what follows it
module _ (f t : ℕ) (l : List ℕ) (h : f ≤ t) (g : t ≤ length l) where
  cut : drop f l ≡ slice f t l ++ drop t l
  cut = ap (drop f) (sym (take-append-drop t l)) ∙ drop-append-le f (take t l) (drop t l) (rw (length-take-le t l g) h)

  pub part_slice : take (t - f) (drop f l) ≡ slice f t l
  part_slice = ap (take (t - f)) cut ∙ take_at (slice f t l) (drop t l) (t - f) (length-slice f t l g)

-- a part of bytes is bytes
take-bytes : (n : ℕ) (l : List ℕ) → Bytes l → Bytes (take n l)
take-bytes zero l o i = lit< tt
take-bytes (suc n) [] o i = lit< tt
take-bytes (suc n) (b ∷ l) o zero = o 0
take-bytes (suc n) (b ∷ l) o (suc i) = take-bytes n l (λ j. o (suc j)) i

slice-bytes : (f t : ℕ) (l : List ℕ) → Bytes l → Bytes (slice f t l)
slice-bytes f t l o i = rw (get_or-drop f (take t l) i 0) (take-bytes t l o (f + i))

-- a fold by its parts
pub ran-is : {h k : Held} {n l : ℕ} → (h ≡ k) × (n ≡ l) → ran h n ≡ ran k l
ran-is e = rw (e.0, e.1)

pub ran-parts : {h k : Held} {n l : ℕ} → ran h n ≡ ran k l → (h ≡ k) × (n ≡ l)
ran-parts e = (ap held_in e, ap taken_in e)
  where
    held_in : Fold → Held
    held_in (ran h n) = h

    taken_in : Fold → ℕ
    taken_in (ran h n) = n

-- what a sound state that waits lets the next byte be
module _ (w : Work) (c : Cursor) (d : ℕ) (F : List ℕ) (m : Memory) (r : Ready w c d F m) where
  pub ready-deep : depth_fits (mode_of w) d ≡ true
  ready-deep = deep-enough 0 (head_of (lent_of m) (Wait w c d)) F m refl true (sym r.0) refl

  pub ready-within : c.at ≤ message_limit
  ready-within = let g = good-waits (good-sound (lent_of m) (mode_of w) (frames_of F d) c m r.0) in omega (arith, g.0.within, g.0.place)

module _ (w₀ : Work) (c₀ : Cursor) (d₀ : ℕ) (F₀ : List ℕ) (m₀ : Memory) (piece : List ℕ) where
  abbrev from : Work → Cursor → ℕ → List ℕ → Memory → Held
  from w c d F m = held (waiting (lent_of m₀) w c d F) m

  -- the bytes from i on are to be run from here
  pub record Driven (w : Work) (c : Cursor) (d : ℕ) (F : List ℕ) (m : Memory) (i : ℕ) : Type 0 where
    pub ready : Nearly w c d F m
    pub kept : SameLengths m m₀
    pub room : length F ≡ frames_size
    pub begun : 1 ≤ i
    pub most : i ≤ length piece
    pub runs : run_held (from w c d F m) (drop i piece) ≡ run_held (from w₀ c₀ d₀ F₀ m₀) (drop 1 piece)
    pub takes : i + taken_by (from w c d F m) (drop i piece) ≡ suc (taken_by (from w₀ c₀ d₀ F₀ m₀) (drop 1 piece))

  pub driven_first : Nearly w₀ c₀ d₀ F₀ m₀ → length F₀ ≡ frames_size → 0 < length piece → Driven w₀ c₀ d₀ F₀ m₀ 1
  driven_first r room h = record { ready = r; kept = same-lent m₀ m₀ refl; room = room; begun = omega arith; most = omega arith; runs = refl; takes = omega arith }

  -- all of them were run
  module _ (w : Work) (c : Cursor) (d : ℕ) (F : List ℕ) (m : Memory) (i : ℕ) (v : Driven w c d F m i) where
    pub driven_all : length piece ≤ i
        → (held_of (lent_of m₀) (settled (after (Wait w c d) F m)) ≡ run_held (from w₀ c₀ d₀ F₀ m₀) (drop 1 piece))
        × (i ≡ suc (taken_by (from w₀ c₀ d₀ F₀ m₀) (drop 1 piece)))
    unfolding settled run_held taken_by
    driven_all h =
        let e : drop i piece ≡ [] = drop_of_length-le piece h in
        (sym (ap (run_held (from w c d F m)) e) ∙ v.runs, (let t = rw e at v.takes in omega arith))

    module _ (octets : Bytes piece) (low : i < length piece) where
      abbrev b : ℕ
      b = get_or piece i 0

      abbrev hd : Head
      hd = head_of (lent_of m₀) (Wait w c d)

      lent : lent_of m ≡ lent_of m₀
      lent = lent_same m m₀ v.kept

      -- pairs done reach the used rows
      pub driven_lost : (r : Refusal) → r ≡ refusal_of refusals.lost 0 0 → pairs_fit c (mode_of w) ≡ false
          → (held_of (lent_of m₀) (settled (after (Refused r) F m)) ≡ run_held (from w₀ c₀ d₀ F₀ m₀) (drop 1 piece))
          × (i ≡ suc (taken_by (from w₀ c₀ d₀ F₀ m₀) (drop 1 piece)))
      unfolding has_ended
      driven_lost r q p =
          let t = not_sound b hd F m refl false (rw (← lent) (sym (v.ready.0 ∙ p))) r q refl in
          let e : drop i piece ≡ b ∷ drop (i + 1) piece = rw add-one (drop-cons piece i 0 low) in
          let run = runs_last b (octets i) hd F m refl v.room (Refused r) F m t (λ w c d e. cc) (drop (i + 1) piece) in
          let take = takes-last b (octets i) hd F m refl v.room (Refused r) F m t (λ w c d e. cc) (drop (i + 1) piece) in
          let z : cost_of (Refused r) ≡ 0 = rw q in
          (sym run ∙ sym (ap (run_held (from w c d F m)) e) ∙ v.runs, (let k = rw (e, take) at v.takes in omega arith))

      module _ (fit : pairs_fit c (mode_of w) ≡ true) where
        told : (x : After) → x ≡ after_of F (step b (wait (mode_of w) (frames_of F d) c m)) → x ≡ after_of F (state_after b hd F m)
        told x q = stepped-on b hd F m refl true (rw (← lent) (sym (v.ready.0 ∙ fit))) x refl q

        -- a step that waits
        pub driven_on : (a : Turn) (w' : Work) (c' : Cursor) (d' : ℕ) (F' : List ℕ) (m' : Memory) → a ≡ Wait w' c' d'
            → settled (after a F' m') ≡ after_of F (step b (wait (mode_of w) (frames_of F d) c m)) → Driven w' c' d' F' m' (i + 1)
        unfolding has_ended settled
        driven_on a w' c' d' F' m' p q =
            let t : settled (after (Wait w' c' d') F' m') ≡ after_of F (state_after b hd F m) = told _ (ap (λ (a : Turn). settled (after a F' m')) (sym p) ∙ q) in
            let r = is-ready b (octets i) hd F m w' c' d' F' m' t v.room in
            let e : drop i piece ≡ b ∷ drop (i + 1) piece = rw add-one (drop-cons piece i 0 low) in
            let run = runs-byte b (octets i) hd F m refl v.room (Wait w' c' d') F' m' t (drop (i + 1) piece) in
            let take = takes-byte b (octets i) hd F m refl v.room (Wait w' c' d') F' m' t (drop (i + 1) piece) in
            record {
              ready = r.0;
              kept = same-lent m' m₀ (r.1 ∙ lent);
              room = r.2 ∙ v.room;
              begun = omega arith;
              most = omega arith;
              runs = sym run ∙ sym (ap (run_held (from w c d F m)) e) ∙ v.runs;
              takes = (let k = rw (e, take) at v.takes in omega arith);
            }

        -- a step that ends
        pub driven_end : (a : Turn) (F' : List ℕ) (m' : Memory) (n : ℕ) → n ≡ cost_of a → ((w : Work) (c : Cursor) (d : ℕ) → a ≡ Wait w c d → ⊥)
            → settled (after a F' m') ≡ after_of F (step b (wait (mode_of w) (frames_of F d) c m))
            → (held_of (lent_of m₀) (settled (after a F' m')) ≡ run_held (from w₀ c₀ d₀ F₀ m₀) (drop 1 piece))
            × (i + n ≡ suc (taken_by (from w₀ c₀ d₀ F₀ m₀) (drop 1 piece)))
        unfolding has_ended
        driven_end a F' m' n p o q =
            let t = told _ q in
            let e : drop i piece ≡ b ∷ drop (i + 1) piece = rw add-one (drop-cons piece i 0 low) in
            let run = runs_last b (octets i) hd F m refl v.room a F' m' t o (drop (i + 1) piece) in
            let take = takes-last b (octets i) hd F m refl v.room a F' m' t o (drop (i + 1) piece) in
            (sym run ∙ sym (ap (run_held (from w c d F m)) e) ∙ v.runs, (let k = rw (e, take) at v.takes in omega arith))

  -- many bytes at once
  module _ (w : Work) (c : Cursor) (d : ℕ) (F R B T O U N : List ℕ) (i : ℕ) (v : Driven w c d F (memory R B T O U N) i)
      (octets : Bytes piece) (fit : pairs_fit c (mode_of w) ≡ true) (k : ℕ) (some : 0 < k) (u : Bulk w c (length piece - i) k) where
    ready : Ready w c d F (memory R B T O U N)
    ready = nearly_ready w c d F (memory R B T O U N) v.ready fit

    -- what `fill` asks for
    pub driven_fills : (w.span.begin + w.span.size ≤ length B) × (w.left < w.span.size) × (0 < k) × (k ≤ w.left) × (i + k ≤ length piece)
        × ((w.mode ≡ mode_text → ⊥) → IsRaw w.purpose)
    driven_fills =
        let e : lent_of (memory R B T O U N) ≡ lent_of m₀ = lent_same (memory R B T O U N) m₀ v.kept in
        let (a, z) = spans d F T O U N v.room (lent_of m₀) w c R B (ready, e) u.0 in
        (a, z, some, u.1, omega (arith, v.most), is-raw d F T O U N v.room (lent_of m₀) w c R B (ready, e) u.0)

    -- and what it leaves
    pub driven_past : (w' : Work) (R' B' : List ℕ) → B' ≡ sets B (w.span.begin + (w.span.size - (w.left + 1))) (slice i (i + k) piece)
        → w' ≡ work_past w k (slice i (i + k) piece) → R' ≡ rows_past w c k R
        → Driven w' (further c (c.at + k)) d F (memory R' B' T O U N) (i + k)
    driven_past w' R' B' eB ew eR =
        let lent : lent_of (memory R B T O U N) ≡ lent_of m₀ = lent_same (memory R B T O U N) m₀ v.kept in
        let within : i + k ≤ length piece = omega (arith, v.most) in
        let n : i + k - i ≡ k = omega arith in
        let len : length (slice i (i + k) piece) ≡ k = length-slice i (i + k) piece within ∙ n in
        let e : drop i piece ≡ slice i (i + k) piece ++ drop (i + k) piece = cut i (i + k) piece (omega arith) within in
        let p : Runs d F T O U N v.room (lent_of m₀) (from w c d F (memory R B T O U N)) (slice i (i + k) piece) w' (further c (c.at + k)) R' B' =
        past d F T O U N v.room (lent_of m₀) w c R B (ready, lent) u.0 (slice i (i + k) piece) (slice-bytes i (i + k) piece octets) k w' R' B' len some u.1 (omega arith) eB ew eR in
        record {
          ready = ready_nearly w' (further c (c.at + k)) d F (memory R' B' T O U N) p.stands.0;
          kept = same-lent (memory R' B' T O U N) m₀ p.stands.1;
          room = v.room;
          begun = omega (arith, v.begun);
          most = omega (arith, v.most);
          runs = sym (p.runs (drop (i + k) piece)) ∙ sym (ap (run_held (from w c d F (memory R B T O U N))) e) ∙ v.runs;
          takes = (let t = rw (e, p.takes (drop (i + k) piece), len) at v.takes in omega arith);
        }

-- ---- the feeding that is driven

pub record Driving (f₀ : Feeding) (w₀ : Work) (piece : List ℕ) (f : Feeding) (w : Work) (i : ℕ) : Type 0 where
  pub driven : Driven w₀ f₀.cursor f₀.depth f₀.frames.now (loans_of f₀) piece w f.cursor f.depth f.frames.now (loans_of f) i
  pub same : Same f₀ f

module _ {f₀ f : Feeding} {w₀ w : Work} {piece : List ℕ} {i : ℕ} (v : Driving f₀ w₀ piece f w i) where
  pub drove_all : length piece ≤ i → Drives (Ok (next.Wait w), i) f₀ f w₀ piece
  drove_all h =
      record {
        ran_past = ran-is (driven_all w₀ f₀.cursor f₀.depth f₀.frames.now (loans_of f₀) piece w f.cursor f.depth f.frames.now (loans_of f) i v.driven h);
        same = v.same;
      }

  pub drove_lost : Bytes piece → i < length piece → (r : Refusal) → r ≡ refusal_of refusals.lost 0 0 → pairs_fit f.cursor (mode_of w) ≡ false
      → Drives (Err r, i) f₀ f w₀ piece
  drove_lost octets low r q p =
      record {
        ran_past = ran-is (driven_lost w₀ f₀.cursor f₀.depth f₀.frames.now (loans_of f₀) piece w f.cursor f.depth f.frames.now (loans_of f) i v.driven octets low r q p);
        same = v.same;
      }

  module _ (fit : pairs_fit f.cursor (mode_of w) ≡ true) where
    now_ready : Ready w f.cursor f.depth f.frames.now (loans_of f)
    now_ready = nearly_ready w f.cursor f.depth f.frames.now (loans_of f) v.driven.ready fit

    pub drove_deep : depth_fits (mode_of w) f.depth ≡ true
    drove_deep = ready-deep w f.cursor f.depth f.frames.now (loans_of f) now_ready

    pub drove_within : f.cursor.at ≤ message_limit
    drove_within = ready-within w f.cursor f.depth f.frames.now (loans_of f) now_ready

    -- a byte
    module _ (octets : Bytes piece) (low : i < length piece) {a : Result Next Refusal} {g : Feeding}
        (S : Steps a f g (λ ts c m. step (get_or piece i 0) (wait (mode_of w) ts c m))) where
      pub drove_on : (w' : Work) → a ≡ Ok (next.Wait w') → Driving f₀ w₀ piece g w' (i + 1)
      drove_on w' p =
          record {
            driven = driven_on w₀ f₀.cursor f₀.depth f₀.frames.now (loans_of f₀) piece w f.cursor f.depth f.frames.now (loans_of f) i v.driven octets low fit (turn_of a g.cursor g.depth) w'
                g.cursor g.depth g.frames.now (loans_of g) (ap (λ (a : Result Next Refusal). turn_of a g.cursor g.depth) p) S.turn;
            same = both_same f₀ f g v.same S.same;
          }

      drove_end : (n : ℕ) → n ≡ cost_of (turn_of a g.cursor g.depth) → ((w : Work) (c : Cursor) (d : ℕ) → turn_of a g.cursor g.depth ≡ Wait w c d → ⊥)
          → Drives (a, i + n) f₀ g w₀ piece
      drove_end n q o =
          record {
            ran_past =
                ran-is
                (driven_end w₀ f₀.cursor f₀.depth f₀.frames.now (loans_of f₀) piece w f.cursor f.depth f.frames.now (loans_of f) i v.driven octets low fit
                (turn_of a g.cursor g.depth) g.frames.now (loans_of g) n q o S.turn);
            same = both_same f₀ f g v.same S.same;
          }

      pub drove_over : a ≡ Ok next.Finished → Drives (Ok next.Finished, i + 1) f₀ g w₀ piece
      drove_over p = rw p at (drove_end 1 (rw p) (rw p (λ w c d e. cc)))

      pub drove_not : (r : Refusal) (n : ℕ) → a ≡ Err r → n ≡ cost_of (Refused r) → Drives (Err r, i + n) f₀ g w₀ piece
      drove_not r n p q = rw p at (drove_end n (rw p q) (rw p (λ w c d e. cc)))

    -- many bytes at once
    module _ (octets : Bytes piece) {k : ℕ} (some : 0 < k) (u : Bulk w f.cursor (length piece - i) k) {bs : List ℕ} (is : bs ≡ take (i + k - i) (drop i piece)) where
      fills : (w.span.begin + w.span.size ≤ length f.store.now) × (w.left < w.span.size) × (0 < k) × (k ≤ w.left) × (i + k ≤ length piece)
          × ((w.mode ≡ mode_text → ⊥) → IsRaw w.purpose)
      fills =
          driven_fills w₀ f₀.cursor f₀.depth f₀.frames.now (loans_of f₀) piece w f.cursor f.depth f.frames.now f.rows.now f.store.now f.strings.now f.objects.now f.traits.now
          f.names.now i v.driven octets fit k some u

      as_slice : bs ≡ slice i (i + k) piece
      as_slice = is ∙ part_slice i (i + k) piece (omega arith) fills.4

      as_long : length bs ≡ k
      as_long = let n : i + k - i ≡ k = omega arith in ap length as_slice ∙ length-slice i (i + k) piece fills.4 ∙ n

      pub drove_fillable : Fillable f w (length bs)
      drove_fillable =
          rw as_long
          (record {
            span = fills.0;
            left = fills.1;
            some = some;
            most = fills.3;
            place = u.3;
            raw = λ n. (
              fills.5 n,
              raw_used f.depth f.frames.now f.strings.now f.objects.now f.traits.now f.names.now v.driven.room (lent_of (loans_of f)) w f.cursor f.rows.now f.store.now
                  (now_ready, refl) u.0 n,
            );
          })

      pub drove_filled : {g : Feeding} {w' : Work} → w' ≡ work_past w (length bs) bs → Filled f g w bs → Driving f₀ w₀ piece g w' (i + k)
      drove_filled {g} {w'} e K =
          let d = driven_past w₀ f₀.cursor f₀.depth f₀.frames.now (loans_of f₀) piece w f.cursor f.depth f.frames.now f.rows.now f.store.now f.strings.now f.objects.now
          f.traits.now f.names.now i v.driven octets fit k some u w' (rows_past w f.cursor k f.rows.now)
          (sets f.store.now (w.span.begin + (w.span.size - (w.left + 1))) (slice i (i + k) piece)) refl (rw (as_long, as_slice) at e) refl in
          record { driven = rw (K.loans, K.cursor, K.depth, K.frames, as_long, as_slice) d; same = both_same f₀ f g v.same K.same }

-- ---- a whole piece

module _ (h : Head) (F : List ℕ) (m : Memory) (piece : List ℕ) where
  abbrev start : Held
  start = held (numbers h F) m

  pub none_runs : length piece ≡ 0 → (start ≡ run_held start piece) × (0 ≡ taken_by start piece)
  unfolding run_held taken_by
  none_runs e = let n : piece ≡ [] = drop_of_length-le piece {i = 0} (omega arith) in rw n (refl, refl)

  -- what has ended takes nothing
  pub ended-runs : has_ended h ≡ true → (start ≡ run_held start piece) × (0 ≡ taken_by start piece)
  unfolding has_ended state_of
  ended-runs z =
      on_bool (eqb h.status status_waiting) (λ e. let k = rw e at z in clash cc) (λ e.
      on_bool (eqb h.status status_finished && finishable h.cursor) (λ f. still (finished h.cursor m) (rw (e, f))) (λ f.
      let k : (eqb h.status status_refused && refusals.sayable h.number h.told h.place) ≡ true = rw (e, f) at z in
      still (refused h.number h.told h.place m) (rw (e, f, k))))
    where
      still : (e : Ended) → state_of (numbers h F) m ≡ over e → (start ≡ run_held start piece) × (0 ≡ taken_by start piece)
      still e p = (sym (run-still (numbers h F) m e p piece), sym (taken-still (numbers h F) m e p piece))

  module _ (octets : Bytes piece) (going : has_ended h ≡ false) (room : length F ≡ frames_size) (some : 0 < length piece) (a : Turn) (F' : List ℕ) (m' : Memory)
      (told : settled (after a F' m') ≡ after_of F (state_after (get_or piece 0 0) h F m)) where
    first : piece ≡ get_or piece 0 0 ∷ drop 1 piece
    first = drop-cons piece 0 0 some

    -- the first byte ends it
    pub first_ends : ((w : Work) (c : Cursor) (d : ℕ) → a ≡ Wait w c d → ⊥) → (n : ℕ) → n ≡ cost_of a
        → (held_of h.lent (settled (after a F' m')) ≡ run_held start piece) × (n ≡ taken_by start piece)
    first_ends o n r = (
      sym (ap (run_held start) first ∙ runs_last (get_or piece 0 0) (octets 0) h F m going room a F' m' told o (drop 1 piece)),
      r ∙ sym (ap (taken_by start) first ∙ takes-last (get_or piece 0 0) (octets 0) h F m going room a F' m' told o (drop 1 piece)),
    )

    -- or others follow it
    module _ (w : Work) (c : Cursor) (d : ℕ) (e : a ≡ Wait w c d) where
      waited : settled (after (Wait w c d) F' m') ≡ after_of F (state_after (get_or piece 0 0) h F m)
      waited = ap (λ (a : Turn). settled (after a F' m')) (sym e) ∙ told

      pub first-ready : Nearly w c d F' m'
      first-ready = (is-ready (get_or piece 0 0) (octets 0) h F m w c d F' m' waited room).0

      pub first-waits : (y : Turn) (F'' : List ℕ) (m'' : Memory) (n : ℕ)
          → (held_of (lent_of m') (settled (after y F'' m'')) ≡ run_held (held (waiting (lent_of m') w c d F') m') (drop 1 piece))
          × (n ≡ suc (taken_by (held (waiting (lent_of m') w c d F') m') (drop 1 piece)))
          → (held_of h.lent (settled (after y F'' m'')) ≡ run_held start piece) × (n ≡ taken_by start piece)
      unfolding settled
      first-waits y F'' m'' n (p, q) =
          let l : h.lent ≡ lent_of m' = was_sound (get_or piece 0 0) (octets 0) h F m w c d F' m' waited ∙ sym (is-ready (get_or piece 0 0) (octets 0) h F m w c d F' m' waited room).1 in
          let run : run_held start piece ≡ run_held (held (waiting h.lent w c d F') m') (drop 1 piece) =
          ap (run_held start) first ∙ runs-byte (get_or piece 0 0) (octets 0) h F m going room (Wait w c d) F' m' waited (drop 1 piece) in
          let take : taken_by start piece ≡ suc (taken_by (held (waiting h.lent w c d F') m') (drop 1 piece)) =
          ap (taken_by start) first ∙ takes-byte (get_or piece 0 0) (octets 0) h F m going room (Wait w c d) F' m' waited (drop 1 piece) ∙ omega arith in (
            ap (λ (k : Lent). held_of k (settled (after y F'' m''))) l ∙ p ∙ sym (run ∙ ap (λ (k : Lent). run_held (held (waiting k w c d F') m') (drop 1 piece)) l),
            q ∙ sym (take ∙ ap (λ (k : Lent). suc (taken_by (held (waiting k w c d F') m') (drop 1 piece))) l),
          )

-- ---- the feeding that takes a piece

module _ {x : Result Next Refusal} {f g : Feeding} {h : Head} (piece : List ℕ) (octets : Bytes piece) (going : has_ended h ≡ false)
    (room : length f.frames.now ≡ frames_size) (some : 0 < length piece) (T : Takes x f g (get_or piece 0 0) h) where
  ends : (n : ℕ) → n ≡ cost_of (turn_of x g.cursor g.depth) → ((w : Work) (c : Cursor) (d : ℕ) → turn_of x g.cursor g.depth ≡ Wait w c d → ⊥) → RunsAll (x, n) f g h piece
  ends n q o =
      record {
        ran_all =
            ran-is
            (first_ends h f.frames.now (loans_of f) piece octets going room some (turn_of x g.cursor g.depth) g.frames.now (loans_of g) T.turn o n q);
        same = T.same;
      }

  pub took_over : x ≡ Ok next.Finished → RunsAll (Ok next.Finished, 1) f g h piece
  took_over p = rw p at (ends 1 (rw p) (rw p (λ w c d e. cc)))

  pub took_not : (r : Refusal) (n : ℕ) → x ≡ Err r → n ≡ cost_of (Refused r) → RunsAll (Err r, n) f g h piece
  took_not r n p q = rw p at (ends n (rw p q) (rw p (λ w c d e. cc)))

  module _ (w : Work) (p : x ≡ Ok (next.Wait w)) where
    is_wait : turn_of x g.cursor g.depth ≡ Wait w g.cursor g.depth
    is_wait = ap (λ (x : Result Next Refusal). turn_of x g.cursor g.depth) p

    pub took_ready : Nearly w g.cursor g.depth g.frames.now (loans_of g)
    took_ready =
        first-ready h f.frames.now (loans_of f) piece octets going room some (turn_of x g.cursor g.depth) g.frames.now (loans_of g) T.turn w g.cursor g.depth is_wait

    pub took_first : {y : Result Next Refusal × ℕ} {k : Feeding} → Drives y g k w piece → RunsAll y f k h piece
    took_first {y} {k} D =
        record {
          ran_all =
              ran-is
              (first-waits h f.frames.now (loans_of f) piece octets going room some (turn_of x g.cursor g.depth) g.frames.now (loans_of g) T.turn w g.cursor g.depth is_wait
              (turn_of y.0 k.cursor k.depth) k.frames.now (loans_of k) y.1 (ran-parts D.ran_past));
          same = both_same f g k T.same D.same;
        }

-- a refusal clears the loans, and the head is told
pub settled_run : (l : Lent) (x : Turn) (F : List ℕ) (m m' : Memory) (h : Head) (n : ℕ) (k : Fold) → after x F m' ≡ settled (after x F m) → h ≡ head_of l x
    → ran (held_of l (settled (after x F m))) n ≡ k → ran (held (numbers h F) m') n ≡ k
settled_run l x F m m' h n k e q p = rw q (ap (λ (a : After). ran (held_of l a) n) e ∙ p)
