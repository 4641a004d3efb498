-- Bytes of a text or of a raw body, none of them the last: a step for each is one copy, and a vector's count is that of the last.
use mathlib.Core.Path.{◌≡◌, refl, sym, ap, ◌∙◌}
use mathlib.Core.Bool.{true, false}
use mathlib.Core.List.{List, [], ◌∷◌, ◌++◌}
use Prim.Native.Nat.{ℕ, zero, suc, ◌+◌, ◌-◌, ◌/◌, ◌^◌, ◌≤◌, ◌<◌}
use native.Mathlib.Nat.{zero-add, add-zero}
use native.Mathlib.Omega.{arith}
use borrow.Author.Tests.{le-leb, lt-ltb, lt-leb, ne_eqb, eqb-true, eqb-false}
use lib.Dec.{eqb}
use lib.ListN.{length, set}
use lib.Seq.{sets, set-set}
use Rattle.rows.specs.declared.Cursor.{Cursor}
use Rattle.rows.specs.declared.Span.{Span}
use Rattle.rows.specs.Memory.{Memory, memory, message_limit, put, row_used, col_count, row_width}
use Rattle.utf8.specs.States.{step_of, fold_of}
use Rattle.format.specs.declared.Head.{Head}
use Rattle.rows.specs.declared.lent.Lent.{Lent}
use Rattle.format.specs.declared.Work.{Work}
use Rattle.format.specs.Decide.{give, width_of, grown}
use Rattle.format.specs.Reading.{taken}
use Rattle.format.specs.Step.{assoc, dynamics, for_string, for_key, for_class, for_external, for_name, for_vector, Text, xml_text, table_text}
use Rattle.format.specs.Step.{Raw, byte_array, raw_vector, raw_row, Mode, at_text, at_raw, wait, step, act, filling, raw_grown}
use Rattle.format.specs.Numbers.{Held, held, work, mode_of, use_work, work_of, frames_of, lent_of, sound, pairs_fit, depth_fits, frames_size}
use Rattle.format.specs.Answers.{run_held, taken_by}
use Rattle.format.proofs.Tests.{on_bool, clash}
use Rattle.format.proofs.States.{mode-of}
use Rattle.format.proofs.Used.{ModeIn, Counts}
use Rattle.format.proofs.Shows.{good-sound, good-waits}
use Rattle.wire.proofs.Octets.{Bytes}
use Rattle.states.specs.Ends.{has_ended}
use Rattle.format.proofs.Stores.{place, stored_there}
use Rattle.resume.specs.Steps.{loans_of, Same, Decides, decided, grown_by, Wait, after, after_of, settled}
use Rattle.states.specs.Purposes.{IsRaw}
use Rattle.states.proofs.Frames.{length-frames, laid-frames}
use Rattle.states.proofs.Purposes.{between, purposed, text_of, raw_of}
use Rattle.states.proofs.Modes.{mode-text, mode-raw, fits-text, fits-raw, no_mode}
use Rattle.std.specs.Prelude.{Result, Ok, Err}
use Rattle.format.specs.declared.Refusal.{Refusal}
use Rattle.resume.specs.declared.Feeding.{Feeding}
use Rattle.resume.proofs.Moves.{both_same}
use Rattle.pieces.specs.States.{Filled, further, count_by, head_of, state_after, waiting, Ready, work_past, rows_past, rows_after}
use Rattle.pieces.proofs.Steps.{stepped-on, deep-enough}
use Rattle.pieces.proofs.Bytes.{nearly_ready, pairs_hold, runs-byte, takes-byte, is-ready}
use Rattle.format.specs.Codes.{mode_text, mode_raw}

-- a state that waits over its own frames
waits_so : (F : List ℕ) (depth : ℕ) (c : Cursor) (m : Memory) (x : Mode) → settled (after (Wait (work_of x) c depth) F m) ≡ after_of F (wait x (frames_of F depth) c m)
unfolding settled after_of
waits_so F depth c m x = rw (laid-frames F depth, length-frames F depth)

-- ---- a work that goes on

-- with so many bytes left, and the text test so far
abbrev going : Work → ℕ → ℕ → Work
going w left part = work w.mode w.purpose w.row left part w.span w.kind w.count w.done

text-going : (y : Text) (p : Span) (n t k v : ℕ) → work_of (at_text y p k v) ≡ going (work_of (at_text y p n t)) k v
unfolding work_of use_work
text-going (xml_text row) p n t k v = refl
text-going (table_text (for_string row)) p n t k v = refl
text-going (table_text (for_key (assoc row left done))) p n t k v = refl
text-going (table_text (for_key (dynamics row done))) p n t k v = refl
text-going (table_text (for_class row names y)) p n t k v = refl
text-going (table_text for_external) p n t k v = refl
text-going (table_text (for_name row y more)) p n t k v = refl
text-going (table_text (for_vector row entries)) p n t k v = refl

raw-going : (r : Raw) (p : Span) (n k : ℕ) → work_of (at_raw r p k) ≡ going (work_of (at_raw r p n)) k (work_of (at_raw r p n)).part
unfolding work_of
raw-going (byte_array row) p n k = refl
raw-going (raw_vector row w) p n k = refl

-- the rows after a byte of a raw body with n more behind it
abbrev grew : Raw → Span → ℕ → List ℕ → List ℕ
grew (byte_array row) p n R = R
grew (raw_vector row w) p n R = put R row col_count ((p.size - n) / width_of w)

grew-over : (r : Raw) (p : Span) (n k : ℕ) (R : List ℕ) → grew r p n (grew r p k R) ≡ grew r p n R
grew-over (byte_array row) p n k R = refl
grew-over (raw_vector row w) p n k R = set-set R _ _ _

module _ (w : Work) (raw : IsRaw w.purpose) where
  row_of : raw_row (raw_of w.purpose w.row) ≡ w.row
  row_of = between (λ p. raw_row (raw_of p w.row) ≡ w.row) 6 3 (refl, (refl, (refl, tt))) w.purpose (omega arith) (omega arith)

  rows_grew : (n : ℕ) (R : List ℕ) (c : Cursor) → row_used R c w.row ≡ true
      → rows_after R (count_by (going w n w.part) R c) ≡ grew (raw_of w.purpose w.row) w.span n R
  unfolding grown
  rows_grew n R c u =
      between (λ p. rows_after R (count_by (going (purposed w p) n w.part) R c) ≡ grew (raw_of p w.row) w.span n R) 6 3
      (refl, (rw u, (rw u, tt))) w.purpose (omega arith) (omega arith)

-- ---- bytes, one after another

module _ (depth : ℕ) (F T O U N : List ℕ) (room : length F ≡ frames_size) (l : Lent) where
  -- the loans, and what is held while they are worked on
  abbrev loans : List ℕ → List ℕ → Memory
  loans R B = memory R B T O U N

  abbrev holding : Work → Cursor → List ℕ → List ℕ → Held
  holding w c R B = held (waiting l w c depth F) (loans R B)

  -- the state is sound, over loans of these lengths
  abbrev Stands : Work → Cursor → List ℕ → List ℕ → Type 0
  Stands w c R B = Ready w c depth F (loans R B) × (lent_of (loans R B) ≡ l)

  -- bytes are taken, each of them, up to a state
  pub record Runs (h : Held) (bs : List ℕ) (w : Work) (c : Cursor) (R B : List ℕ) : Type 0 where
    pub stands : Stands w c R B
    pub runs : (rest : List ℕ) → run_held h (bs ++ rest) ≡ run_held (holding w c R B) rest
    pub takes : (rest : List ℕ) → taken_by h (bs ++ rest) ≡ length bs + taken_by (holding w c R B) rest

  runs_none : (w : Work) (c : Cursor) (R B : List ℕ) → Stands w c R B → Runs (holding w c R B) [] w c R B
  runs_none w c R B s = record { stands = s; runs = λ rest. refl; takes = λ rest. sym (zero-add _) }

  module _ (b : ℕ) (octet : b < 2 ^ 8) (x x' : Mode) (c : Cursor) (R B R' B' : List ℕ) (s : Stands (work_of x) c R B)
      (pairs : pairs_fit c x ≡ pairs_fit (taken c) x')
      (acts : step b (wait x (frames_of F depth) c (loans R B)) ≡ wait x' (frames_of F depth) (taken c) (loans R' B')) where
    abbrev hd : Head
    hd = head_of l (Wait (work_of x) c depth)

    told : settled (after (Wait (work_of x') (taken c) depth) F (loans R' B')) ≡ after_of F (state_after b hd F (loans R B))
    told =
        let sounds : true ≡ sound l (mode_of (work_of x)) (frames_of F depth) c (loans R B) = rw (← s.1) (sym s.0.0) in
        stepped-on b hd F (loans R B) refl true sounds _ refl
        (waits_so F depth (taken c) (loans R' B') x' ∙ ap (after_of F) (rw (mode-of x) (sym acts)))

    stands-next : Stands (work_of x') (taken c) R' B'
    stands-next =
        let r = is-ready b octet hd F (loans R B) (work_of x') (taken c) depth F (loans R' B') told room in
        let e : pairs_fit c x ≡ true = rw (mode-of x) at (pairs_hold (work_of x) c depth F (loans R B) s.0) in
        (nearly_ready (work_of x') (taken c) depth F (loans R' B') r.0 (rw (mode-of x') (sym pairs ∙ e)), r.1 ∙ s.1)

    runs-more : (bs : List ℕ) (v : Work) (d : Cursor) (P Q : List ℕ) → Runs (holding (work_of x') (taken c) R' B') bs v d P Q
        → Runs (holding (work_of x) c R B) (b ∷ bs) v d P Q
    unfolding has_ended settled
    runs-more bs v d P Q k =
        record {
          stands = k.stands;
          runs = λ rest. runs-byte b octet hd F (loans R B) refl room (Wait (work_of x') (taken c) depth) F (loans R' B') told (bs ++ rest) ∙ k.runs rest;
          takes = λ rest.
              takes-byte b octet hd F (loans R B) refl room (Wait (work_of x') (taken c) depth) F (loans R' B') told (bs ++ rest) ∙ rw (k.takes rest) (omega arith);
        }

  -- the same numbers, and the same lists
  runs_as : (w₁ w w₂ w' : Work) (c d : Cursor) (bs R B R₂ R' B₂ B' : List ℕ) → w₁ ≡ w → w₂ ≡ w' → R₂ ≡ R' → B₂ ≡ B'
      → Runs (holding w₁ c R B) bs w₂ d R₂ B₂ → Runs (holding w c R B) bs w' d R' B'
  runs_as w₁ w w₂ w' c d bs R B R₂ R' B₂ B' e f g h k = rw (← e, ← f, ← g, ← h) k

  -- what the mode of a sound state works with
  used : (w : Work) (x : Mode) (c : Cursor) (R B : List ℕ) → mode_of w ≡ x → Stands w c R B → Counts (lent_of (loans R B)) c × ModeIn x c
  used w x c R B e s =
      let (h, f, u) = good-waits (good-sound (lent_of (loans R B)) (mode_of w) (frames_of F depth) c (loans R B) s.0.0) in
      (h.counts, rw e at u)

  used-in : (x : Mode) (c : Cursor) (R B : List ℕ) → Stands (work_of x) c R B → Counts (lent_of (loans R B)) c × ModeIn x c
  used-in x c R B = used (work_of x) x c R B (mode-of x)

  -- ---- a text

  text-pairs : (y : Text) (p : Span) (n n' t t' : ℕ) (c : Cursor) → pairs_fit c (at_text y p n t) ≡ pairs_fit (taken c) (at_text y p n' t')
  text-pairs (xml_text row) p n n' t t' c = refl
  text-pairs (table_text (for_string row)) p n n' t t' c = refl
  text-pairs (table_text (for_key (assoc row left done))) p n n' t t' c = refl
  text-pairs (table_text (for_key (dynamics row done))) p n n' t t' c = refl
  text-pairs (table_text (for_class row names y)) p n n' t t' c = refl
  text-pairs (table_text for_external) p n n' t t' c = refl
  text-pairs (table_text (for_name row y more)) p n n' t t' c = refl
  text-pairs (table_text (for_vector row entries)) p n n' t t' c = refl

  text_acts : (b : ℕ) (y : Text) (p : Span) (n t : ℕ) (c : Cursor) (R B : List ℕ) → Stands (work_of (at_text y p (suc n) t)) c R B → c.at < message_limit
      → step b (wait (at_text y p (suc n) t) (frames_of F depth) c (loans R B))
      ≡ wait (at_text y p n (step_of t b)) (frames_of F depth) (taken c) (loans R (set B (place p (suc n)) b))
  unfolding step act lent_of
  text_acts b y p n t c R B s f =
      let (k, ((i, (sp, low)), _)) = used-in (at_text y p (suc n) t) c R B s in
      rw (lt-leb message_limit c.at f, stored_there p (suc n) b B (taken c) sp (omega arith) low)

  text-runs : (bs : List ℕ) → Bytes bs → (y : Text) (p : Span) (n t : ℕ) (c : Cursor) (R B : List ℕ) → Stands (work_of (at_text y p n t)) c R B
      → length bs ≤ n → c.at + length bs ≤ message_limit
      → Runs (holding (work_of (at_text y p n t)) c R B) bs (work_of (at_text y p (n - length bs) (fold_of t bs))) (further c (c.at + length bs)) R (sets B (place p n) bs)
  unfolding fold_of
  text-runs [] o y p n t c R B s h f =
      let e : n - 0 ≡ n = omega arith in
      rw (e, add-zero c.at) (runs_none (work_of (at_text y p n t)) c R B s)
  text-runs (b ∷ bs) o y p zero t c R B s h f = absurd (omega arith)
  text-runs (b ∷ bs) o y p (suc n) t c R B s h f =
      let (k, ((i, (sp, low)), _)) = used-in (at_text y p (suc n) t) c R B s in
      let e1 : suc n - suc (length bs) ≡ n - length bs = omega arith in
      let e2 : c.at + suc (length bs) ≡ suc c.at + length bs = omega arith in
      let e3 : suc (place p (suc n)) ≡ place p n = omega arith in
      let a : step b (wait (at_text y p (suc n) t) (frames_of F depth) c (loans R B))
      ≡ wait (at_text y p n (step_of t b)) (frames_of F depth) (taken c) (loans R (set B (place p (suc n)) b)) = text_acts b y p n t c R B s (omega arith) in
      runs-more b (o 0) (at_text y p (suc n) t) (at_text y p n (step_of t b)) c R B R (set B (place p (suc n)) b) s (text-pairs y p (suc n) n t (step_of t b) c) a bs _ _ _ _
      (rw (e1, e2, e3) (text-runs bs (λ i. o (suc i)) y p n (step_of t b) (taken c) R (set B (place p (suc n)) b)
      (stands-next b (o 0) (at_text y p (suc n) t) (at_text y p n (step_of t b)) c R B R (set B (place p (suc n)) b) s (text-pairs y p (suc n) n t (step_of t b) c) a) (omega arith) (omega arith)))

  -- ---- a raw body

  raw_acts : (b : ℕ) (r : Raw) (p : Span) (n : ℕ) (c : Cursor) (R B : List ℕ) → Stands (work_of (at_raw r p (suc n))) c R B → c.at < message_limit
      → step b (wait (at_raw r p (suc n)) (frames_of F depth) c (loans R B))
      ≡ wait (at_raw r p n) (frames_of F depth) (taken c) (loans (grew r p (suc n) R) (set B (place p (suc n)) b))
  unfolding step act filling raw_grown grown lent_of
  raw_acts b (byte_array row) p n c R B s f =
      let (k, (i, (sp, low))) = used-in (at_raw (byte_array row) p (suc n)) c R B s in
      rw (lt-leb message_limit c.at f, stored_there p (suc n) b B (taken c) sp (omega arith) low)
  raw_acts b (raw_vector row w) p n c R B s f =
      let (k, (i, (sp, low))) = used-in (at_raw (raw_vector row w) p (suc n)) c R B s in
      rw (lt-leb message_limit c.at f, stored_there p (suc n) b B (taken c) sp (omega arith) low)
      (rw (lt-ltb row c.rows i, le-leb c.rows (length R / row_width) (omega arith)))

  -- a byte, and what follows it
  raw-more : (b : ℕ) → b < 2 ^ 8 → (r : Raw) (p : Span) (n : ℕ) (c : Cursor) (R B : List ℕ) → Stands (work_of (at_raw r p (suc n))) c R B → c.at < message_limit
      → (bs : List ℕ) (v : Work) (d : Cursor) (P Q : List ℕ)
      → (Stands (work_of (at_raw r p n)) (taken c) (grew r p (suc n) R) (set B (place p (suc n)) b)
      → Runs (holding (work_of (at_raw r p n)) (taken c) (grew r p (suc n) R) (set B (place p (suc n)) b)) bs v d P Q)
      → Runs (holding (work_of (at_raw r p (suc n))) c R B) (b ∷ bs) v d P Q
  raw-more b o r p n c R B s f bs v d P Q more =
      let a = raw_acts b r p n c R B s f in
      runs-more b o (at_raw r p (suc n)) (at_raw r p n) c R B (grew r p (suc n) R) (set B (place p (suc n)) b) s refl a bs v d P Q
      (more (stands-next b o (at_raw r p (suc n)) (at_raw r p n) c R B (grew r p (suc n) R) (set B (place p (suc n)) b) s refl a))

  raw_runs : (b : ℕ) (bs : List ℕ) → Bytes (b ∷ bs) → (r : Raw) (p : Span) (n : ℕ) (c : Cursor) (R B : List ℕ) → Stands (work_of (at_raw r p n)) c R B
      → suc (length bs) ≤ n → c.at + suc (length bs) ≤ message_limit
      → Runs (holding (work_of (at_raw r p n)) c R B) (b ∷ bs) (work_of (at_raw r p (n - suc (length bs)))) (further c (c.at + suc (length bs))) (grew r p (n - length bs) R)
      (sets B (place p n) (b ∷ bs))
  raw_runs b bs o r p zero c R B s h f = absurd (omega arith)
  raw_runs b [] o r p (suc n) c R B s h f =
      let e1 : suc n - 1 ≡ n = omega arith in
      let e2 : c.at + 1 ≡ suc c.at = omega arith in
      let e3 : suc n - 0 ≡ suc n = omega arith in
      raw-more b (o 0) r p n c R B s (omega arith) [] _ _ _ _ (λ s'. rw (e1, e2, e3) (runs_none (work_of (at_raw r p n)) (taken c) (grew r p (suc n) R) (set B (place p (suc n)) b) s'))
  raw_runs b (v ∷ vs) o r p (suc n) c R B s h f =
      let (k, (i, (sp, low))) = used-in (at_raw r p (suc n)) c R B s in
      let e1 : suc n - suc (suc (length vs)) ≡ n - suc (length vs) = omega arith in
      let e2 : c.at + suc (suc (length vs)) ≡ suc c.at + suc (length vs) = omega arith in
      let e3 : suc (place p (suc n)) ≡ place p n = omega arith in
      let e4 : suc n - suc (length vs) ≡ n - length vs = omega arith in
      raw-more b (o 0) r p n c R B s (omega arith) (v ∷ vs) _ _ _ _ (λ s'.
      rw (e1, e2, e3, e4, ← grew-over r p (n - length vs) (suc n) R)
      (raw_runs v vs (λ i. o (suc i)) r p n (taken c) (grew r p (suc n) R) (set B (place p (suc n)) b) s' (omega arith) (omega arith)))

  -- ---- by the numbers of the work

  module _ (w : Work) (c : Cursor) (R B : List ℕ) (s : Stands w c R B) (high : 4 < w.mode) where
    deep : depth_fits (mode_of w) depth ≡ true
    deep = deep-enough 0 (head_of (lent_of (loans R B)) (Wait w c depth)) F (loans R B) refl true (sym s.0.0) refl

    is-text : w.mode ≡ mode_text → mode_of w ≡ at_text (text_of w) w.span w.left w.part
    is-text e = mode-text w e (fits-text w depth e deep).1

    -- no mode is left but the raw bytes
    is_six : (w.mode ≡ mode_text → ⊥) → w.mode ≡ mode_raw
    is_six n = on_bool (eqb w.mode mode_raw) (λ e. eqb-true w.mode 6 e)
        (λ e. absurd (no_mode w (λ q. omega arith) (λ q. omega arith) (λ q. omega arith) (λ q. omega arith) n (eqb-false w.mode 6 e) depth deep))

    pub is-raw : (w.mode ≡ mode_text → ⊥) → IsRaw w.purpose
    is-raw n = (fits-raw w depth (is_six n) deep).1

    raw-mode : (w.mode ≡ mode_text → ⊥) → mode_of w ≡ at_raw (raw_of w.purpose w.row) w.span w.left
    raw-mode n = mode-raw w (is_six n) (is-raw n)

    -- the span lies in the store, and what is left in the span
    pub spans : (w.span.begin + w.span.size ≤ length B) × (w.left < w.span.size)
    unfolding lent_of
    spans = on_bool (eqb w.mode mode_text)
        (λ e. let (k, ((i, (sp, low)), _)) = used w _ c R B (is-text (eqb-true w.mode 5 e)) s in (omega arith, low))
        (λ e. let (k, (i, (sp, low))) = used w _ c R B (raw-mode (eqb-false w.mode 5 e)) s in (omega arith, low))

    -- its row is used
    pub raw_used : (w.mode ≡ mode_text → ⊥) → row_used R c w.row ≡ true
    unfolding lent_of
    raw_used n =
        let (counts, (i, (sp, low))) = used w _ c R B (raw-mode n) s in
        let row : w.row < c.rows = rw (row_of w (is-raw n)) at i in
        rw (lt-ltb w.row c.rows row, le-leb c.rows (length R / row_width) (omega arith))

    -- the count of a vector follows the last byte
    rows-past : (w.mode ≡ mode_text → ⊥) → (k : ℕ) → k < w.left → grew (raw_of w.purpose w.row) w.span (w.left - k) R ≡ rows_past w c (suc k) R
    unfolding lent_of
    rows-past n k h =
        let e : w.left - suc k + 1 ≡ w.left - k = omega arith in
        rw (ne_eqb w.mode mode_text n, e) (sym (rows_grew w (is-raw n) (w.left - k) R c (raw_used n)))

    module _ (b : ℕ) (bs : List ℕ) (octets : Bytes (b ∷ bs)) (w' : Work) (R' B' : List ℕ) (most : suc (length bs) ≤ w.left) (fits : c.at + suc (length bs) ≤ message_limit)
        (eB : B' ≡ sets B (w.span.begin + (w.span.size - (w.left + 1))) (b ∷ bs)) (ew : w' ≡ work_past w (suc (length bs)) (b ∷ bs))
        (eR : R' ≡ rows_past w c (suc (length bs)) R) where
      at_place : sets B (place w.span w.left) (b ∷ bs) ≡ B'
      at_place = let e : w.left + 1 ≡ suc w.left = omega arith in sym (rw e at eB)

      past-text : eqb w.mode mode_text ≡ true → Runs (holding w c R B) (b ∷ bs) w' (further c (c.at + suc (length bs))) R' B'
      past-text e =
          let y : Text = text_of w in
          let v : work_of (at_text y w.span w.left w.part) ≡ w = ap work_of (sym (is-text (eqb-true w.mode 5 e))) ∙ s.0.1 in
          let k : ℕ = w.left - suc (length bs) in
          let t : ℕ = fold_of w.part (b ∷ bs) in
          runs_as (work_of (at_text y w.span w.left w.part)) w (work_of (at_text y w.span k t)) w' c (further c (c.at + suc (length bs))) (b ∷ bs) R B R R'
          (sets B (place w.span w.left) (b ∷ bs)) B' v
          (text-going y w.span w.left w.part k t ∙ ap (λ (u : Work). going u k t) v ∙ sym (rw e at ew)) (sym (rw e at eR)) at_place
          (text-runs (b ∷ bs) octets y w.span w.left w.part c R B (rw v s) most fits)

      past-raw : eqb w.mode mode_text ≡ false → Runs (holding w c R B) (b ∷ bs) w' (further c (c.at + suc (length bs))) R' B'
      past-raw e =
          let n : w.mode ≡ mode_text → ⊥ = eqb-false w.mode 5 e in
          let r : Raw = raw_of w.purpose w.row in
          let v : work_of (at_raw r w.span w.left) ≡ w = ap work_of (sym (raw-mode n)) ∙ s.0.1 in
          let k : ℕ = w.left - suc (length bs) in
          runs_as (work_of (at_raw r w.span w.left)) w (work_of (at_raw r w.span k)) w' c (further c (c.at + suc (length bs))) (b ∷ bs) R B
          (grew r w.span (w.left - length bs) R) R' (sets B (place w.span w.left) (b ∷ bs)) B' v
          (raw-going r w.span w.left k ∙ ap (λ (u : Work). going u k u.part) v ∙ sym (rw e at ew)) (rows-past n (length bs) (omega arith) ∙ sym eR) at_place
          (raw_runs b bs octets r w.span w.left c R B (rw v s) most fits)

      past-some : Runs (holding w c R B) (b ∷ bs) w' (further c (c.at + suc (length bs))) R' B'
      past-some = on_bool (eqb w.mode mode_text) past-text past-raw

    pub past : (bs : List ℕ) → Bytes bs → (k : ℕ) (w' : Work) (R' B' : List ℕ) → length bs ≡ k → 0 < k → k ≤ w.left → c.at + k ≤ message_limit
        → B' ≡ sets B (w.span.begin + (w.span.size - (w.left + 1))) bs → w' ≡ work_past w k bs → R' ≡ rows_past w c k R
        → Runs (holding w c R B) bs w' (further c (c.at + k)) R' B'
    past [] o k w' R' B' e some most fits eB ew eR = absurd (omega arith)
    past (b ∷ bs) o k w' R' B' e some most fits eB ew eR =
        rw (← e) (past-some b bs o w' R' B' (omega arith) (omega arith) eB (rw (← e) at ew) (rw (← e) at eR))

-- ---- what `fill` does

-- the bytes are copied, and the cursor is past them
pub record Copied (f f' : Feeding) (w : Work) (bs : List ℕ) : Type 0 where
  pub loans :
      loans_of f'
      ≡ memory f.rows.now (sets f.store.now (w.span.begin + (w.span.size - (w.left + 1))) bs) f.strings.now f.objects.now f.traits.now f.names.now
  pub cursor : f'.cursor ≡ further f.cursor (f.cursor.at + length bs)
  pub depth : f'.depth ≡ f.depth
  pub frames : f'.frames.now ≡ f.frames.now
  pub same : Same f f'

module _ {f f' : Feeding} {w : Work} {bs : List ℕ} (K : Copied f f' w bs) where
  pub fills-text : w.mode ≡ mode_text → Filled f f' w bs
  fills-text e = record { loans = rw e K.loans; cursor = K.cursor; depth = K.depth; frames = K.frames; same = K.same }

  -- a vector's row is used, so that its count is put
  abbrev last : Work
  last = going w (w.left - length bs + 1) w.part

  counts : IsRaw w.purpose → (m : Memory) (c : Cursor) → row_used m.rows c w.row ≡ true
      → grown_by last m c ≡ give tt (memory (rows_after m.rows (count_by last m.rows c)) m.store m.strings m.objects m.traits m.names) c
  unfolding grown
  counts raw m c u =
      between
      (λ p. grown_by (purposed last p) m c ≡ give tt (memory (rows_after m.rows (count_by (purposed last p) m.rows c)) m.store m.strings m.objects m.traits m.names) c)
      6 3 (refl, (rw u, (rw u, tt))) w.purpose (omega arith) (omega arith)

  counts-further : IsRaw w.purpose → (R : List ℕ) (c : Cursor) (n : ℕ) → row_used R c w.row ≡ true
      → rows_after R (count_by last R (further c n)) ≡ rows_after R (count_by last R c)
  unfolding grown
  counts-further raw R c n u =
      between (λ p. rows_after R (count_by (purposed last p) R (further c n)) ≡ rows_after R (count_by (purposed last p) R c)) 6 3
      (refl, (rw u, (rw u, tt))) w.purpose (omega arith) (omega arith)

  gave_so : (x : Result Unit Refusal) (g : Feeding) (m : Memory) (c : Cursor) → decided x g ≡ give tt m c → (loans_of g ≡ m) × (g.cursor ≡ c)
  gave_so (Ok u) g m c e = (cc, cc)
  gave_so (Err r) g m c e = clash cc

  pub fills-raw : {x : Result Unit Refusal} {g : Feeding} → (w.mode ≡ mode_text → ⊥) → IsRaw w.purpose × (row_used f.rows.now f.cursor w.row ≡ true)
      → Decides x f' g (grown_by last) → Filled f g w bs
  fills-raw {x} {g} n (raw, u) D =
      let r : f'.rows.now ≡ f.rows.now = ap (λ (m : Memory). m.rows) K.loans in
      let u' : row_used f'.rows.now f'.cursor w.row ≡ true = rw (r, K.cursor) u in
      let p = gave_so x g _ _ (D.gave ∙ counts raw (loans_of f') f'.cursor u') in
      record {
        loans =
            p.0
            ∙ rw (ne_eqb w.mode mode_text n, K.cursor)
            (ap (λ (m : Memory). memory (rows_after m.rows (count_by last m.rows (further f.cursor (f.cursor.at + length bs)))) m.store m.strings m.objects m.traits m.names) K.loans
            ∙ ap (λ R. memory R (sets f.store.now (w.span.begin + (w.span.size - (w.left + 1))) bs) f.strings.now f.objects.now f.traits.now f.names.now)
            (counts-further raw f.rows.now f.cursor (f.cursor.at + length bs) u));
        cursor = p.1 ∙ K.cursor;
        depth = D.inside.depth ∙ K.depth;
        frames = D.inside.frames ∙ K.frames;
        same = both_same f f' g K.same D.inside.same;
      }
