-- A part of bytes into an output, as much of it as there is room for.
use mathlib.Core.Path.{◌≡◌, refl, ap, sym, ◌∙◌}
use mathlib.Core.Bool.{Bool, true, false}
use mathlib.Core.List.{List, [], ◌∷◌, ◌++◌, append_assoc}
use Prim.Native.Nat.{ℕ, ◌+◌, ◌-◌, ◌<◌, ◌≤◌, min}
use native.Mathlib.Omega.{arith}
use native.Mathlib.Nat.{zero-add}
use native.Mathlib.Decide.{dec_le}
use borrow.Author.Tests.{le-ltb, le-leb}
use lib.ListN.{length, take, drop}
use lib.Seq.{sets, sets-eq, take-length, take-append_seam, length-sets}
use Rattle.std.specs.Prelude.{Option, Some, Result, Ok, Err}
use Rattle.std.specs.Option.{IsSome}
use Rattle.wire.specs.Put.{with1, put_at}
use Rattle.format.specs.Writing.{these, stream_bytes}
use Rattle.writer.specs.declared.Stop.{Stop}
use Rattle.writer.specs.declared.Stop.TheVariants.{NoRoom}
use Rattle.writer.specs.declared.Writer.{Writer}
use Rattle.writer.specs.Run.{ran, run, Same, Puts}
use Rattle.writer.proofs.Streams.{renamed, same-refl, left, left-nil, fits, past, these-bytes, these-end}

module _ (dry : Bool) (at : ℕ) (O : List ℕ) where
  part_none : (s : List ℕ) → length s ≡ 0 → ran (Ok tt) at O ≡ run dry (these s) at O
  unfolding run these
  part_none [] z = refl
  part_none (b ∷ s) z = absurd (omega arith)

  part-past : (s : List ℕ) → 0 < length s → length O ≤ at → ran (Err NoRoom) at O ≡ run dry (these s) at O
  unfolding run these
  part-past [] z l = absurd (omega arith)
  part-past (b ∷ s) z l = rw (le-ltb _ _ l)

  -- n bytes of s, of which P holds as many as are kept
  module _ (s : List ℕ) {n : ℕ} {P : List ℕ} (q : n ≡ min (length s) (length O - at)) (p : P ≡ left dry O at (take n s)) where
    none : n ≡ 0 → P ≡ O
    none z = (rw z at p) ∙ sym (left-nil dry O at)

    run-short : n < length s → ran (Err NoRoom) (at + n) P ≡ run dry (these s) at O
    run-short h =
        elim (dec_le (length O) at) [
          | yes l ↦
              (let z : n ≡ 0 = omega arith in
              let k : at + n ≡ at = omega arith in
              rw (none z, k) (part-past s (omega arith) l))
          | no l ↦
              (let z : n ≡ length O - at = omega arith in
              let w : at + n ≡ length O = omega arith in
              let k : length O < at + length (stream_bytes (these s)) = rw (these-bytes s) (omega arith) in
              rw w (sym (past dry (these s) at O (omega arith) k ∙ rw (these-bytes s, ← z, ← p))))
        ]

    run-whole : length s ≤ n → ran (Ok tt) (at + n) P ≡ run dry (these s) at O
    run-whole h =
        elim (dec_le (length s) 0) [
          | yes l ↦
              (let z : n ≡ 0 = omega arith in
              let k : at + n ≡ at = omega arith in
              rw (none z, k) (part_none s (omega arith)))
          | no l ↦
              (let z : n ≡ length s = omega arith in
              let e : P ≡ left dry O at s = (rw (z, take-length s) at p) in
              let k : at + length (stream_bytes (these s)) ≤ length O = rw (these-bytes s) (omega arith) in
              rw z (sym (fits dry (these s) at O k ∙ rw (these-end s, these-bytes s, ← e))))
        ]

-- m is o with n bytes of s stored
pub record Stored (o m : Writer) (s : List ℕ) (n : ℕ) : Type 0 where
  pub same : Same o m
  pub at : m.at ≡ o.at
  pub kept : m.out.now ≡ left o.dry o.out.now o.at (take n s)

module _ (o : Writer) (s : List ℕ) (n : ℕ) {m : Writer} where
  pub stored-real : {P : List ℕ} → m ≡ record o { out = record o.out { now = P } } → o.dry ≡ false → P ≡ sets o.out.now o.at (take n s) → Stored o m s n
  stored-real e d p = rw e (record { same = record { table = refl; dry = refl; output = refl }; at = refl; kept = rw d p })

  unchanged : m ≡ o → o.out.now ≡ left o.dry o.out.now o.at (take n s) → Stored o m s n
  unchanged e k = rw e (record { same = same-refl o; at = refl; kept = k })

  pub stored_none : m ≡ o → n ≤ 0 → Stored o m s n
  stored_none e h = let z : n ≡ 0 = omega arith in unchanged e (rw z (left-nil o.dry o.out.now o.at))

  pub stored-dry : m ≡ o → o.dry ≡ true → Stored o m s n
  stored-dry e d = unchanged e (rw d)

module _ (o m : Writer) (s : List ℕ) {room n : ℕ} (r : room ≡ length o.out.now - o.at) (q : n ≡ min (length s) room) (k : Stored o m s n) where
  pub short : n < length s → Puts (Err NoRoom) o (record m { at = m.at + n }) s
  short h =
      record {
        same = record { table = k.same.table; dry = k.same.dry; output = k.same.output };
        runs = rw k.at (run-short o.dry o.at o.out.now s (q ∙ ap (min (length s)) r) k.kept h);
      }

  pub whole : length s ≤ n → Puts (Ok tt) o (record m { at = m.at + n }) s
  whole h =
      record {
        same = record { table = k.same.table; dry = k.same.dry; output = k.same.output };
        runs = rw k.at (run-whole o.dry o.at o.out.now s (q ∙ ap (min (length s)) r) k.kept h);
      }

-- a byte: no room, or one byte stored
module _ (o : Writer) (b : ℕ) where
  pub byte_past : length o.out.now ≤ o.at → Puts (Err NoRoom) o o (b ∷ [])
  byte_past h = record { same = same-refl o; runs = part-past o.dry o.at o.out.now (b ∷ []) (omega arith) h }

  pub byte_stored : {m : Writer} → o.at < length o.out.now → Stored o m (b ∷ []) 1 → Puts (Ok tt) o (record m { at = m.at + 1 }) (b ∷ [])
  byte_stored {m} h k = whole o m (b ∷ []) refl (omega arith) k (omega arith)

-- a number put into an array of its own, and then that part of it
module _ (blank bs : List ℕ) {F : List ℕ} {p : Option ℕ} (e : with1 p F ≡ put_at blank 0 bs) (l : length bs ≤ length blank) where
  put : with1 p F ≡ with1 (Some (length bs)) (sets blank 0 bs)
  unfolding put_at
  put = rw (le-leb (0 + length bs) (length blank) (omega arith), zero-add (length bs)) at e

  pub form-there : IsSome p
  form-there = let q : p ≡ Some (length bs) = (let z = put in cc) in rw q refl

  module _ {n : ℕ} (f : p ≡ Some n) where
    pub form-size : n ≤ length F
    form-size =
        let z = put in
        let a : n ≡ length bs = cc in
        let b : F ≡ sets blank 0 bs = cc in
        rw (a, b, length-sets blank 0 bs) l

    pub form-part : take n F ≡ bs
    form-part =
        let z = put in
        let a : n ≡ length bs = cc in
        let b : F ≡ sets blank 0 bs = cc in
        let c : 0 + length bs ≡ length bs = omega arith in
        rw (b, a, sets-eq bs blank 0 (omega arith)) (take-append_seam bs (drop (0 + length bs) blank))

-- a head with its flag, and then the bytes
pub raw-bytes : (m f : ℕ) (s t : List ℕ) → (m ∷ s ++ f ∷ []) ++ t ≡ m ∷ s ++ f ∷ t
raw-bytes m f s t = ap (λ (l : List ℕ). m ∷ l) (append_assoc s (f ∷ []) t)

pub raw-by : {o n : Writer} {r : Result (Unit {0}) Stop} (m f : ℕ) (s t : List ℕ) → Puts r o n ((m ∷ s ++ f ∷ []) ++ t) → Puts r o n (m ∷ s ++ f ∷ t)
raw-by m f s t = renamed _ _ (ap these (raw-bytes m f s t))
