-- Dates: read by their bits, asked for their milliseconds, and written again.
use Rattle.std.proofs.Common.{Option, None, ℤ}
use mathlib.Core.Path.{◌≡◌, refl, sym, ap, ◌∙◌}
use mathlib.Core.Bool.{Bool, true, false, cond, not, ◌&&◌}
use mathlib.Core.Logic.{◌≢◌}
use mathlib.Core.List.{List, [], ◌∷◌, ◌++◌, append-nil}
use Prim.Native.Nat.{ℕ, zero, suc, ◌+◌, ◌/◌, ◌%◌, ◌^◌, ◌≤◌, ◌<◌}
use native.Mathlib.Omega.{arith}
use borrow.Author.Tests.{eq-eqb, ne_eqb, le-ltb}
use lib.Dec.{T, eqb, lit<, lit≤}
use lib.IntN.{pos}
use lib.Ieee.{binary64, whole, of_int, of_bits, to_bits, to_unsigned}
use lib.ListN.{length}
use Rattle.wire.specs.Date.{refused_date, moment_of}
use Rattle.wire.specs.Big.{number_of, bytes_of}
use Rattle.wire.specs.Octets.{Bytes}
use Rattle.wire.proofs.Big.{bytes_below, bytes-length}
use Rattle.wire.proofs.Dates.{refused_ones, writes-as_crate}
use Rattle.rows.specs.declared.Cursor.{Cursor}
use Rattle.rows.specs.Kinds.{kind_date, kind_reference}
use Rattle.rows.specs.Memory.{Memory, fault_of, rows_fault, open_limit, memory, rows_in, col, col_kind, col_number}
use Rattle.format.specs.Refusals as no
use Rattle.format.specs.Bodies as body
use Rattle.format.specs.Standard.{Std, Tables, Tree, plain, date, new_of, encode, encode_plain}
use Rattle.format.specs.Holds.{can_hold}
use Rattle.format.specs.Reading.{ok, bad, reading, finished}
use Rattle.format.specs.RowTest.{number_writable, body_writable, key_writable, writable, tested, fine}
use Rattle.format.specs.Unfold.{home, node, unfolded}
use Rattle.format.specs.Writing.{Wrote, writing}
use Rattle.format.specs.Endings.{depth, Ends, Outcome, fault, unfit, passed}
use Rattle.format.specs.Text.{moment_at}
use Rattle.format.specs.Answers.{millis_call}
use Rattle.format.specs.Claims.{Returns, used_rows}
use Rattle.format.proofs.Tests.{clash}
use Rattle.format.proofs.Levels.{unfolded-node}
use Rattle.meaning.proofs.Back.{date-new}
use Rattle.meaning.proofs.Finished.{finished-passes}
use Rattle.meaning.proofs.Trip.{tree_trip}
use Rattle.meaning.proofs.Writes.{writes}
use Rattle.promises.proofs.Behind.{more-behind}
use Rattle.promises.proofs.Ties.{finished-lent}

-- ---- read

-- the standard, wherever the date stands
pub date_anywhere : (values : Std Tree) (f b n b₀ b₁ b₂ b₃ b₄ b₅ b₆ b₇ bits : ℕ) → number_of 0 (b₀ ∷ b₁ ∷ b₂ ∷ b₃ ∷ b₄ ∷ b₅ ∷ b₆ ∷ b₇ ∷ []) ≡ bits
    → (s : Tables) (p : ℕ) (rest : List ℕ) → new_of values f b body.date n s p (b₀ ∷ b₁ ∷ b₂ ∷ b₃ ∷ b₄ ∷ b₅ ∷ b₆ ∷ b₇ ∷ rest)
    ≡ cond (refused_date bits) (bad no.bad_date bits (p + 8) s) (ok (plain (date bits)) s (p + 8) rest)
date_anywhere values f b n b₀ b₁ b₂ b₃ b₄ b₅ b₆ b₇ bits e s p rest =
    date-new values f b n b₀ b₁ b₂ b₃ b₄ b₅ b₆ b₇ s p rest ∙ ap (λ (x : ℕ). cond (refused_date x) (bad no.bad_date x (p + 8) s) (ok (plain (date x)) s (p + 8) rest)) e

module _ (bits : ℕ) where
  pub date-written : encode (plain (date bits)) ≡ 0x08 ∷ 0x01 ∷ bytes_of 8 bits
  unfolding encode encode_plain
  date-written = refl

  date-length : length (encode (plain (date bits))) ≡ 10
  date-length = rw (date-written, bytes-length 8 bits)

  date-shallow : depth (plain (date bits)) ≤ open_limit
  unfolding open_limit depth
  date-shallow = lit≤ tt

  octets : Bytes (0x08 ∷ 0x01 ∷ bytes_of 8 bits)
  octets zero = lit< tt
  octets (suc zero) = lit< tt
  octets (suc (suc i)) = bytes_below 8 bits i

  module _ (m : Memory) (l : bits < 2 ^ 64) (h : refused_date bits ≡ false) (f : fault_of m ≡ 0) (c : can_hold m (plain (date bits)) ≡ true) where
    alone : Returns (reading m (0x08 ∷ 0x01 ∷ bytes_of 8 bits)) 10 (plain (date bits))
    alone =
        let none : encode (plain (date bits)) ++ [] ≡ 0x08 ∷ 0x01 ∷ bytes_of 8 bits = append-nil (encode (plain (date bits))) ∙ date-written in
        rw (date-length, none) at (tree_trip (plain (date bits)) m c f (l, h) date-shallow [] (rw none octets))

    -- of either sign, whatever follows
    pub date-read : (rest : List ℕ) → Returns (reading m (0x08 ∷ 0x01 ∷ bytes_of 8 bits ++ rest)) 10 (plain (date bits))
    date-read rest =
        record {
          cursor = alone.cursor;
          memory = alone.memory;
          finishes = more-behind m (0x08 ∷ 0x01 ∷ bytes_of 8 bits) alone.cursor alone.memory alone.finishes rest;
          takes = alone.takes;
          unfolds = alone.unfolds;
        }

-- ---- asked

always_none : (t : Bool) → ◌≡◌ {A = Option ℤ} (cond t None None) None
always_none true = refl
always_none false = refl

module _ (R B : List ℕ) (i : ℕ) where
  pub millis-faulty : rows_fault R B ≢ 0 → millis_call R B i ≡ None
  unfolding moment_at
  millis-faulty f = rw (ne_eqb (rows_fault R B) 0 f)

  -- a row that is no reference answers for itself
  own : col R i col_kind ≢ kind_reference → home R i ≡ i
  unfolding home
  own n = rw (ne_eqb (col R i col_kind) kind_reference n)

  pub millis-date : rows_fault R B ≡ 0 → col R i col_kind ≡ kind_date → millis_call R B i ≡ moment_of (col R i col_number)
  unfolding moment_at
  millis-date f k =
      let n : col R i col_kind ≢ kind_reference = λ e. omega arith in
      rw (f, own n, eq-eqb (col R i col_kind) kind_date k)

  pub millis-other : col R i col_kind ≢ kind_date → col R i col_kind ≢ kind_reference → millis_call R B i ≡ None
  unfolding moment_at
  millis-other k n = rw (own n, ne_eqb (col R i col_kind) kind_date k) (always_none (eqb (rows_fault R B) 0))

  -- a row that isn't there has no kind
  past-kind : rows_in R ≤ i → col R i col_kind ≡ 0
  unfolding col
  past-kind l = rw (le-ltb i (rows_in R) l)

  pub millis-past : rows_in R ≤ i → millis_call R B i ≡ None
  millis-past l = let e : col R i col_kind ≡ 0 = past-kind l in millis-other (λ q. omega arith) (λ q. omega arith)

  -- a reference is asked as its target, one step
  module _ (k : col R i col_kind ≡ kind_reference) where
    target : home R i ≡ col R i col_number
    unfolding home
    target = rw k

    pub millis-reference : col R (col R i col_number) col_kind ≢ kind_reference → millis_call R B i ≡ millis_call R B (col R i col_number)
    unfolding moment_at
    millis-reference n = let e : home R (col R i col_number) ≡ col R i col_number = (unfold home in rw (ne_eqb (col R (col R i col_number) col_kind) kind_reference n)) in rw (target, e)

    pub millis-second : col R (col R i col_number) col_kind ≡ kind_reference → millis_call R B i ≡ None
    unfolding moment_at
    millis-second e = rw (target, e) (always_none (eqb (rows_fault R B) 0))

-- ---- written again

module _ (R B : List ℕ) (i : ℕ) where
  -- 14 asks of a date that it is finite, and of its key what it asks of any
  pub date-writable : col R i col_kind ≡ kind_date → writable R B i ≡ (not (eqb (col R i col_number % 2 ^ 63 / 2 ^ 52) 2047) && key_writable R B i)
  unfolding writable number_writable body_writable
  date-writable k = rw (k, refused_ones (col R i col_number)) (unasked (not (eqb (col R i col_number % 2 ^ 63 / 2 ^ 52) 2047)))
    where
      unasked : (t : Bool) → (t && true && key_writable R B i) ≡ (t && key_writable R B i)
      unasked true = refl
      unasked false = refl

  -- the tree of a row that is a date has the row's bits
  pub date-tree : tested R B ≡ fine → i < rows_in R → col R i col_kind ≡ kind_date → unfolded R B i ≡ plain (date (col R i col_number))
  unfolding node
  date-tree e l k =
      let n : col R i col_kind ≢ kind_reference = λ q. omega arith in
      unfolded-node R B e i l ∙ rw (own R B i n, k)

-- rows that nothing refuses end as their tree does
tree-ends : {R B out : List ℕ} {w : Wrote} → fault_of (memory R B [] [] [] []) ≡ 0 → tested R B ≡ fine → Outcome R B out w → Ends (unfolded R B 0) out w
tree-ends f e (fault n g) = clash cc
tree-ends f e (unfit n row g h) = clash cc
tree-ends f e (passed p h) = h

pub finished-ends : (m : Memory) (bytes : List ℕ) (c : Cursor) (m' : Memory) → reading m bytes ≡ finished c m'
    → (out : List ℕ) → Ends (unfolded (used_rows c m') m'.store 0) out (writing (used_rows c m') m'.store out)
finished-ends m bytes c m' e out =
    tree-ends (finished-lent m bytes c m' e) (finished-passes m bytes c m' e) (writes (used_rows c m') m'.store out)

-- as the crate writes it: the double of the milliseconds that it read
pub crate_writes : (bits : ℕ) → bits < 2 ^ 63 → T (whole binary64 (of_bits binary64 bits))
    → encode (plain (date bits)) ≡ 0x08 ∷ 0x01 ∷ bytes_of 8 (to_bits binary64 (of_int binary64 (pos (to_unsigned 64 (of_bits binary64 bits)))))
crate_writes bits l w = date-written bits ∙ ap (λ (b : ℕ). 0x08 ∷ 0x01 ∷ bytes_of 8 b) (sym (writes-as_crate bits l w))
