-- What the calls are of: read of the reading, write of the writing, text of the row's part of the store; and a finished reading stays within the limit.
use mathlib.Core.Path.{◌≡◌, refl, ap, ◌∙◌}
use mathlib.Core.Bool.{true, false}
use mathlib.Core.List.{List}
use Prim.Native.Nat.{ℕ, ◌+◌, ◌*◌, ◌%◌, ◌≤◌, ◌<◌}
use native.Mathlib.Omega.{arith}
use borrow.Author.Tests.{le-leb, lt-leb, le-ltb, ne_eqb}
use lib.ListN.{length}
use lib.Dec.{eqb}
use lib.Seq.{length-take-le}
use Rattle.rows.specs.declared.Cursor.{Cursor}
use Rattle.rows.specs.Memory.{Memory, loan_fault, rows_fault, rows_most, store_most, row_width, message_limit, col_kind, col_body_begin, col_body_size, col}
use Rattle.format.specs.declared.Answer.TheVariants.{Finished, Refused}
use Rattle.rows.specs.declared.lent.Lent.{Lent}
use Rattle.std.specs.Prelude.{Ok, Err}
use Rattle.format.specs.Reading.{finished, refused, reading}
use Rattle.format.specs.Step.{State, run, end, begin}
use Rattle.format.specs.Answers.{read, read_of, read_call, output, written_of, refusal_of, write_call, text_call}
use Rattle.format.specs.Unfold.{home, part}
use Rattle.format.specs.RowTest.{has_text}
use Rattle.format.specs.Text.{text_span, text_or}
use Rattle.format.specs.Writing.{written, unwritten, writing}
use Rattle.format.specs.Numbers.{lent_of}
use Rattle.format.specs.Claims.{used_rows, TextKind, a_string, an_xml_document, an_xml}
use Rattle.rows.specs.Kinds.{kind_string, kind_xml_document, kind_xml}
use Rattle.format.specs.Together.{Counts}
use Rattle.format.proofs.Tests.{clash}
use Rattle.format.proofs.Kept.{Holds, holds-lent}
use Rattle.format.proofs.Along.{Able, awaits, completes, rejects}
use Rattle.format.proofs.Shows.{able_along}
use Rattle.format.proofs.Feeding.{feeding}

-- ---- read

-- a finished reading: rows and store bytes used, bytes taken, and the loans
pub read-finished : (m : Memory) (bs : List ℕ) (c : Cursor) (k : Memory) → reading m bs ≡ finished c k
    → read_call m bs ≡ read (Finished c.rows c.store c.at) k
unfolding read_call
read-finished m bs c k e = ap read_of e

-- a refused one
pub read-refused : (m : Memory) (bs : List ℕ) (n told place : ℕ) (k : Memory) → reading m bs ≡ refused n told place k
    → read_call m bs ≡ read (Refused n told place 0) k
unfolding read_call
read-refused m bs n told place k e = ap read_of e

-- the place of what ends so
within_able : {B : Type 0} {lent : Lent} {at : ℕ} {c : Cursor} {k : Memory} (s : State) → Able B lent at s → end s ≡ finished c k → c.at ≤ message_limit
unfolding end
within_able {c = c} s (awaits h f u v) e = clash cc
within_able {c = c} s (completes {c = d} h) e = let q : d ≡ c = cc in let l : d.at ≤ message_limit = omega (arith, h.place, h.within) in rw q at l
within_able {c = c} s (rejects t h z) e = clash cc

-- no more bytes are taken than a message has
pub finished-within : (m : Memory) (bs : List ℕ) (c : Cursor) (k : Memory) → reading m bs ≡ finished c k → c.at ≤ message_limit
finished-within m bs c k e = within_able (run (begin m) bs) (able_along m bs) (feeding m bs ∙ e)

-- no more is used than is lent
counts-in : {lent : Lent} {at : ℕ} {c : Cursor} {m : Memory} → Holds lent at c m → Counts (lent_of m) c
counts-in h = rw h.lends h.counts

-- what is used of the rows is whole rows, no more than can be lent, and so is the store
lent_able : {B : Type 0} {lent : Lent} {at : ℕ} {c : Cursor} {k : Memory} (s : State) → Able B lent at s → end s ≡ finished c k → rows_fault (used_rows c k) k.store ≡ 0
unfolding end loan_fault lent_of
lent_able s (awaits h f u v) e = clash cc
lent_able {c = c} {k = k} s (completes {c = d} {m = l} h) e =
    let p : d ≡ c = cc in
    let q : l ≡ k = cc in
    let loans = rw q at (holds-lent h) in
    let counts : Counts (lent_of k) c = rw (p, q) at (counts-in h) in
    let n : length (used_rows c k) ≡ c.rows * row_width = length-take-le (c.rows * row_width) k.rows (omega arith) in
    let most : c.rows * row_width ≤ rows_most * row_width = omega arith in
    let store : length k.store ≤ store_most * 1 = omega arith in
    let whole : (c.rows * row_width) % row_width ≡ 0 = omega arith in
    let bytes : length k.store % 1 ≡ 0 = omega arith in
    rw (n, le-ltb _ _ most, whole, le-ltb _ _ store, bytes)
lent_able s (rejects t h z) e = clash cc

-- so that 1 doesn't refuse what a finished reading leaves to be written
pub finished-lent : (m : Memory) (bs : List ℕ) (c : Cursor) (k : Memory) → reading m bs ≡ finished c k → rows_fault (used_rows c k) k.store ≡ 0
finished-lent m bs c k e = lent_able (run (begin m) bs) (able_along m bs) (feeding m bs ∙ e)

-- ---- write

-- an accepted writing: the bytes reported, and the output
pub write-accepted : (R B out P : List ℕ) (n : ℕ) → writing R B out ≡ written n P → write_call R B out ≡ output (Ok n) P
unfolding write_call
write-accepted R B out P n e = ap written_of e

-- a refused one
pub write-refused : (R B out P : List ℕ) (n told place : ℕ) → writing R B out ≡ unwritten n told place P → write_call R B out ≡ output (Err (refusal_of n told place)) P
unfolding write_call
write-refused R B out P n told place e = ap written_of e

-- ---- text

-- the kinds that have one
has-text : {kind : ℕ} → TextKind kind → has_text kind ≡ true
has-text a_string = refl
has-text an_xml_document = refl
has-text an_xml = refl

-- a kind of which it isn't so
other-kind : (kind k : ℕ) → (TextKind k) → (TextKind kind → ⊥) → eqb kind k ≡ false
other-kind kind k h n = ne_eqb kind k (λ e. n (rw e h))

-- and no other
has-no-text : (kind : ℕ) → (TextKind kind → ⊥) → has_text kind ≡ false
has-no-text kind n = rw (other-kind kind kind_string a_string n, other-kind kind kind_xml_document an_xml_document n, other-kind kind kind_xml an_xml n)

module _ (R B : List ℕ) (i : ℕ) (default : List ℕ) where
  -- the part of the store that the row, or the target of a reference, says
  pub text-there : rows_fault R B ≡ 0 → TextKind (col R (home R i) col_kind) → col R (home R i) col_body_begin + col R (home R i) col_body_size ≤ length B
      → text_call R B i default ≡ part B (col R (home R i) col_body_begin) (col R (home R i) col_body_size)
  unfolding text_or text_span
  text-there f k l = rw (f, has-text k, le-leb (col R (home R i) col_body_begin + col R (home R i) col_body_size) (length B) l)

  -- the default, where a loan is faulty
  pub text-faulty : (rows_fault R B ≡ 0 → ⊥) → text_call R B i default ≡ default
  unfolding text_or text_span
  text-faulty n = rw (ne_eqb (rows_fault R B) 0 n)

  -- where the row has no text
  pub text-none : rows_fault R B ≡ 0 → (TextKind (col R (home R i) col_kind) → ⊥) → text_call R B i default ≡ default
  unfolding text_or text_span
  text-none f k = rw (f, has-no-text (col R (home R i) col_kind) k)

  -- and where its span is past the store
  pub text-past : rows_fault R B ≡ 0 → TextKind (col R (home R i) col_kind) → length B < col R (home R i) col_body_begin + col R (home R i) col_body_size
      → text_call R B i default ≡ default
  unfolding text_or text_span
  text-past f k l = rw (f, has-text k, lt-leb (col R (home R i) col_body_begin + col R (home R i) col_body_size) (length B) l)
