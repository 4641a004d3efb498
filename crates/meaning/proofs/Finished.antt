-- Every table that an unaltered reading finished passes 13 and 14.
use mathlib.Core.Path.{◌≡◌, refl, sym, ap, ◌∙◌}
use mathlib.Core.Bool.{true}
use mathlib.Core.List.{List}
use Prim.Native.Nat.{ℕ, zero, suc, ◌*◌, ◌/◌, ◌<◌, ◌≤◌}
use native.Mathlib.Omega.{arith}
use lib.ListN.{length, take}
use lib.Seq.{length-take-le, get_or-take}
use Rattle.rows.specs.declared.Cursor.{Cursor}
use Rattle.rows.specs.Memory.{Memory, zeroed, fresh, fault_of, open_limit, no_key, rows_in}
use Rattle.format.specs.Reading.{Result, Ended, finished, ended, unless_fault, value, reading}
use Rattle.format.specs.Step.{over, run, end, begin}
use Rattle.format.specs.RowTest.{well_formed, writable, fine, tested, keyless}
use Rattle.format.proofs.Tests.{clash}
use Rattle.format.proofs.Lists.{Kept}
use Rattle.meaning.proofs.Ground.{land, Ext, ext-kept, land_of}
use Rattle.format.proofs.Feeding.{feeding}
use Rattle.meaning.proofs.Lands.{bare, sound-ext}
use Rattle.meaning.proofs.RowTests.{Table, well-formed, can_be_written, passing}
use Rattle.meaning.proofs.Stages.{Ok, Val}
use Rattle.meaning.proofs.Posts.{Post, stops, gets}
use Rattle.meaning.proofs.ValueRows.{value-reads}
use Rattle.rows.specs.Memory.{row_width, col_end}
pub use Rattle.format.specs.Claims.{used_rows, used_store}

pub used-many : (c : Cursor) (m : Memory) → c.rows * row_width ≤ length m.rows → rows_in (used_rows c m) ≡ c.rows
used-many c m h =
    let e : length (used_rows c m) ≡ c.rows * row_width = length-take-le (c.rows * row_width) m.rows h in
    let q : rows_in (used_rows c m) ≡ c.rows * row_width / row_width = ap (λ z. z / row_width) e in
    omega arith

-- nothing is used yet
ok-fresh : (m : Memory) → Ok m fresh
ok-fresh m =
    record {
      rows_in = omega arith;
      store_in = omega arith;
      strings = λ i h. absurd (omega arith);
      names = λ i h. absurd (omega arith);
      traits = λ i h. absurd (omega arith);
      objects = λ i h. absurd (omega arith);
    }

-- what the reading of the whole message leaves
pub finished-val : {Q : Memory → Cursor → Type 0} (x : Result Unit) (c : Cursor) (m : Memory) → Post (λ u. Q) x → ended x ≡ finished c m → Q m c
unfolding ended
finished-val x c m stops e = clash cc
finished-val {Q} x c m (gets {m = m₁} {c = c₁} h) e = let p : m₁ ≡ m = cc in let q : c₁ ≡ c = cc in rw (p, q) at h

-- no loan is faulty then
not-faulty : (n : ℕ) (m : Memory) (x : Ended) (c : Cursor) (m' : Memory) → unless_fault n m x ≡ finished c m' → x ≡ finished c m'
not-faulty zero m x c m' e = e
not-faulty (suc n) m x c m' e = cc

-- what a reading leaves from fresh on
pub fresh-reads : (m : Memory) (bs : List ℕ) → Post (λ u. Val keyless m fresh) (value open_limit no_key m fresh bs)
fresh-reads m bs = value-reads open_limit keyless no_key m fresh bs (ok-fresh m) bare

pub reading-val : (m : Memory) (bs : List ℕ) (c : Cursor) (m' : Memory) → reading m bs ≡ finished c m' → Val keyless (zeroed m) fresh m' c
unfolding reading
reading-val m bs c m' e =
    finished-val (value open_limit no_key (zeroed m) fresh bs) c m' (fresh-reads (zeroed m) bs) (not-faulty (fault_of m) m _ c m' e)

-- with a store that is the same as far as it was used
pub val_table : {m : Memory} {c : Cursor} {m' : Memory} → Val keyless m fresh m' c → (B : List ℕ) → c.store ≤ length B → Kept c.store m'.store B
    → Table (used_rows c m') B c.store
val_table {c = c} {m' = m'} v B l k =
    let a = v.ok.rows_in in
    let s = v.ok.store_in in
    let w = v.newer in
    let R : List ℕ = take (c.rows * row_width) m'.rows in
    let q : rows_in R ≡ c.rows = used-many c m' a in
    let x : Ext (land_of m' c) (land R (rows_in R) B c.store) =
    ext-kept (omega arith) (λ i h. get_or-take (c.rows * row_width) m'.rows i 0 h) (omega arith) k s l in
    record {
      room = l;
      all = λ i h. sound-ext x (v.each i (omega arith) (omega arith));
      some = omega arith;
      root = get_or-take (c.rows * row_width) m'.rows 1 0 (omega arith) ∙ v.marked.mark;
      last = get_or-take (c.rows * row_width) m'.rows col_end 0 (omega arith) ∙ v.fin ∙ sym q;
    }

module _ (m : Memory) (bs : List ℕ) (c : Cursor) (m' : Memory) (e : reading m bs ≡ finished c m') where
  -- the store as it was lent, and the part of it that was used
  pub whole_table : Table (used_rows c m') m'.store c.store
  whole_table = let v = reading-val m bs c m' e in val_table v m'.store v.ok.store_in (λ i h. refl)

  pub used_table : Table (used_rows c m') (take c.store m'.store) c.store
  used_table =
      let v = reading-val m bs c m' e in
      let s = v.ok.store_in in
      val_table v (take c.store m'.store) (let n = length-take-le c.store m'.store s in omega arith)
      (λ i h. get_or-take c.store m'.store i 0 h)

  -- no row is malformed
  pub finished_well_formed : (i : ℕ) → i < rows_in (used_rows c m') → well_formed (used_rows c m') m'.store i ≡ true
  finished_well_formed = well-formed whole_table

  -- every row can be written
  pub finished-writes : (i : ℕ) → i < rows_in (used_rows c m') → writable (used_rows c m') m'.store i ≡ true
  finished-writes = can_be_written whole_table

  -- so that the test passes
  pub finished-passes : tested (used_rows c m') m'.store ≡ fine
  finished-passes = passing whole_table

  pub finished-passes-used : tested (used_rows c m') (take c.store m'.store) ≡ fine
  finished-passes-used = passing used_table

-- fed in pieces it is the same table
pub fed-passes : (m : Memory) (bs : List ℕ) (c : Cursor) (m' : Memory) → run (begin m) bs ≡ over (finished c m')
    → tested (used_rows c m') m'.store ≡ fine
unfolding end
fed-passes m bs c m' e = finished-passes m bs c m' (sym (feeding m bs) ∙ ap end e)
