-- Rows and store as they grow: a row that ended, and what of them stays.
use mathlib.Core.Path.{◌≡◌, refl, ◌∙◌}
use mathlib.Core.List.{List}
use mathlib.Core.Logic.{◌≢◌}
use Prim.Native.Nat.{ℕ, ◌+◌, ◌*◌, ◌<◌, ◌≤◌}
use native.Mathlib.Omega.{arith}
use native.Mathlib.Decide.{ℕ_discrete}
use borrow.Author.Tests.{lt-ltb}
use lib.ListN.{length, get_or, set}
use lib.Seq.{get_or-set_same, get_or-set_other}
use Rattle.rows.specs.declared.Cursor.{Cursor}
use Rattle.rows.specs.Memory.{Memory, row_width, rows_in, col, put, col_end}
use Rattle.format.specs.Unfold.{part}
use Rattle.format.proofs.Lists.{Kept, part-kept}

-- the number at a row's column, whether or not the row is lent
abbrev pub spot : List ℕ → ℕ → ℕ → ℕ
spot R i c = get_or R (i * row_width + c) 0

-- where it is lent, that is its column
pub col-lent : (R : List ℕ) (i c : ℕ) → i < rows_in R → col R i c ≡ spot R i c
unfolding col
col-lent R i c h = rw (lt-ltb i (rows_in R) h)

-- the rows, how many are used, the store, and how far it is settled
pub record Land : Type 0 where
  pub rows : List ℕ
  pub used : ℕ
  pub store : List ℕ
  pub full : ℕ

abbrev pub land : List ℕ → ℕ → List ℕ → ℕ → Land
land R n B u = record { rows = R; used = n; store = B; full = u }

-- those of a memory, with the store settled up to u, or as far as it is used
abbrev pub land_to : ℕ → Memory → Cursor → Land
land_to u m c = land m.rows c.rows m.store u

abbrev pub land_of : Memory → Cursor → Land
land_of m c = land_to c.store m c

abbrev pub at : Land → ℕ → ℕ → ℕ
at L i j = spot L.rows i j

-- a row that ends where rows are used
abbrev pub Done : Land → ℕ → Type 0
Done L i = (i < at L i col_end) × (at L i col_end ≤ L.used)

-- what is finished and settled in L is in L'
pub record Ext (L L' : Land) : Type 0 where
  pub up : L.used ≤ L'.used
  pub cols : (i j : ℕ) → Done L i → j < row_width → at L' i j ≡ at L i j
  pub fill : L.full ≤ L'.full
  pub parts : (b z : ℕ) → b + z ≤ L.full → part L'.store b z ≡ part L.store b z

pub done-ext : {L L' : Land} → Ext L L' → (i : ℕ) → Done L i → Done L' i
done-ext x i h = let u = x.up in rw (x.cols i col_end h (omega arith)) (h.0, omega arith)

pub ext_same : (L : Land) → Ext L L
ext_same L = record { up = omega arith; cols = λ i j d l. refl; fill = omega arith; parts = λ b z l. refl }

pub ext_trans : {L L' L'' : Land} → Ext L L' → Ext L' L'' → Ext L L''
ext_trans x y =
    let a = x.up in
    let b = y.up in
    let d = x.fill in
    let e = y.fill in
    record {
      up = omega arith;
      cols = λ i j h l. y.cols i j (done-ext x i h) l ∙ x.cols i j h l;
      fill = omega arith;
      parts = λ b z l. y.parts b z (omega arith) ∙ x.parts b z l;
    }

-- the rows that are used and the settled store stay
pub ext-kept : {R R' B B' : List ℕ} {n n' u u' : ℕ} → n ≤ n' → Kept (n * row_width) R R' → u ≤ u' → Kept u B B' → u ≤ length B → u ≤ length B'
    → Ext (land R n B u) (land R' n' B' u')
ext-kept {B = B} {B' = B'} {u = u} a k b l f g =
    record {
      up = a;
      cols = λ i j d h. (let p = d.0 in let q = d.1 in k (i * row_width + j) (omega arith));
      fill = b;
      parts = λ y z h. part-kept u B B' y z l f g h;
    }

-- a column of an open row is set
pub ext-put : (L : Land) (r j v : ℕ) → at L r col_end ≡ 0 → j < row_width → Ext L (land (put L.rows r j v) L.used L.store L.full)
ext-put L r j v o w =
    record {
      up = omega arith;
      cols = λ q i d l.
          (let f : q ≢ r = λ e. (let z : q < at L r col_end = rw (← e) d.0 in absurd (omega arith)) in
          let g : q * row_width + i ≢ r * row_width + j = omega arith in
          simp get_or-set_other);
      fill = omega arith;
      parts = λ b z l. refl;
    }

-- the columns of row r with one of them set
pub spot-put : (R cs : List ℕ) (r j v : ℕ) → length cs ≡ row_width → r * row_width + row_width ≤ length R → ((i : ℕ) → i < row_width → spot R r i ≡ get_or cs i 0)
    → (i : ℕ) → i < row_width → spot (put R r j v) r i ≡ get_or (set cs j v) i 0
spot-put R cs r j v n h is i l = elim (ℕ_discrete i j) [
  | yes q ↦ (let a : r * row_width + j < length R = omega arith in let b : j < length cs = omega arith in rw (q, get_or-set_same, get_or-set_same))
  | no q ↦ (let a : r * row_width + i ≢ r * row_width + j = omega arith in rw (get_or-set_other, get_or-set_other) (is i l))
]
