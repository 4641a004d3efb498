-- The walk over children: it closes where the definition says so, and its least rows are the least faulty among those that it had and the children.
use mathlib.Core.Path.{◌≡◌, refl, sym, ◌∙◌}
use mathlib.Core.Bool.{Bool, true, false, cond, ◌&&◌}
use mathlib.Core.List.{List}
use Prim.Native.Nat.{ℕ, zero, suc, ◌+◌, ◌<◌, ◌≤◌}
use Rattle.std.specs.Prelude.{Option, Some, None, min}
use native.Mathlib.Omega.{arith}
use native.Mathlib.Decide.{dec_lt, dec_le}
use lib.Dec.{leb, ltb}
use Rattle.rows.specs.Memory.{col_end, col}
use Rattle.format.specs.Unfold.{after}
use Rattle.format.specs.RowTest.{closes, Given}
use Rattle.format.proofs.Tests.{on_bool}
use Rattle.format.proofs.Tested.{one-closes, walk-long}
use Rattle.judge.specs.declared.Least.{Least}
use Rattle.judge.specs.Pass.{gives_by, is_wrong, is_empty, lower, least, with_row, walk, capped}

-- ---- one row looked at

lower_le : (b : Bool) (k l : ℕ) → lower b k l ≤ l
unfolding lower
lower_le true k l = omega arith
lower_le false k l = omega arith

lower-bad : (k l : ℕ) → lower true k l ≤ k
unfolding lower
lower-bad k l = omega arith

-- if it is a new least, it is faulty
lower-new : (b : Bool) (k l : ℕ) → lower b k l < l → (lower b k l ≡ k) × (b ≡ true)
unfolding lower
lower-new true k l h = (omega arith, refl)
lower-new false k l h = absurd (omega arith)

-- ---- children, number j given `gives j`

module _ (R : List ℕ) (gives : ℕ → Given) (bad : ℕ → Given → Bool) where
  -- the least after n of them from row k on, the first number j
  unfoldable pub least_of : ℕ → ℕ → ℕ → ℕ → ℕ
  least_of k j zero l = l
  least_of k j (suc n) l = least_of (col R k col_end) (suc j) n (lower (bad k (gives j)) k l)

  pub least_le : (k j n l : ℕ) → least_of k j n l ≤ l
  unfolding least_of
  least_le k j zero l = omega arith
  least_le k j (suc n) l =
      omega (arith, least_le (col R k col_end) (suc j) n (lower (bad k (gives j)) k l), lower_le (bad k (gives j)) k l)

  -- no child before the least is faulty
  pub below : (k j n l m : ℕ) → m < n → after R k m < least_of k j n l → bad (after R k m) (gives (j + m)) ≡ false
  unfolding least_of after
  below k j zero l m h b = absurd (omega arith)
  below k j (suc n) l zero h b =
      let e : j + 0 ≡ j = omega arith in
      rw e (on_bool (bad k (gives j))
      (λ t. absurd (let u = least_le (col R k col_end) (suc j) n (lower (bad k (gives j)) k l) in
      let v : lower (bad k (gives j)) k l ≤ k = rw t (lower-bad k l) in omega arith))
      (λ t. t))
  below k j (suc n) l (suc m) h b =
      let e : j + suc m ≡ suc j + m = omega arith in
      rw e (below (col R k col_end) (suc j) n (lower (bad k (gives j)) k l) m (omega arith) b)

  -- a least that is new is a faulty child
  pub newest : (k j n l : ℕ) → least_of k j n l < l
      → (m : ℕ) × (m < n) × (after R k m ≡ least_of k j n l) × (bad (least_of k j n l) (gives (j + m)) ≡ true)
  unfolding least_of after
  newest k j zero l h = absurd (omega arith)
  newest k j (suc n) l h =
      elim (dec_lt (least_of (col R k col_end) (suc j) n (lower (bad k (gives j)) k l)) (lower (bad k (gives j)) k l)) [
        | yes g ↦
            let (m, x, y, z) = newest (col R k col_end) (suc j) n (lower (bad k (gives j)) k l) g in
            let e : j + suc m ≡ suc j + m = omega arith in
            (suc m, omega arith, y, rw e z)
        | no g ↦
            let q : least_of (col R k col_end) (suc j) n (lower (bad k (gives j)) k l) ≡ lower (bad k (gives j)) k l
            = omega (arith, least_le (col R k col_end) (suc j) n (lower (bad k (gives j)) k l)) in
            let (x, y) = lower-new (bad k (gives j)) k l (omega arith) in
            let p : least_of (col R k col_end) (suc j) n (lower (bad k (gives j)) k l) ≡ k = q ∙ x in
            let e : j + 0 ≡ j = omega arith in
            (0, omega arith, sym p, rw (p, e) y)
      ]

  -- children stand behind their row
  pub above : (stop k j n l m : ℕ) → closes R stop k n ≡ true → m ≤ k → m ≤ l → m ≤ least_of k j n l
  unfolding least_of
  above stop k j zero l m h a b = b
  above stop k j (suc n) l m h a b =
      let (x, y, z) = one-closes R stop k n h in
      above stop (col R k col_end) (suc j) n (lower (bad k (gives j)) k l) m z (omega arith) (low (dec_lt (lower (bad k (gives j)) k l) l))
    where
      low : Dec (lower (bad k (gives j)) k l < l) → m ≤ lower (bad k (gives j)) k l
      low (yes h) = omega (arith, (lower-new (bad k (gives j)) k l h).0)
      low (no h) = omega arith

-- ---- the walk with its two least rows

module _ (R : List ℕ) (kind count : ℕ) where
  -- the least rows behind n children from row k on
  abbrev pub behind : ℕ → ℕ → ℕ → Least → Least
  behind k j n l =
      least (least_of R (gives_by kind count) (is_wrong R) k j n l.wrong) (least_of R (gives_by kind count) (is_empty R) k j n l.empty)

  pub walk_is : (stop k j n : ℕ) (l : Least) → walk R kind count stop k j n l ≡ cond (closes R stop k n) (Some (behind k j n l)) None
  unfolding walk closes least_of
  walk_is stop k j zero l = refl
  walk_is stop k j (suc n) l =
      let l' = with_row R k (gives_by kind count j) l in
      here (ltb k (col R k col_end) && leb (col R k col_end) stop) (closes R stop (col R k col_end) n)
      (Some (behind (col R k col_end) (suc j) n l')) (walk_is stop (col R k col_end) (suc j) n l')
    where
      here : {x : Option Least} (t c : Bool) (good : Option Least) → x ≡ cond c good None → cond t x None ≡ cond (t && c) good None
      here true c good q = q
      here false c good q = refl

  -- more children than there are rows don't close
  pub walk-broken : (stop k j n : ℕ) (l : Least) → stop < k + n → walk R kind count stop k j n l ≡ None
  walk-broken stop k j n l h =
      walk_is stop k j n l
      ∙ on_bool (closes R stop k n) (λ t. absurd (omega (arith, walk-long R stop k n t))) (λ t. rw t)

  pub walk-capped : (stop k j n : ℕ) (l : Least) (most : ℕ) → 0 < k → stop ≤ most
      → walk R kind count stop k j (capped most n) l ≡ walk R kind count stop k j n l
  unfolding capped
  walk-capped stop k j n l most p h =
      elim (dec_le n most) [
        | yes g ↦ (let e : min n most ≡ n = omega arith in rw e)
        | no g ↦
            (let e : min n most ≡ most = omega arith in
            rw e (walk-broken stop k j most l (omega arith) ∙ sym (walk-broken stop k j n l (omega arith))))
      ]
