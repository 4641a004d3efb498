-- A reference, by the object that it names.
use mathlib.Core.Path.{◌≡◌, refl, sym, ap, ◌∙◌}
use mathlib.Core.Bool.{Bool, true, false, cond}
use mathlib.Core.List.{List}
use Prim.Native.Nat.{ℕ}
use lib.Dec.{leb, ltb}
use lib.ListN.{length, get_or}
use Rattle.rows.specs.declared.Cursor.{Cursor}
use Rattle.format.specs.Decide.{Out, stop, give, lost, refuse, referred}
use Rattle.format.specs.Refusals as no
use Rattle.decide.specs.Outcomes.{old_object, referred_to}

module _ (row i : ℕ) (O R : List ℕ) (c : Cursor) where
  -- what the two tests of the objects choose between, in a reference and in its object
  abbrev whole : Bool → Bool → Out (List ℕ) Unit
  whole a b = cond a lost (cond b (refuse no.no_entry i c) (referred_to row i (get_or O i 0) R c))

  abbrev named : Bool → Bool → Out Unit ℕ
  named a b = cond a lost (cond b (refuse no.no_entry i c) (give (get_or O i 0) tt c))

  none : (a b : Bool) {n t p : ℕ} → named a b ≡ stop n t p → whole a b ≡ stop n t p
  none true b e = cc
  none false true e = cc
  none false false e = cc

  some : (a b : Bool) (object : ℕ) (c' : Cursor) → named a b ≡ give object tt c' → whole a b ≡ referred_to row i object R c'
  some true b object c' e = cc
  some false true object c' e = cc
  some false false object c' e = let p : get_or O i 0 ≡ object = cc in let q : c ≡ c' = cc in rw (p, q)

  -- none is named: the reference is refused so
  pub unnamed : {n t p : ℕ} → old_object i O c ≡ stop n t p → referred row i O R c ≡ stop n t p
  unfolding old_object referred referred_to
  unnamed e = none (ltb (length O) c.objects) (leb c.objects i) e

  -- one is named: the reference is to it
  pub named-object : {object : ℕ} {c' : Cursor} → old_object i O c ≡ give object tt c' → referred row i O R c ≡ referred_to row i object R c'
  unfolding old_object referred referred_to
  named-object e = some (ltb (length O) c.objects) (leb c.objects i) _ _ e
