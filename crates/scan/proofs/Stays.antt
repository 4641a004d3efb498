-- A decision leaves the place as it is: the byte that it decides on was taken before.
use mathlib.Core.Path.{◌≡◌, refl}
use mathlib.Core.Bool.{Bool, true, false, cond}
use mathlib.Core.List.{List}
use Prim.Native.Nat.{ℕ}
use Rattle.rows.specs.declared.Cursor.{Cursor}
use Rattle.rows.specs.declared.Span.{Span}
use Rattle.rows.specs.declared.Key.{Key}
use Rattle.rows.specs.declared.Trait.{Trait}
use Rattle.format.specs.Decide as d
use Rattle.format.specs.Decide.{Out, stop, give}

pub data Stays {S A : Type 0} (c : Cursor) : Out S A → Type 0 where
  stopped : {n told place : ℕ} → Stays c (stop n told place)
  given : {a : A} {s : S} {c' : Cursor} → c'.at ≡ c.at → Stays c (give a s c')

stays-cond : {S A : Type 0} {c : Cursor} (b : Bool) (x y : Out S A) → Stays c x → Stays c y → Stays c (cond b x y)
stays-cond true x y p q = p
stays-cond false x y p q = q

ruleset stays = (stays-cond, stopped, given, refl)

module _ (c : Cursor) where
  pub stays-marker : (k : Key) (left b : ℕ) (R : List ℕ) → Stays c (d.marker k left b R c)
  unfolding d.marker
  stays-marker k left b R = search stays depth 14

  pub stays_closed : (row : ℕ) (R : List ℕ) → Stays c (d.closed row R c)
  unfolding d.closed
  stays_closed row R = search stays depth 14

  pub stays-numbered : (row n : ℕ) (R : List ℕ) → Stays c (d.numbered row n R c)
  unfolding d.numbered
  stays-numbered row n R = search stays depth 14

  pub stays-integer : (row w : ℕ) (R : List ℕ) → Stays c (d.integer_end row w R c)
  unfolding d.integer_end
  stays-integer row w R = stays-numbered row _ R

  pub stays-date : (row bits : ℕ) (R : List ℕ) → Stays c (d.date_end row bits R c)
  unfolding d.date_end
  stays-date row bits R = search (stays, stays-numbered)

  pub stays-bodied : (row : ℕ) (p : Span) (R : List ℕ) → Stays c (d.bodied row p R c)
  unfolding d.bodied
  stays-bodied row p R = search stays depth 14

  pub stays-object : (row : ℕ) (t : Trait) (R : List ℕ) → Stays c (d.object_class row t R c)
  unfolding d.object_class d.classed
  stays-object row t R = search stays depth 14

  pub stays-vector : (row : ℕ) (star : Bool) (p : Span) (R : List ℕ) → Stays c (d.vector_class row star p R c)
  unfolding d.vector_class d.classed
  stays-vector row true p R = search stays
  stays-vector row false p R = search stays

  pub stays-flagged : (row flag : ℕ) (R : List ℕ) → Stays c (d.flagged row flag R c)
  unfolding d.flagged
  stays-flagged row flag R = search stays depth 14

  pub stays-counted : (row col done : ℕ) (R : List ℕ) → Stays c (d.counted row col done R c)
  unfolding d.counted
  stays-counted row col done R = search stays depth 14

  pub stays-key-end : (row done : ℕ) (R : List ℕ) → Stays c (d.key_end row done R c)
  unfolding d.key_end
  stays-key-end row done R = search stays depth 14

  pub stays-grown : (row : ℕ) (w : d.Width) (p : Span) (n : ℕ) (R : List ℕ) → Stays c (d.grown row w p n R c)
  unfolding d.grown
  stays-grown row w p n R = search stays depth 14

  pub stays-referred : (row i : ℕ) (O R : List ℕ) → Stays c (d.referred row i O R c)
  unfolding d.referred
  stays-referred row i O R = search stays depth 14

  pub stays-stored : (p : Span) (n b : ℕ) (R : List ℕ) → Stays c (d.stored p n b R c)
  unfolding d.stored
  stays-stored p n b R = search stays depth 14

  pub stays-text-end : (p : Span) (valid : Bool) (R : List ℕ) → Stays c (d.text_end p valid R c)
  unfolding d.text_end
  stays-text-end p valid R = search stays depth 14

  pub stays-entered : (row : ℕ) (R : List ℕ) → Stays c (d.entered row R c)
  unfolding d.entered
  stays-entered row R = search stays depth 14

  pub stays_trait_end : (t : Trait) (R : List ℕ) → Stays c (d.trait_end t R c)
  unfolding d.trait_end
  stays_trait_end t R = search stays depth 14

  pub stays-named : (p : Span) (R : List ℕ) → Stays c (d.named p R c)
  unfolding d.named
  stays-named p R = search stays depth 14

  pub stays-old-text : (i : ℕ) (R : List ℕ) → Stays c (d.old_text i R c)
  unfolding d.old_text
  stays-old-text i R = search stays depth 14

  pub stays-reserved : (n : ℕ) (R : List ℕ) → Stays c (d.reserved n R c)
  unfolding d.reserved
  stays-reserved n R = search stays depth 14

  pub stays-old_trait : (i : ℕ) (R : List ℕ) → Stays c (d.old_trait i R c)
  unfolding d.old_trait
  stays-old_trait i R = search stays depth 14

  pub stays-sealed-key : (i : ℕ) (R : List ℕ) → Stays c (d.sealed_key i R c)
  unfolding d.sealed_key
  stays-sealed-key i R = search stays depth 14

  pub stays-starred : (p : Span) (R : List ℕ) → Stays c (d.starred p R c)
  unfolding d.starred
  stays-starred p R = search stays depth 14

  pub stays-judged : (valid : Bool) → Stays c (d.judged valid c)
  unfolding d.judged
  stays-judged valid = search stays
