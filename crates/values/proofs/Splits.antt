-- Readings taken apart where their functions are: a beginning, and what it leaves to read.
use mathlib.Core.Path.{◌≡◌, refl, ap, ◌∙◌}
use mathlib.Core.List.{List}
use Prim.Native.Nat.{ℕ}
use lib.ListN.{drop}
use Rattle.rows.specs.declared.Cursor.{Cursor}
use Rattle.rows.specs.declared.Trait.{Trait}
use Rattle.rows.specs.Memory.{Memory, col_count, no_key}
use Rattle.wire.specs.declared.Size.{Size}
use Rattle.wire.specs.declared.Size.TheVariants.{Old, New}
use Rattle.wire.specs.declared.Shape.{Shape}
use Rattle.wire.specs.declared.Shape.TheVariants.{Object, Known, External, Inline}
use Rattle.wire.specs.U29.{word_more}
use Rattle.wire.specs.Word.{size_of, shape_of}
use Rattle.format.specs.Decide.{Out, stop, give, fixed, weak, looking, on_rows, closed, flagged, starred, Body, objects, dictionary, object, sized}
use Rattle.format.specs.Reading.{Result, ok, bad, Reader, Values, bind, by, ret, byte, u29, text, plain, ◌>>=◌, ◌>>◌, entries, couple, members, inlined, object_of, new_of, marked}
use Rattle.format.specs.Reading as r
use Rattle.format.proofs.Alike.{flat}
use Rattle.scan.specs.Reads.{cleared, reads}
use Rattle.parts.specs.Heads.{on_rest, size_rest, size_head, object_rest, object_head, known_trait, new_trait, inline_trait, external_trait, vector_head}

bind-same : {A B : Type 0} (x : Result A) (g h : A → Reader B) → ((a : A) (m : Memory) (c : Cursor) (bs : List ℕ) → g a m c bs ≡ h a m c bs) → bind x g ≡ bind x h
bind-same (ok a m c bs) g h e = e a m c bs
bind-same (bad n told place m) g h e = refl

bind-ret : (x : Result Unit) → bind x (λ y. ret tt) ≡ x
bind-ret (ok a m c bs) = refl
bind-ret (bad n told place m) = refl

module _ (value : Values) (row : ℕ) where
  on-vector : (n : ℕ) (m : Memory) (c : Cursor) (bs : List ℕ)
      → (vector_head row >> entries (λ done. value no_key) row col_count n 0 >> by (on_rows (closed row))) m c bs ≡ new_of value row objects n m c bs
  unfolding new_of vector_head
  on-vector n m c bs =
      flat (bind (byte m c bs) _) _ _
      ∙ flat (byte m c bs) _ _
      ∙ bind-same (byte m c bs) _ _ (λ b m c bs.
      let x = (by (on_rows (flagged row (fixed b))) >> text plain) m c bs in
      flat x _ _
      ∙ bind-same x _ _ (λ p m c bs.
      let y = by (looking (λ m. starred p m.store)) m c bs in
      flat y _ _ ∙ bind-same y _ _ (λ star m c bs. simp flat)))

  pub vector-split : (n : ℕ) (m : Memory) (c : Cursor) (s : List ℕ)
      → reads (vector_head row >> entries (λ done. value no_key) row col_count n 0 >> by (on_rows (closed row))) m c s ≡ reads (new_of value row objects n) m c s
  unfolding reads
  vector-split n m c s = ap cleared (on-vector n m c (drop c.at s))

  on-size : (body : Body) (z : Size) (m : Memory) (c : Cursor) (bs : List ℕ) → (size_rest row z >>= on_rest (new_of value row body)) m c bs ≡ r.sized_of value row body z m c bs
  unfolding size_rest r.sized_of
  on-size body (Old i) m c bs = simp (flat, bind-ret)
  on-size body (New n) m c bs = simp flat

  pub sized-split : (body : Body) (m : Memory) (c : Cursor) (s : List ℕ)
      → reads (size_head row >>= on_rest (new_of value row body)) m c s ≡ reads (marked value row (sized body)) m c s
  unfolding reads marked size_head
  sized-split body m c s = ap cleared (flat (u29 word_more 0 m c (drop c.at s)) _ _ ∙ bind-same (u29 word_more 0 m c (drop c.at s)) _ _ (λ w. on-size body (size_of w)))

  on_trait : (t : Trait) (m : Memory) (c : Cursor) (bs : List ℕ) → (inline_trait row t >>= on_rest (members value row)) m c bs ≡ inlined value row t m c bs
  unfolding inline_trait inlined
  on_trait t m c bs = simp flat

  on_shape : (z : Shape) (m : Memory) (c : Cursor) (bs : List ℕ) → (object_rest row z >>= on_rest (members value row)) m c bs ≡ object_of value row z m c bs
  unfolding object_rest object_of known_trait new_trait external_trait
  on_shape (Object i) m c bs = simp (flat, bind-ret)
  on_shape (Known i) m c bs = simp flat
  on_shape External m c bs = simp flat
  on_shape (Inline n dynamic) m c bs = simp (flat, on_trait)

  pub object-split : (m : Memory) (c : Cursor) (s : List ℕ)
      → reads (object_head row >>= on_rest (members value row)) m c s ≡ reads (marked value row object) m c s
  unfolding reads marked object_head
  object-split m c s = ap cleared (flat (u29 word_more 0 m c (drop c.at s)) _ _ ∙ bind-same (u29 word_more 0 m c (drop c.at s)) _ _ (λ w. on_shape (shape_of w)))
