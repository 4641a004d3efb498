-- The decisions as readers, by the answers of their functions and the loans that these left.
use mathlib.Core.Path.{◌≡◌, refl, ap, ◌∙◌}
use mathlib.Core.Bool.{Bool}
use mathlib.Core.List.{List}
use Prim.Native.Nat.{ℕ}
use lib.ListN.{drop}
use Rattle.rows.specs.declared.Cursor.{Cursor}
use Rattle.rows.specs.declared.Span.{Span}
use Rattle.rows.specs.declared.Key.{Key}
use Rattle.rows.specs.declared.Trait.{Trait}
use Rattle.rows.specs.Memory.{Memory, memory}
use Rattle.wire.specs.Put.{With1, with1}
use Rattle.format.specs.declared.Refusal.{Refusal}
use Rattle.decide.specs.Outcomes.{leaving, stopped}
use Rattle.format.specs.Decide as d
use Rattle.format.specs.Decide.{Out, stop, give, lift, looking, on_rows, on_store, on_strings, on_objects, on_traits, on_names}
use Rattle.format.specs.Reading.{Result, ok, decided, by}
use Rattle.scan.specs.Reads.{result, cleared, reads}
use Rattle.scan.proofs.Stays as stays
use Rattle.scan.proofs.Stays.{Stays, given}

-- one that writes a loan
decides : {A : Type 0} (to : List ℕ → Memory) (c : Cursor) (s R R' : List ℕ) (o : Out Unit A) (x : Out (List ℕ) A)
    → with1 o R' ≡ leaving R x → Stays c x → result o (to R') s ≡ cleared (decided (lift to x) (to R) (drop c.at s))
unfolding result cleared
decides {A} to c s R R' o x e h = ap answer e ∙ alike x h
  where
    answer : With1 (Out Unit A) → Result A
    answer (with1 o R) = result o (to R) s

    alike : (x : Out (List ℕ) A) → Stays c x → answer (leaving R x) ≡ cleared (decided (lift to x) (to R) (drop c.at s))
    alike (stop n t p) h = refl
    alike (give a R'' c') (given q) = ap (λ at. ok a (to R'') c' (drop at s)) q

-- one that only reads
looks : {A : Type 0} (m : Memory) (c : Cursor) (s : List ℕ) (o x : Out Unit A)
    → o ≡ x → Stays c x → result o m s ≡ cleared (decided (lift (λ y. m) x) m (drop c.at s))
unfolding result cleared
looks {A} m c s o x e h = ap (λ o. result o m s) e ∙ alike x h
  where
    alike : (x : Out Unit A) → Stays c x → result x m s ≡ cleared (decided (lift (λ y. m) x) m (drop c.at s))
    alike (stop n t p) h = refl
    alike (give a y c') (given q) = ap (λ at. ok a m c' (drop at s)) q

module _ (R B T O U N s : List ℕ) (c : Cursor) where
  pub does_marker : (k : Key) (left b : ℕ) (X' : List ℕ) (o : Out Unit ℕ) → with1 o X' ≡ leaving R (d.marker k left b R c)
      → result o (memory X' B T O U N) s ≡ reads (by (on_rows (d.marker k left b))) (memory R B T O U N) c s
  unfolding reads
  does_marker k left b X' o e = decides (λ X. memory X B T O U N) c s R X' o (d.marker k left b R c) e (stays.stays-marker c k left b R)

  pub does_closed : (row : ℕ) (X' : List ℕ) (o : Out Unit Unit) → with1 o X' ≡ leaving R (d.closed row R c)
      → result o (memory X' B T O U N) s ≡ reads (by (on_rows (d.closed row))) (memory R B T O U N) c s
  unfolding reads
  does_closed row X' o e = decides (λ X. memory X B T O U N) c s R X' o (d.closed row R c) e (stays.stays_closed c row R)

  pub does_numbered : (row n : ℕ) (X' : List ℕ) (o : Out Unit Unit) → with1 o X' ≡ leaving R (d.numbered row n R c)
      → result o (memory X' B T O U N) s ≡ reads (by (on_rows (d.numbered row n))) (memory R B T O U N) c s
  unfolding reads
  does_numbered row n X' o e = decides (λ X. memory X B T O U N) c s R X' o (d.numbered row n R c) e (stays.stays-numbered c row n R)

  pub does_integer : (row w : ℕ) (X' : List ℕ) (o : Out Unit Unit) → with1 o X' ≡ leaving R (d.integer_end row w R c)
      → result o (memory X' B T O U N) s ≡ reads (by (on_rows (d.integer_end row w))) (memory R B T O U N) c s
  unfolding reads
  does_integer row w X' o e = decides (λ X. memory X B T O U N) c s R X' o (d.integer_end row w R c) e (stays.stays-integer c row w R)

  pub does_date : (row bits : ℕ) (X' : List ℕ) (o : Out Unit Unit) → with1 o X' ≡ leaving R (d.date_end row bits R c)
      → result o (memory X' B T O U N) s ≡ reads (by (on_rows (d.date_end row bits))) (memory R B T O U N) c s
  unfolding reads
  does_date row bits X' o e = decides (λ X. memory X B T O U N) c s R X' o (d.date_end row bits R c) e (stays.stays-date c row bits R)

  pub does_bodied : (row : ℕ) (p : Span) (X' : List ℕ) (o : Out Unit Unit) → with1 o X' ≡ leaving R (d.bodied row p R c)
      → result o (memory X' B T O U N) s ≡ reads (by (on_rows (d.bodied row p))) (memory R B T O U N) c s
  unfolding reads
  does_bodied row p X' o e = decides (λ X. memory X B T O U N) c s R X' o (d.bodied row p R c) e (stays.stays-bodied c row p R)

  pub does_object : (row : ℕ) (t : Trait) (X' : List ℕ) (o : Out Unit Unit) → with1 o X' ≡ leaving R (d.object_class row t R c)
      → result o (memory X' B T O U N) s ≡ reads (by (on_rows (d.object_class row t))) (memory R B T O U N) c s
  unfolding reads
  does_object row t X' o e = decides (λ X. memory X B T O U N) c s R X' o (d.object_class row t R c) e (stays.stays-object c row t R)

  pub does_vector : (row : ℕ) (star : Bool) (p : Span) (X' : List ℕ) (o : Out Unit Unit) → with1 o X' ≡ leaving R (d.vector_class row star p R c)
      → result o (memory X' B T O U N) s ≡ reads (by (on_rows (d.vector_class row star p))) (memory R B T O U N) c s
  unfolding reads
  does_vector row star p X' o e = decides (λ X. memory X B T O U N) c s R X' o (d.vector_class row star p R c) e (stays.stays-vector c row star p R)

  pub does_flagged : (row flag : ℕ) (X' : List ℕ) (o : Out Unit Unit) → with1 o X' ≡ leaving R (d.flagged row flag R c)
      → result o (memory X' B T O U N) s ≡ reads (by (on_rows (d.flagged row flag))) (memory R B T O U N) c s
  unfolding reads
  does_flagged row flag X' o e = decides (λ X. memory X B T O U N) c s R X' o (d.flagged row flag R c) e (stays.stays-flagged c row flag R)

  pub does_counted : (row col done : ℕ) (X' : List ℕ) (o : Out Unit Unit) → with1 o X' ≡ leaving R (d.counted row col done R c)
      → result o (memory X' B T O U N) s ≡ reads (by (on_rows (d.counted row col done))) (memory R B T O U N) c s
  unfolding reads
  does_counted row col done X' o e = decides (λ X. memory X B T O U N) c s R X' o (d.counted row col done R c) e (stays.stays-counted c row col done R)

  pub does_grown : (row : ℕ) (w : d.Width) (p : Span) (n : ℕ) (X' : List ℕ) (o : Out Unit Unit) → with1 o X' ≡ leaving R (d.grown row w p n R c)
      → result o (memory X' B T O U N) s ≡ reads (by (on_rows (d.grown row w p n))) (memory R B T O U N) c s
  unfolding reads
  does_grown row w p n X' o e = decides (λ X. memory X B T O U N) c s R X' o (d.grown row w p n R c) e (stays.stays-grown c row w p n R)

  pub does_referred : (row i : ℕ) (X' : List ℕ) (o : Out Unit Unit) → with1 o X' ≡ leaving R (d.referred row i O R c)
      → result o (memory X' B T O U N) s ≡ reads (by (λ m. on_rows (d.referred row i m.objects) m)) (memory R B T O U N) c s
  unfolding reads
  does_referred row i X' o e = decides (λ X. memory X B T O U N) c s R X' o (d.referred row i O R c) e (stays.stays-referred c row i O R)

  pub does_stored : (p : Span) (n b : ℕ) (X' : List ℕ) (o : Out Unit Unit) → with1 o X' ≡ leaving B (d.stored p n b B c)
      → result o (memory R X' T O U N) s ≡ reads (by (on_store (d.stored p n b))) (memory R B T O U N) c s
  unfolding reads
  does_stored p n b X' o e = decides (λ X. memory R X T O U N) c s B X' o (d.stored p n b B c) e (stays.stays-stored c p n b B)

  pub does_text-end : (p : Span) (valid : Bool) (X' : List ℕ) (o : Out Unit Span) → with1 o X' ≡ leaving T (d.text_end p valid T c)
      → result o (memory R B X' O U N) s ≡ reads (by (on_strings (d.text_end p valid))) (memory R B T O U N) c s
  unfolding reads
  does_text-end p valid X' o e = decides (λ X. memory R B X O U N) c s T X' o (d.text_end p valid T c) e (stays.stays-text-end c p valid T)

  pub does_entered : (row : ℕ) (X' : List ℕ) (o : Out Unit Unit) → with1 o X' ≡ leaving O (d.entered row O c)
      → result o (memory R B T X' U N) s ≡ reads (by (on_objects (d.entered row))) (memory R B T O U N) c s
  unfolding reads
  does_entered row X' o e = decides (λ X. memory R B T X U N) c s O X' o (d.entered row O c) e (stays.stays-entered c row O)

  pub does_trait_end : (t : Trait) (X' : List ℕ) (o : Out Unit Unit) → with1 o X' ≡ leaving U (d.trait_end t U c)
      → result o (memory R B T O X' N) s ≡ reads (by (on_traits (d.trait_end t))) (memory R B T O U N) c s
  unfolding reads
  does_trait_end t X' o e = decides (λ X. memory R B T O X N) c s U X' o (d.trait_end t U c) e (stays.stays_trait_end c t U)

  pub does_named : (p : Span) (X' : List ℕ) (o : Out Unit Span) → with1 o X' ≡ leaving N (d.named p N c)
      → result o (memory R B T O U X') s ≡ reads (by (on_names (d.named p))) (memory R B T O U N) c s
  unfolding reads
  does_named p X' o e = decides (λ X. memory R B T O U X) c s N X' o (d.named p N c) e (stays.stays-named c p N)

  pub does_old-text : (i : ℕ) (o : Out Unit Span) → o ≡ d.old_text i T c → result o (memory R B T O U N) s ≡ reads (by (looking (λ m. d.old_text i m.strings))) (memory R B T O U N) c s
  unfolding reads
  does_old-text i o e = looks (memory R B T O U N) c s o (d.old_text i T c) e (stays.stays-old-text c i T)

  pub does_reserved : (n : ℕ) (o : Out Unit Span) → o ≡ d.reserved n B c → result o (memory R B T O U N) s ≡ reads (by (looking (λ m. d.reserved n m.store))) (memory R B T O U N) c s
  unfolding reads
  does_reserved n o e = looks (memory R B T O U N) c s o (d.reserved n B c) e (stays.stays-reserved c n B)

  pub does_old_trait : (i : ℕ) (o : Out Unit Trait) → o ≡ d.old_trait i U c → result o (memory R B T O U N) s ≡ reads (by (looking (λ m. d.old_trait i m.traits))) (memory R B T O U N) c s
  unfolding reads
  does_old_trait i o e = looks (memory R B T O U N) c s o (d.old_trait i U c) e (stays.stays-old_trait c i U)

  pub does_sealed-key : (i : ℕ) (o : Out Unit Key) → o ≡ d.sealed_key i N c → result o (memory R B T O U N) s ≡ reads (by (looking (λ m. d.sealed_key i m.names))) (memory R B T O U N) c s
  unfolding reads
  does_sealed-key i o e = looks (memory R B T O U N) c s o (d.sealed_key i N c) e (stays.stays-sealed-key c i N)

  pub does_key-end : (row done : ℕ) (o : Out Unit Unit) → o ≡ d.key_end row done R c
      → result o (memory R B T O U N) s ≡ reads (by (looking (λ m. d.key_end row done m.rows))) (memory R B T O U N) c s
  unfolding reads
  does_key-end row done o e = looks (memory R B T O U N) c s o (d.key_end row done R c) e (stays.stays-key-end c row done R)

  pub does_starred : (p : Span) (o : Out Unit Bool) → o ≡ d.starred p B c → result o (memory R B T O U N) s ≡ reads (by (looking (λ m. d.starred p m.store))) (memory R B T O U N) c s
  unfolding reads
  does_starred p o e = looks (memory R B T O U N) c s o (d.starred p B c) e (stays.stays-starred c p B)

  pub does_judged : (valid : Bool) (o : Out Unit Unit) → o ≡ d.judged valid c → result o (memory R B T O U N) s ≡ reads (by (looking (λ m. d.judged valid))) (memory R B T O U N) c s
  unfolding reads
  does_judged valid o e = looks (memory R B T O U N) c s o (d.judged valid c) e (stays.stays-judged c valid)

pub does_refuse : {A : Type 0} (m : Memory) (c : Cursor) (s : List ℕ) (number told : ℕ) (x : Refusal) → x ≡ record { number = number; told = told; place = c.at }
    → result {A = A} (stopped x) m s ≡ reads (by (λ m c. d.refuse number told c)) m c s
unfolding result cleared reads
does_refuse {A} m c s number told x e = ap (λ x. result {A = A} (stopped x) m s) e
