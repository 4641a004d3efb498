-- The state that numbers are read as is the one that the tables of codes say.
use mathlib.Core.Path.{◌≡◌, refl, sym, ap, ◌∙◌}
use mathlib.Core.Bool.{Bool, true, false, cond, ◌&&◌}
use mathlib.Core.Logic.{◌≢◌}
use mathlib.Core.List.{List}
use Prim.Native.Nat.{ℕ, zero, suc, ◌≤◌, ◌<◌}
use native.Mathlib.Omega.{arith}
use borrow.Author.Tests.{eqb-true, leb-true, leb-false, le-leb, eq-eqb}
use lib.Dec.{leb, eqb, lit≤}
use lib.ListN.{length}
use Rattle.rows.specs.Memory.{Memory, rows_most, store_most}
use Rattle.format.specs.declared.Work.{Work}
use Rattle.format.specs.Codes.{status_waiting, status_finished, status_refused, mode_marker, mode_word, mode_number, mode_flag, mode_text}
use Rattle.format.specs.Codes.{mode_raw, purpose_integer, purpose_double, purpose_object, purpose_date_bits, purpose_xml, purpose_date, purpose_array}
use Rattle.format.specs.Codes.{purpose_byte_array, purpose_fours, purpose_eights, purpose_object_vector, purpose_dictionary, purpose_string, purpose_key, purpose_dynamic_key}
use Rattle.format.specs.Codes.{purpose_class, purpose_external, purpose_name, purpose_vector_class}
use Rattle.format.specs.Decide.{Width, Body, xml, date, array, bytes, raw, objects, dictionary, four, eight}
use Rattle.format.specs.Claims.{Lendable}
use Rattle.format.specs.Step.{Use, Mode, at_word, at_number, at_flag, at_text, at_raw, astray, wait}
use Rattle.format.specs.Numbers.{Numbers, frame_at, frames_of, with_body, with_use, with_word, with_number, with_flag, with_text, with_raw, mode_of, finishable, state_of}
use Rattle.format.specs.Meant.{BodyMeant, of_xml, of_date, of_array, of_byte_array, of_fours, of_eights, of_object_vector, of_dictionary}
use Rattle.format.specs.Meant.{UseMeant, of_string, of_key, of_dynamic_key, of_class, of_external, of_name, of_vector_class}
use Rattle.format.specs.Meant.{ModeMeant, marker, integers, object_words, sizes, strings, doubles, dates, raw_flags, vector_flags, dictionary_flags, xml_texts, texts}
use Rattle.format.specs.Meant.{byte_arrays, raw_vectors, FramesMeant, StateMeant, waits, strays, finishes, refuses, unbegun}
use Rattle.format.specs.Refusals as no
use Rattle.format.proofs.Tests.{on_bool, is_true, both, clash}

-- ---- codes

-- a number is a code, or isn't
on-code : {A : Type 0} (P : A → Type 0) (n k : ℕ) (x y : A) → (n ≡ k → P x) → ((n ≡ k → ⊥) → P y) → P (cond (eqb n k) x y)
on-code P n k x y f g = on_bool (eqb n k) (λ e. rw e (f (eqb-true n k e))) (λ e. rw e (g (λ q. let z = eq-eqb n k q in clash cc)))

module _ {A : Type 0} (P : A → Type 0) (a : A) where
  -- whose body
  body_means : (p : ℕ) (f : Body → A) → ((b : Body) → BodyMeant p b → P (f b)) → (((b : Body) → BodyMeant p b → ⊥) → P a) → P (with_body a p f)
  body_means p f g h =
      on-code P p purpose_xml _ _ (λ e. g xml (rw e of_xml)) (λ a.
      on-code P p purpose_date _ _ (λ e. g date (rw e of_date)) (λ b.
      on-code P p purpose_array _ _ (λ e. g array (rw e of_array)) (λ c.
      on-code P p purpose_byte_array _ _ (λ e. g bytes (rw e of_byte_array)) (λ d.
      on-code P p purpose_fours _ _ (λ e. g (raw four) (rw e of_fours)) (λ i.
      on-code P p purpose_eights _ _ (λ e. g (raw eight) (rw e of_eights)) (λ j.
      on-code P p purpose_object_vector _ _ (λ e. g objects (rw e of_object_vector)) (λ k.
      on-code P p purpose_dictionary _ _ (λ e. g dictionary (rw e of_dictionary)) (λ l. h (λ y z. none_of a b c d i j k l z)))))))))
    where
      none_of : {y : Body} {q : ℕ} → (q ≡ purpose_xml → ⊥) → (q ≡ purpose_date → ⊥) → (q ≡ purpose_array → ⊥) → (q ≡ purpose_byte_array → ⊥) → (q ≡ purpose_fours → ⊥)
          → (q ≡ purpose_eights → ⊥) → (q ≡ purpose_object_vector → ⊥) → (q ≡ purpose_dictionary → ⊥) → BodyMeant q y → ⊥
      none_of a b c d i j k l of_xml = a refl
      none_of a b c d i j k l of_date = b refl
      none_of a b c d i j k l of_array = c refl
      none_of a b c d i j k l of_byte_array = d refl
      none_of a b c d i j k l of_fours = i refl
      none_of a b c d i j k l of_eights = j refl
      none_of a b c d i j k l of_object_vector = k refl
      none_of a b c d i j k l of_dictionary = l refl

  -- whose string
  use-means : (w : Work) (f : Use → A) → ((u : Use) → UseMeant w u → P (f u)) → (((u : Use) → UseMeant w u → ⊥) → P a) → P (with_use a w f)
  use-means w f g h =
      on-code P w.purpose purpose_string _ _ (λ e. g _ (of_string e)) (λ a.
      on-code P w.purpose purpose_key _ _ (λ e. g _ (of_key e)) (λ b.
      on-code P w.purpose purpose_dynamic_key _ _ (λ e. g _ (of_dynamic_key e)) (λ c.
      on-code P w.purpose purpose_class _ _ (λ e. g _ (of_class e)) (λ d.
      on-code P w.purpose purpose_external _ _ (λ e. g _ (of_external e)) (λ i.
      on-code P w.purpose purpose_name _ _ (λ e. g _ (of_name e)) (λ j.
      on-code P w.purpose purpose_vector_class _ _ (λ e. g _ (of_vector_class e)) (λ k. h (λ u z. none_of a b c d i j k z))))))))
    where
      none_of : {u : Use} → (w.purpose ≡ purpose_string → ⊥) → (w.purpose ≡ purpose_key → ⊥) → (w.purpose ≡ purpose_dynamic_key → ⊥) → (w.purpose ≡ purpose_class → ⊥)
          → (w.purpose ≡ purpose_external → ⊥) → (w.purpose ≡ purpose_name → ⊥) → (w.purpose ≡ purpose_vector_class → ⊥) → UseMeant w u → ⊥
      none_of a b c d i j k (of_string e) = a e
      none_of a b c d i j k (of_key e) = b e
      none_of a b c d i j k (of_dynamic_key e) = c e
      none_of a b c d i j k (of_class e) = d e
      none_of a b c d i j k (of_external e) = i e
      none_of a b c d i j k (of_name e) = j e
      none_of a b c d i j k (of_vector_class e) = k e

-- ---- a mode

-- the tables say what a mode is for, or it is astray and they say nothing
data Fit (w : Work) : Mode → Type 0 where
  meant : {x : Mode} → ModeMeant w x → Fit w x
  lacking : ((y : Mode) → ModeMeant w y → ⊥) → Fit w astray

-- no purpose of a body is one of a string
body-low : {p : ℕ} {b : Body} → BodyMeant p b → p ≤ purpose_dictionary
body-low of_xml = lit≤ tt
body-low of_date = lit≤ tt
body-low of_array = lit≤ tt
body-low of_byte_array = lit≤ tt
body-low of_fours = lit≤ tt
body-low of_eights = lit≤ tt
body-low of_object_vector = lit≤ tt
body-low of_dictionary = lit≤ tt

module _ (w : Work) where
  use-high : {u : Use} → UseMeant w u → purpose_dictionary < w.purpose
  use-high (of_string e) = omega arith
  use-high (of_key e) = omega arith
  use-high (of_dynamic_key e) = omega arith
  use-high (of_class e) = omega arith
  use-high (of_external e) = omega arith
  use-high (of_name e) = omega arith
  use-high (of_vector_class e) = omega arith

  -- no purpose of a word, of eight bytes, of a flag, of a text, of raw bytes
  abbrev NoBody : Type 0
  NoBody = (b : Body) → BodyMeant w.purpose b → ⊥

  abbrev NoUse : Type 0
  NoUse = (u : Use) → UseMeant w u → ⊥

  abbrev NoWord : Type 0
  NoWord = (w.purpose ≢ purpose_integer) × (w.purpose ≢ purpose_object) × NoBody × NoUse

  abbrev NoNumber : Type 0
  NoNumber = (w.purpose ≢ purpose_double) × (w.purpose ≢ purpose_date_bits)

  abbrev NoRaw : Type 0
  NoRaw = (a : Width) → BodyMeant w.purpose (raw a) → ⊥

  -- so no mode is meant
  nothing : (w.mode ≢ mode_marker) → (w.mode ≡ mode_word → NoWord) → (w.mode ≡ mode_number → NoNumber)
      → (w.mode ≡ mode_flag → NoRaw × (w.purpose ≢ purpose_object_vector) × (w.purpose ≢ purpose_dictionary)) → (w.mode ≡ mode_text → (w.purpose ≢ purpose_xml) × NoUse)
      → (w.mode ≡ mode_raw → (w.purpose ≢ purpose_byte_array) × NoRaw) → (y : Mode) → ModeMeant w y → ⊥
  nothing a b c d e f y (marker q) = a q
  nothing a b c d e f y (integers q p) = (b q).0 p
  nothing a b c d e f y (object_words q p) = (b q).1 p
  nothing a b c d e f y (sizes {b = o} q p) = (b q).2 o p
  nothing a b c d e f y (strings {u = u} q p) = (b q).3 u p
  nothing a b c d e f y (doubles q p) = (c q).0 p
  nothing a b c d e f y (dates q p) = (c q).1 p
  nothing a b c d e f y (raw_flags {a = v} q p) = (d q).0 v p
  nothing a b c d e f y (vector_flags q p) = (d q).1 p
  nothing a b c d e f y (dictionary_flags q p) = (d q).2 p
  nothing a b c d e f y (xml_texts q p) = (e q).0 p
  nothing a b c d e f y (texts {u = u} q p) = (e q).1 u p
  nothing a b c d e f y (byte_arrays q p) = (f q).0 p
  nothing a b c d e f y (raw_vectors {a = v} q p) = (f q).1 v p

  -- another mode
  other : {X : Type 0} (j k : ℕ) → w.mode ≡ j → j ≢ k → w.mode ≡ k → X
  other j k e n q = absurd (n (sym e ∙ q))

  word_fits : w.mode ≡ mode_word → Fit w (with_word astray w (λ x. at_word x w.left w.part))
  word_fits e =
      on-code (Fit w) w.purpose purpose_integer _ _ (λ p. meant (integers e p)) (λ i.
      on-code (Fit w) w.purpose purpose_object _ _ (λ p. meant (object_words e p)) (λ j.
      on_bool (leb w.purpose purpose_dictionary)
      (λ l. rw l (body_means (Fit w) astray w.purpose _ (λ b p. meant (sizes e p)) (λ n.
      lacking (none (i, j, n, λ u p. (let h = use-high p in let k = leb-true w.purpose purpose_dictionary l in omega arith))))))
      (λ l. rw l (use-means (Fit w) astray w _ (λ u p. meant (strings e p)) (λ n.
      lacking (none (i, j, λ b p. (let h = body-low p in let k = leb-false w.purpose purpose_dictionary l in omega arith), n)))))))
    where
      none : NoWord → (y : Mode) → ModeMeant w y → ⊥
      none z = nothing (λ q. other mode_word mode_marker e (λ i. clash cc) q) (λ q. z) (λ q. other mode_word mode_number e (λ i. clash cc) q)
          (λ q. other mode_word mode_flag e (λ i. clash cc) q) (λ q. other mode_word mode_text e (λ i. clash cc) q) (λ q. other mode_word mode_raw e (λ i. clash cc) q)

  number_fits : w.mode ≡ mode_number → Fit w (with_number astray w (λ x. at_number x w.left w.part))
  number_fits e =
      on-code (Fit w) w.purpose purpose_double _ _ (λ p. meant (doubles e p)) (λ i.
      on-code (Fit w) w.purpose purpose_date_bits _ _ (λ p. meant (dates e p)) (λ j.
      lacking (nothing (λ q. other mode_number mode_marker e (λ i. clash cc) q) (λ q. other mode_number mode_word e (λ i. clash cc) q) (λ q. (i, j))
      (λ q. other mode_number mode_flag e (λ i. clash cc) q) (λ q. other mode_number mode_text e (λ i. clash cc) q) (λ q. other mode_number mode_raw e (λ i. clash cc) q))))

  -- neither width
  no-raw : (w.purpose ≢ purpose_fours) → (w.purpose ≢ purpose_eights) → NoRaw
  no-raw i j a p = of i j p
    where
      of : {q : ℕ} {a : Width} → q ≢ purpose_fours → q ≢ purpose_eights → BodyMeant q (raw a) → ⊥
      of i j of_fours = i refl
      of i j of_eights = j refl

  flag-fits : w.mode ≡ mode_flag → Fit w (with_flag astray w at_flag)
  flag-fits e =
      on-code (Fit w) w.purpose purpose_fours _ _ (λ p. meant (raw_flags e (rw p of_fours))) (λ i.
      on-code (Fit w) w.purpose purpose_eights _ _ (λ p. meant (raw_flags e (rw p of_eights))) (λ j.
      on-code (Fit w) w.purpose purpose_object_vector _ _ (λ p. meant (vector_flags e p)) (λ k.
      on-code (Fit w) w.purpose purpose_dictionary _ _ (λ p. meant (dictionary_flags e p)) (λ l.
      lacking (nothing (λ q. other mode_flag mode_marker e (λ i. clash cc) q) (λ q. other mode_flag mode_word e (λ i. clash cc) q)
      (λ q. other mode_flag mode_number e (λ i. clash cc) q) (λ q. (no-raw i j, k, l)) (λ q. other mode_flag mode_text e (λ i. clash cc) q)
      (λ q. other mode_flag mode_raw e (λ i. clash cc) q))))))

  text-fits : w.mode ≡ mode_text → Fit w (with_text astray w (λ x. at_text x w.span w.left w.part))
  text-fits e =
      on-code (Fit w) w.purpose purpose_xml _ _ (λ p. meant (xml_texts e p)) (λ i.
      use-means (Fit w) astray w _ (λ u p. meant (texts e p)) (λ n.
      lacking (nothing (λ q. other mode_text mode_marker e (λ i. clash cc) q) (λ q. other mode_text mode_word e (λ i. clash cc) q)
      (λ q. other mode_text mode_number e (λ i. clash cc) q) (λ q. other mode_text mode_flag e (λ i. clash cc) q) (λ q. (i, n))
      (λ q. other mode_text mode_raw e (λ i. clash cc) q))))

  raw-fits : w.mode ≡ mode_raw → Fit w (with_raw astray w.purpose w.row (λ r. at_raw r w.span w.left))
  raw-fits e =
      on-code (Fit w) w.purpose purpose_byte_array _ _ (λ p. meant (byte_arrays e p)) (λ i.
      on-code (Fit w) w.purpose purpose_fours _ _ (λ p. meant (raw_vectors e (rw p of_fours))) (λ j.
      on-code (Fit w) w.purpose purpose_eights _ _ (λ p. meant (raw_vectors e (rw p of_eights))) (λ k.
      lacking (nothing (λ q. other mode_raw mode_marker e (λ i. clash cc) q) (λ q. other mode_raw mode_word e (λ i. clash cc) q)
      (λ q. other mode_raw mode_number e (λ i. clash cc) q) (λ q. other mode_raw mode_flag e (λ i. clash cc) q) (λ q. other mode_raw mode_text e (λ i. clash cc) q)
      (λ q. (i, no-raw j k))))))

  -- every mode
  mode-fits : Fit w (mode_of w)
  unfolding mode_of
  mode-fits =
      on-code (Fit w) w.mode mode_marker _ _ (λ e. meant (marker e)) (λ a.
      on-code (Fit w) w.mode mode_word _ _ word_fits (λ b.
      on-code (Fit w) w.mode mode_number _ _ number_fits (λ c.
      on-code (Fit w) w.mode mode_flag _ _ flag-fits (λ d.
      on-code (Fit w) w.mode mode_text _ _ text-fits (λ e.
      on-code (Fit w) w.mode mode_raw _ _ raw-fits (λ f.
      lacking (nothing a (λ q. absurd (b q)) (λ q. absurd (c q)) (λ q. absurd (d q)) (λ q. absurd (e q)) (λ q. absurd (f q)))))))))

-- ---- frames

frames-many : (F : List ℕ) (n : ℕ) → length (frames_of F n) ≡ n
unfolding frames_of
frames-many F zero = refl
frames-many F (suc n) = ap suc (frames-many F n)

frames_mean : (F : List ℕ) (n : ℕ) → FramesMeant F (frames_of F n)
unfolding frames_of frame_at
frames_mean F zero = tt
frames_mean F (suc n) =
    (rw (frames-many F n) (record { task = refl; row = refl; left = refl; done = refl; first = refl; dynamic = refl }), frames_mean F n)

-- ---- a state

-- a test of two parts
neither-part : (t u : Bool) → (t && u) ≡ false → t ≡ true → u ≡ true → ⊥
neither-part true true e p q = clash cc
neither-part true false e p q = clash cc
neither-part false u e p q = clash cc

-- what is finished within what can be lent
lendable : (n : Numbers) → finishable n.head.cursor ≡ true → Lendable n.head.cursor.rows n.head.cursor.store
lendable n e =
    let (a, b) = both (leb n.head.cursor.rows rows_most) (leb n.head.cursor.store store_most) e in
    (leb-true _ _ a, leb-true _ _ b)

is-finishable : (n : Numbers) → Lendable n.head.cursor.rows n.head.cursor.store → finishable n.head.cursor ≡ true
is-finishable n (a, b) = rw (le-leb n.head.cursor.rows rows_most a, le-leb n.head.cursor.store store_most b)

waiting_means : (n : Numbers) (m : Memory) → n.head.status ≡ status_waiting
    → StateMeant n m (wait (mode_of n.head.work) (frames_of n.frames n.head.depth) n.head.cursor m)
waiting_means n m e = of (mode_of n.head.work) (mode-fits n.head.work)
  where
    of : (x : Mode) → Fit n.head.work x → StateMeant n m (wait x (frames_of n.frames n.head.depth) n.head.cursor m)
    of x (meant h) = waits e h (frames-many n.frames n.head.depth) (frames_mean n.frames n.head.depth)
    of x (lacking h) = strays e h (frames-many n.frames n.head.depth) (frames_mean n.frames n.head.depth)

-- whatever the numbers
pub numbers_mean : (n : Numbers) (m : Memory) → StateMeant n m (state_of n m)
unfolding state_of
numbers_mean n m =
    on-code (StateMeant n m) status status_waiting _ _ (λ e. waiting_means n m e) (λ a.
    on_bool (eqb status status_finished && finishable n.head.cursor)
    (λ e. let (p, q) = both (eqb status status_finished) (finishable n.head.cursor) e in rw e (finishes (eqb-true _ _ p) (lendable n q)))
    (λ b. rw b (on_bool (eqb status status_refused && sayable)
    (λ e. let (p, q) = both (eqb status status_refused) sayable e in rw e (refuses (eqb-true _ _ p) (rw q tt)))
    (λ c. rw c (unbegun a
    (λ e l. neither-part (eqb status status_finished) (finishable n.head.cursor) b (eq-eqb _ _ e) (is-finishable n l))
    (λ e t. neither-part (eqb status status_refused) sayable c (eq-eqb _ _ e) (is_true sayable t)))))))
  where
    status : ℕ
    status = n.head.status

    sayable : Bool
    sayable = no.sayable n.head.number n.head.told n.head.place
