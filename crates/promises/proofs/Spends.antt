-- What each decision takes, beside the standard's reading; and numbers, words and texts read beside it.
use Rattle.std.proofs.Common.{Option, Some}
use Rattle.std.specs.declared.option.Option.TheVariants as option
use mathlib.Core.Path.{◌≡◌, refl, sym, ◌∙◌}
use mathlib.Core.Bool.{Bool, true, false, cond}
use mathlib.Core.List.{List, [], ◌∷◌}
use Prim.Native.Nat.{ℕ, zero, suc, ◌+◌, ◌*◌, ◌-◌, ◌/◌, ◌^◌, ◌≤◌}
use native.Mathlib.Omega.{arith}
use borrow.Author.Tests.{lt-ltb, le-ltb, lt-leb, leb-false}
use lib.Dec.{leb, ltb, eqb-suc-zero}
use lib.ListN.{length, get_or, length-append}
use lib.Seq.{sets, length-sets}
use Rattle.rows.specs.declared.Cursor.{Cursor}
use Rattle.rows.specs.declared.Span.{Span}
use Rattle.rows.specs.declared.Key.{Key}
use Rattle.rows.specs.declared.Trait.{Trait}
use Rattle.rows.specs.Memory.{Memory, memory, message_limit, span_width, row_used, span_used, span_at, no_span}
use Rattle.wire.specs.declared.Part.{Part}
use Rattle.wire.specs.declared.Part.TheVariants.{More, Whole}
use Rattle.wire.specs.declared.Size.{Size}
use Rattle.wire.specs.declared.Size.TheVariants.{Old, New}
use Rattle.wire.specs.Big.{digit_of}
use Rattle.wire.specs.U29.{part_of}
use Rattle.wire.specs.Word.{size_of}
use Rattle.meaning.proofs.Own.{size_is}
use Rattle.wire.specs.Date.{refused_date}
use Rattle.wire.specs.Sign.{integer_of, column_of}
use Rattle.wire.proofs.U29.{Step, step, astray, fourth, last, more}
use Rattle.utf8.specs.States.{step_of}
use Rattle.utf8.specs.Grammar.{valid_text}
use Rattle.format.specs.Decide.{Out, give, refuse, lost, Decision, lift, looking, on_rows, on_store, on_strings, on_objects, on_names}
use Rattle.format.specs.Decide.{Width, closed, numbered, integer_end, date_end, bodied, classed, object_class, vector_class, flagged, counted, key_end, grown}
use Rattle.format.specs.Decide.{marker, reserved, stored, judged, entered, named, sealed_key, starred, old_text, text_end, strings_to, traits_to}
use Rattle.format.specs.Reading as our
use Rattle.format.specs.Reading.{ResultOf, ok, bad, Reader, ◌>>=◌, ret, decided, by}
use Rattle.format.specs.Standard as std
use Rattle.format.specs.Standard.{Traits, Tables, Std, fail, lookup, with_text}
use Rattle.format.specs.Holds.{Room, room, ◌and◌, nothing, a_row, of_text}
use Rattle.format.proofs.Lists.{kept_sets, sets-at}
use Rattle.format.proofs.Memories.{numbers}
use Rattle.meaning.proofs.Changes.{at-end}
use Rattle.meaning.proofs.Fuel.{Takes, takes-bind, takes-ret, takes-less, takes-cond, takes-fail, takes-lookup, takes-change, byte-takes, bytes-takes, word-takes}
use Rattle.meaning.proofs.Fuel.{text-of-takes}
use Rattle.meaning.proofs.Holds.{Fits, Uses, Within, Any}
use Rattle.meaning.proofs.Enough.{goes-closed, goes-numbered, goes-date, goes-bodied, goes-class, goes_type, goes-flagged}
use Rattle.meaning.proofs.Enough.{goes-counted, goes-key-end, goes-grown, goes-marker, goes-judged, goes-entered, goes-named, goes-stored, goes-reserved}
use Rattle.meaning.proofs.Enough.{goes-sealed-key, goes-starred}
use Rattle.promises.proofs.Fares.{All, Nice, Paid, no_traits, small-kept, Gives, gives-bind, gives_then, gives-ret, gives-fail, gives_up, Small, Pays, pays-bind, pays-told, pays-ret, pays-made}
use Rattle.promises.proofs.Fares.{calm_ret, Keeps, halts, stays, Spends, pays-free, pays-by, pays-flat, pays-end, pays-lost, pays-flat_std}
use Rattle.format.specs.Refusals as refusals
use Rattle.rows.specs.Memory.{trait_width}

-- ---- strings and traits stay

module _ {S A : Type 0} (m : Memory) (c : Cursor) (to : S → Memory) where
  pub keeps-cond : (t : Bool) (x y : Out S A) → Keeps m c (lift to x) → Keeps m c (lift to y) → Keeps m c (lift to (cond t x y))
  keeps-cond true x y h k = h
  keeps-cond false x y h k = k

ruleset keeping = (keeps-cond, halts, stays, refl)

abbrev with_rows : Memory → List ℕ → Memory
with_rows m R = memory R m.store m.strings m.objects m.traits m.names

module _ (row : ℕ) where
  pub spends-closed : Spends Any (on_rows (closed row)) nothing
  unfolding closed
  spends-closed = record { goes = goes-closed row; keeps = λ m c. search keeping }

  pub spends-numbered : (n : ℕ) → Spends Any (on_rows (numbered row n)) nothing
  unfolding numbered
  spends-numbered n = record { goes = goes-numbered row n; keeps = λ m c. search keeping }

  pub spends-integer : (w : ℕ) → Spends Any (on_rows (integer_end row w)) nothing
  unfolding integer_end
  spends-integer w = spends-numbered (column_of (integer_of w))

  pub spends-date : (bits : ℕ) → Spends Any (on_rows (date_end row bits)) nothing
  unfolding date_end
  spends-date bits = record { goes = goes-date row bits; keeps = λ m c. keeps-cond m c (with_rows m) (row_used m.rows c row) _ _ (date m c (refused_date bits)) halts }
    where
      date : (m : Memory) (c : Cursor) (t : Bool) → Keeps m c (lift (with_rows m) (cond t (refuse refusals.bad_date bits c) (numbered row bits m.rows c)))
      date m c true = halts
      date m c false = (spends-numbered bits).keeps m c

  pub spends-bodied : (s : Span) → Spends Any (on_rows (bodied row s)) nothing
  unfolding bodied
  spends-bodied s = record { goes = goes-bodied row s; keeps = λ m c. search keeping }

  classed-keeps : (mark : ℕ) (s : Span) (m : Memory) (c : Cursor) → Keeps m c (on_rows (classed row mark s) m c)
  unfolding classed
  classed-keeps mark s m c = search keeping

  pub spends-class : (t : Trait) → Spends Any (on_rows (object_class row t)) nothing
  unfolding object_class
  spends-class t = record { goes = goes-class row t; keeps = λ m c. classed-keeps _ _ m c }

  pub spends_type : (star : Bool) (s : Span) → Spends Any (on_rows (vector_class row star s)) nothing
  unfolding vector_class
  spends_type true s = record { goes = goes_type row true s; keeps = λ m c. classed-keeps _ _ m c }
  spends_type false s = record { goes = goes_type row false s; keeps = λ m c. classed-keeps _ _ m c }

  pub spends-flagged : (flag : ℕ) → Spends Any (on_rows (flagged row flag)) nothing
  unfolding flagged
  spends-flagged flag = record { goes = goes-flagged row flag; keeps = λ m c. search keeping }

  pub spends-counted : (col done : ℕ) → Spends Any (on_rows (counted row col done)) nothing
  unfolding counted
  spends-counted col done =
      record {
        goes = goes-counted row col done;
        keeps = λ m c. search keeping;
      }

  -- between a key and its value
  pub spends-key-end : (done : ℕ) → Spends Any (looking (λ m. key_end row done m.rows)) nothing
  unfolding key_end
  spends-key-end done = record { goes = goes-key-end row done; keeps = λ m c. search keeping }

  pub spends-grown : (w : Width) (s : Span) (n : ℕ) → Spends Any (on_rows (grown row w s n)) nothing
  unfolding grown
  spends-grown w s n = record { goes = goes-grown row w s n; keeps = λ m c. search keeping }

pub spends-marker : (k : Key) (left b : ℕ) → Spends Any (on_rows (marker k (suc left) b)) a_row
unfolding marker
spends-marker k left b =
    record {
      goes = goes-marker k left b;
      keeps = λ m c. search keeping;
    }

pub spends-reserved : (n : ℕ) → Spends (λ (s : Span). s.size ≡ n) (looking (λ m. reserved n m.store)) (room 0 n 0 0 0 0)
unfolding reserved
spends-reserved n =
    record {
      goes = goes-reserved n;
      keeps = λ m c. search keeping;
    }

pub spends-stored : (s : Span) (n b : ℕ) → Spends Any (on_store (stored s n b)) nothing
unfolding stored
spends-stored s n b =
    record {
      goes = goes-stored s n b;
      keeps = λ m c. search keeping;
    }

pub spends-judged : (valid : Bool) → Spends Any (looking (λ m. judged valid)) nothing
unfolding judged
spends-judged valid = record { goes = goes-judged valid; keeps = λ m c. search keeping }

pub spends-entered : (row : ℕ) → Spends Any (on_objects (entered row)) (room 0 0 0 1 0 0)
unfolding entered
spends-entered row =
    record {
      goes = goes-entered row;
      keeps = λ m c. search keeping;
    }

pub spends-named : (s : Span) → Spends Any (on_names (named s)) (room 0 0 0 0 0 1)
unfolding named
spends-named s =
    record {
      goes = goes-named s;
      keeps = λ m c. search keeping;
    }

pub spends-sealed-key : (i : ℕ) → Spends Any (looking (λ m. sealed_key i m.names)) nothing
unfolding sealed_key
spends-sealed-key i =
    record {
      goes = goes-sealed-key i;
      keeps = λ m c. search keeping;
    }

pub spends-starred : (s : Span) → Spends Any (looking (λ m. starred s m.store)) nothing
unfolding starred
spends-starred s =
    record {
      goes = goes-starred s;
      keeps = λ m c. search keeping;
    }

-- ---- bytes, words and numbers

abbrev pub None : {B : Type 0} → B → Room
None b = nothing

abbrev pub Both : {A B : Type 0} → A → B → Type 0
Both a b = Unit {0}

pub pays-byte : Pays {A = ℕ} {B = ℕ} None Any (λ a b. a ≡ b) nothing our.byte std.byte
unfolding our.byte std.byte
pays-byte = record { takes = takes-less byte-takes; pays = one }
  where
    one : (T : ℕ) (m₀ : Memory) (c₀ : Cursor) (k : ℕ) (m : Memory) (c : Cursor) (s : Tables) (p : ℕ) (bs : List ℕ) → Uses k nothing m₀ c₀ m c
        → k + length bs ≡ T → Small m c s → Paid {A = ℕ} {B = ℕ} None Any (λ a b. a ≡ b) T m₀ c₀ (our.byte m c bs) (std.byte s p bs)
    one T m₀ c₀ k m c s p [] u t x = tt
    one T m₀ c₀ k m c s p (b ∷ bs) u t x = λ fit i.
        let f : Fits 1 nothing m c = u 1 nothing (omega arith) in
        rw (lt-leb message_limit c.at (omega arith)) (
          refl,
          refl,
          λ l y g. (let z = u (1 + l) y (omega arith) in omega arith),
          small-kept {y = b} (omega arith) (stays refl refl refl refl) x,
        )

pub pays-word : (left n : ℕ) → Pays {A = ℕ} {B = ℕ} None Any (λ a b. a ≡ b) nothing (our.u29 left n) (std.word left n)
unfolding our.u29 std.word
pays-word zero n =
    pays-bind None _ _ pays-byte (λ b. omega arith) (λ b. gives-ret (omega arith, λ i. i)) (λ a b e. rw e (part b (part_of 0 n b) (step 0 n b)))
  where
    part : (b : ℕ) (x : Option Part) → Step 0 n b x
        → Pays {A = ℕ} {B = ℕ} None Any (λ a b. a ≡ b) nothing (our.on_part (λ n. by (λ m c. lost)) x) (ret (n * 2 ^ 8 + b))
    part b x (astray a) = pays-lost takes-ret
    part b x (fourth z g) = pays-ret (omega arith) refl
    part b x (last l h g i) = absurd (omega arith)
    part b x (more l h g i) = absurd (omega arith)
pays-word (suc left) n =
    pays-bind None _ _ pays-byte (λ b. omega arith) (λ b. gives_up (λ e. (omega arith, λ i. i)) (rest b))
    (λ a b e. rw e (part (λ k. pays-word left k) b (part_of (suc left) n b) (step (suc left) n b)))
  where
    rest : (b : ℕ) → Takes 0 (cond (ltb b (2 ^ 7)) (ret (n * 2 ^ 7 + b)) (std.word left (n * 2 ^ 7 + (b - 2 ^ 7))))
    rest b = takes-cond (ltb b (2 ^ 7)) takes-ret (takes-less (word-takes left (n * 2 ^ 7 + (b - 2 ^ 7))))

    part : ((k : ℕ) → Pays {A = ℕ} {B = ℕ} None Any (λ a b. a ≡ b) nothing (our.u29 left k) (std.word left k)) → (b : ℕ) (x : Option Part) → Step (suc left) n b x
        → Pays {A = ℕ} {B = ℕ} None Any (λ a b. a ≡ b) nothing (our.on_part (our.u29 left) x)
        (cond (ltb b (2 ^ 7)) (ret (n * 2 ^ 7 + b)) (std.word left (n * 2 ^ 7 + (b - 2 ^ 7))))
    part ih b x (astray a) = pays-lost (rest b)
    part ih b x (fourth z g) = absurd (omega arith)
    part ih b x (last l h g i) = rw (lt-ltb b (2 ^ 7) i) (pays-ret (omega arith) refl)
    part ih b x (more l h g i) = rw (le-ltb b (2 ^ 7) i) (ih (n * 2 ^ 7 + (b - 2 ^ 7)))

-- so many bytes
abbrev pub Long : {A : Type 0} → ℕ → A → List ℕ → Type 0
Long n a t = length t ≡ n

more_bytes : (b n : ℕ) → Gives (λ (e : List ℕ). Within nothing nothing × (Any e → Any b)) (std.bytes n >>= (λ bs. ret (b ∷ bs)))
more_bytes b n = gives_up (λ e. (omega arith, λ i. i)) (takes-bind (bytes-takes n) (λ bs. takes-ret))

pub pays-number : (left n : ℕ) → Pays None Any (Long (suc left)) nothing (our.number left n) (std.bytes (suc left))
unfolding our.number std.bytes digit_of
pays-number zero n =
    pays-bind None _ _ pays-byte (λ b. omega arith) (λ b. more_bytes b zero)
    (λ a b e. part b (leb (2 ^ (8 * (7 - 0))) n) (n * 2 ^ 8 + a))
  where
    part : (b : ℕ) (t : Bool) (k : ℕ) → Pays None Any (Long 1) nothing (our.on_part (λ n. by (λ m c. lost)) (cond t option.None (Some (Whole k)))) (ret (b ∷ []))
    part b true k = pays-lost takes-ret
    part b false k = pays-ret (omega arith) refl
pays-number (suc left) n =
    pays-bind None _ _ pays-byte (λ b. omega arith) (λ b. more_bytes b (suc left))
    (λ a b e. rw (eqb-suc-zero left) (part b (ltb 7 (suc left)) (leb (2 ^ (8 * (7 - suc left))) n) (n * 2 ^ 8 + a) (pays-number left (n * 2 ^ 8 + a))))
  where
    part : (b : ℕ) (t u : Bool) (k : ℕ) → Pays None Any (Long (suc left)) nothing (our.number left k) (std.bytes (suc left))
        → Pays None Any (Long (suc (suc left))) nothing (our.on_part (our.number left) (cond t option.None (cond u option.None (Some (More k))))) (std.bytes (suc left) >>= (λ bs. ret (b ∷ bs)))
    part b true u k h = pays-lost (takes-bind h.takes (λ bs. takes-ret))
    part b false true k h = pays-lost (takes-bind h.takes (λ bs. takes-ret))
    part b false false k h = pays-made (λ bs. b ∷ bs) _ (calm_ret (λ bs. b ∷ bs)) h (λ bs. (omega arith, λ i. i)) (λ a bs e. rw e)

pub pays-chars : (s : Span) (n t : ℕ) → Pays None Any (Long (suc n)) nothing (our.chars s n t) (std.bytes (suc n))
unfolding our.chars std.bytes
pays-chars s zero t =
    pays-bind None _ _ pays-byte (λ b. omega arith) (λ b. more_bytes b zero)
    (λ a b e. pays-free _ takes-ret (spends-stored s zero a) (λ x q. pays-ret (omega arith) refl))
pays-chars s (suc n) t =
    pays-bind None _ _ pays-byte (λ b. omega arith) (λ b. more_bytes b (suc n))
    (λ a b e. pays-free _ (more_bytes b (suc n)).takes (spends-stored s (suc n) a)
    (λ x q. pays-made (λ bs. b ∷ bs) _ (calm_ret (λ bs. b ∷ bs)) (pays-chars s n (step_of t a)) (λ bs. (omega arith, λ i. i)) (λ a bs e. rw e)))

-- nothing is done, or a decision that takes nothing
pub data Idle : Reader Unit → Type 0 where
  rests : Idle (ret tt)
  spends : {d : Decision Unit} → Spends Any d nothing → Idle (by d)

pub idle_then : {C D : Type 0} {N : D → Room} {F : D → Type 0} {P : C → D → Type 0} {spent : Room} {g : Std D} (r : Reader Unit) (f : Reader C) → Idle r
    → Pays N F P spent f g → Pays N F P spent (r >>= (λ x. f)) g
idle_then r f rests h = h
idle_then r f (spends d) h = pays-free (λ x. f) h.takes d (λ a q. h)

module _ (grow : ℕ → Reader Unit) (idle : (n : ℕ) → Idle (grow n)) where
  pub pays-fill : (s : Span) (n : ℕ) → Pays None Any (Long (suc n)) nothing (our.fill grow s n) (std.bytes (suc n))
  unfolding our.fill std.bytes
  pays-fill s zero =
      pays-bind None _ _ pays-byte (λ b. omega arith) (λ b. more_bytes b zero)
      (λ a b e. pays-free _ takes-ret (spends-stored s zero a) (λ x q. pays-end (grow zero) (idle_then (grow zero) (ret tt) (idle zero) (pays-ret (omega arith) refl))))
  pays-fill s (suc n) =
      pays-bind None _ _ pays-byte (λ b. omega arith) (λ b. more_bytes b (suc n))
      (λ a b e. pays-flat (by (on_store (stored s (suc n) a))) (λ x. grow (suc n)) (λ x. our.fill grow s n) (pays-free _ (more_bytes b (suc n)).takes (spends-stored s (suc n) a)
      (λ x q. idle_then (grow (suc n)) (our.fill grow s n) (idle (suc n)) (pays-made (λ bs. b ∷ bs) _ (calm_ret (λ bs. b ∷ bs)) (pays-fill s n) (λ bs. (omega arith, λ i. i)) (λ a bs e. rw e)))))

  pub pays-filled : (s : Span) (n : ℕ) → Pays None Any (Long n) nothing (our.filled grow s n) (std.bytes n)
  unfolding our.filled std.bytes
  pays-filled s zero = pays-ret (omega arith) refl
  pays-filled s (suc n) = pays-fill s n

pub pays-chars-of : (s : Span) (n : ℕ) → Pays None Any (Long n) nothing (our.chars_of s n) (std.bytes n)
unfolding our.chars_of std.bytes
pays-chars-of s zero = pays-ret (omega arith) refl
pays-chars-of s (suc n) = pays-chars s n 0

-- ---- texts

pub bytes-long : (n : ℕ) → Gives (λ t. length t ≡ n) (std.bytes n)
unfolding std.bytes
bytes-long zero = gives-ret refl
bytes-long (suc n) = gives-bind (takes-less byte-takes) (λ b. gives_then (bytes-long n) (λ bs e. gives-ret (rw e)))

-- what the standard makes of bytes that should be text
abbrev pub judged_text : List ℕ → Std (List ℕ)
judged_text t = cond (valid_text t) (ret t) (fail refusals.bad_text 0)

pub judged-gives : (t : List ℕ) → Gives (λ e. e ≡ t) (judged_text t)
judged-gives t = by-test (valid_text t)
  where
    by-test : (v : Bool) → Gives (λ e. e ≡ t) (cond v (ret t) (fail refusals.bad_text 0))
    by-test true = gives-ret refl
    by-test false = gives-fail takes-fail (λ s p bs. tt)

entered-gives : (t : List ℕ) → Gives (λ e. e ≡ t) (std.kept_text t)
unfolding std.kept_text
entered-gives [] = gives-ret refl
entered-gives (b ∷ t) = gives-fail takes-change (λ s p bs. refl)

pub chars-long : (n : ℕ) → Gives (λ t. length t ≡ n) (std.chars n)
unfolding std.chars
chars-long n = gives_then (bytes-long n) (λ t e. gives-fail (judged-gives t).takes (λ s p bs. long t e (valid_text t) s p bs))
  where
    long : (t : List ℕ) → length t ≡ n → (v : Bool) (s : Tables) (p : ℕ) (bs : List ℕ) → All (λ u. length u ≡ n) (cond v (ret t) (fail refusals.bad_text 0) s p bs)
    long t e true s p bs = e
    long t e false s p bs = tt

ended-text : (t : List ℕ) → Gives (λ e. e ≡ t) (judged_text t >>= std.kept_text)
ended-text t = gives_then (judged-gives t) (λ u q. rw q (entered-gives t))

pub gives-weak : {B : Type 0} {R Q : B → Type 0} {g : Std B} → Gives R g → ((b : B) → R b → Q b) → Gives Q g
gives-weak {B = B} {R = R} {Q = Q} {g = g} h f = record { takes = h.takes; gives = λ s p bs. weak (g s p bs) (h.gives s p bs) }
  where
    weak : (r : ResultOf Tables ℕ B) → All R r → All Q r
    weak (ok b s p bs) q = f b q
    weak (bad number told place s) q = tt

pub pays-never : {A B : Type 0} {N : B → Room} {F : B → Type 0} {P : A → B → Type 0} {spent : Room} {f : Reader A} {number told : ℕ}
    → Pays N F P spent f (fail number told)
pays-never = record { takes = takes-fail; pays = λ T m₀ c₀ k m c s p bs u t x. tt }

-- a span and a text of one size
abbrev pub Sized : Span → List ℕ → Type 0
Sized x t = x.size ≡ length t

module _ (m : Memory) (c : Cursor) (s : Tables) (x : Small m c s) where
  small-text : (b z : ℕ) (t : List ℕ) → c.strings * span_width + span_width ≤ length m.strings → z ≡ length t
      → Small (memory m.rows m.store (sets m.strings (c.strings * span_width) (b ∷ z ∷ [])) m.objects m.traits m.names)
      (strings_to c (c.strings + 1)) (with_text t s)
  small-text b z t h e =
      record {
        inside = (let i = x.inside in omega (arith, length-sets m.strings (c.strings * span_width) (b ∷ z ∷ [])));
        texts = rw (x.texts, length-append) (omega arith);
        sizes = λ i l. at-end [] t s.texts c.strings i (λ i u. get_or (sets m.strings (c.strings * span_width) (b ∷ z ∷ [])) (i * span_width + 1) 0 ≡ length u) x.texts
            (λ o. kept_sets (c.strings * span_width) (c.strings * span_width) (b ∷ z ∷ []) m.strings (omega arith) (i * span_width + 1) (omega arith) ∙ x.sizes i o)
            (sets-at (b ∷ z ∷ []) m.strings (c.strings * span_width) 1 (omega arith) h ∙ e) l;
        kinds = x.kinds;
        marks = x.marks;
        counts = x.counts;
      }

  pub small_trait : (v : Trait) (k : Traits) → c.traits * trait_width + trait_width ≤ length m.traits → v.dynamic ≡ k.dynamic → v.count ≡ length k.names
      → Small (memory m.rows m.store m.strings m.objects (sets m.traits (c.traits * trait_width) (numbers v)) m.names)
      (traits_to c (c.traits + 1)) (std.with_traits k s)
  small_trait v k h d e =
      record {
        inside = (let i = x.inside in omega (arith, length-sets m.traits (c.traits * trait_width) (numbers v)));
        texts = x.texts;
        sizes = x.sizes;
        kinds = rw (x.kinds, length-append) (omega arith);
        marks = λ i l. at-end no_traits k s.traits c.traits i (λ i u. get_or (sets m.traits (c.traits * trait_width) (numbers v)) (i * trait_width + 2) 0 ≡ u.dynamic) x.kinds
            (λ o. kept_sets (c.traits * trait_width) (c.traits * trait_width) (numbers v) m.traits (omega arith) (i * trait_width + 2) (omega arith) ∙ x.marks i o)
            (sets-at (numbers v) m.traits (c.traits * trait_width) 2 (omega arith) h ∙ d) l;
        counts = λ i l. at-end no_traits k s.traits c.traits i (λ i u. get_or (sets m.traits (c.traits * trait_width) (numbers v)) (i * trait_width + 4) 0 ≡ length u.names) x.kinds
            (λ o. kept_sets (c.traits * trait_width) (c.traits * trait_width) (numbers v) m.traits (omega arith) (i * trait_width + 4) (omega arith) ∙ x.counts i o)
            (sets-at (numbers v) m.traits (c.traits * trait_width) 4 (omega arith) h ∙ e) l;
      }

-- text i of the table
pub pays-old : (i : ℕ) → Pays of_text Any Sized nothing (by (looking (λ m. old_text i m.strings))) (lookup (λ s. s.texts) [] i)
unfolding old_text
pays-old i = record { takes = takes-lookup (λ s. s.texts) [] i; pays = λ T m₀ c₀ k m c s p bs u t x. old T m₀ c₀ k m c s p bs u t x (ltb i (length s.texts)) }
  where
    nice : (T : ℕ) (m₀ : Memory) (c₀ : Cursor) (k : ℕ) (m : Memory) (c : Cursor) (s : Tables) (bs : List ℕ) → Uses k nothing m₀ c₀ m c
        → k + length bs ≡ T → Small m c s → (a b d : Bool) → leb c.strings i ≡ b
        → Nice (λ z. Sized z (get_or s.texts i [])) (T - length bs) (of_text (get_or s.texts i [])) m₀ c₀ s bs
        (decided (lift (λ x. m) (cond a lost (cond b (refuse refusals.no_entry i c) (cond d (give (span_at m.strings i) (tt {0}) c) lost)))) m bs)
    nice T m₀ c₀ k m c s bs u t x true b d e = refl
    nice T m₀ c₀ k m c s bs u t x false true d e = refl
    nice T m₀ c₀ k m c s bs u t x false false true e = (x.sizes i (leb-false c.strings i e), refl, λ l y f. u l y (omega arith), x)
    nice T m₀ c₀ k m c s bs u t x false false false e = refl

    old : (T : ℕ) (m₀ : Memory) (c₀ : Cursor) (k : ℕ) (m : Memory) (c : Cursor) (s : Tables) (p : ℕ) (bs : List ℕ) → Uses k nothing m₀ c₀ m c
        → k + length bs ≡ T → Small m c s → (v : Bool)
        → Paid of_text Any Sized T m₀ c₀ (by (looking (λ m. old_text i m.strings)) m c bs) (cond v (ok (get_or s.texts i []) s p bs) (bad refusals.no_entry i p s))
    old T m₀ c₀ k m c s p bs u t x false = tt
    old T m₀ c₀ k m c s p bs u t x true = λ fit f. nice T m₀ c₀ k m c s bs u t x (ltb (length m.strings / span_width) c.strings) (leb c.strings i) (span_used c (span_at m.strings i)) refl

no_text : (v : Bool) → Pays of_text Any Sized nothing (ret no_span) (cond v (ret []) (fail refusals.bad_text 0) >>= std.kept_text)
unfolding std.kept_text
no_text true = pays-ret (omega arith) refl
no_text false = pays-never

-- the end of a text that enters the table
text-end : (n : ℕ) (x : Span) (valid : Bool) (t : List ℕ) (v : Bool) → x.size ≡ suc n → length t ≡ suc n
    → Pays of_text Any Sized (room 0 (suc n) 0 0 0 0) (by (on_strings (text_end x valid))) (cond v (ret t) (fail refusals.bad_text 0) >>= std.kept_text)
unfolding std.kept_text text_end of_text
text-end n x valid t false e q = pays-never
text-end n x valid [] true e q = absurd (omega arith)
text-end n x valid (b ∷ t) true e q =
    record {
      takes = takes-change;
      pays = λ T m₀ c₀ k m c s p bs u h z fit i.
          let o = eqb-suc-zero (length t) in
          let f : Fits 0 (room 0 0 1 0 0 0) m c = (let fit' = rw o at fit in u 0 (room 0 0 1 0 0 0) (omega arith)) in
          rw (le-ltb (length m.strings / span_width) c.strings (omega arith), lt-leb (length m.strings / span_width) c.strings (omega arith), o)
          (either T m₀ c₀ k m c s bs u h z f valid);
    }
  where
    either : (T : ℕ) (m₀ : Memory) (c₀ : Cursor) (k : ℕ) (m : Memory) (c : Cursor) (s : Tables) (bs : List ℕ) → Uses k (room 0 (suc n) 0 0 0 0) m₀ c₀ m c
        → k + length bs ≡ T → Small m c s → Fits 0 (room 0 0 1 0 0 0) m c → (w : Bool)
        → Nice (λ z. Sized z (b ∷ t)) (T - length bs) (room 0 (suc (length t)) 1 0 0 0) m₀ c₀ (with_text (b ∷ t) s) bs
        (decided (lift (λ T. memory m.rows m.store T m.objects m.traits m.names)
        (cond w (give x (sets m.strings (c.strings * span_width) (x.begin ∷ x.size ∷ [])) (strings_to c (c.strings + 1))) (refuse refusals.bad_text 0 c))) m bs)
    either T m₀ c₀ k m c s bs u h z f true = (
      e ∙ sym q,
      refl,
      λ l y g. (let j = u l (room 0 0 1 0 0 0 and y) (omega arith) in omega (arith, length-sets m.strings (c.strings * span_width) (x.begin ∷ x.size ∷ []))),
      small-text m c s z x.begin x.size (b ∷ t) (omega arith) (e ∙ sym q),
    )
    either T m₀ c₀ k m c s bs u h z f false = refl

module _ (at : Span → Reader Unit) (idle : (s : Span) → Idle (at s)) where
  new-text : (n : ℕ) → Pays of_text Any Sized nothing (our.text_of at (New n)) (std.text_of (New n))
  unfolding our.text_of std.text_of std.chars std.bytes
  new-text zero = no_text (valid_text [])
  new-text (suc n) =
      pays-flat_std (our.text_of at (New (suc n))) (std.bytes (suc n)) judged_text std.kept_text
      (pays-by (room 0 (suc n) 0 0 0 0) (room 0 (suc n) 0 0 0 0) _ (omega arith) (gives_then (bytes-long (suc n)) (λ t e. text-room t e)) (spends-reserved (suc n))
      (λ s q. pays-flat (at s) (λ x. our.chars s n 0) (λ valid. by (on_strings (text_end s valid))) (idle_then (at s) _ (idle s)
      (pays-told (λ t. length t ≡ suc n) (λ t. room 0 (suc n) 0 0 0 0) _ _ (bytes-long (suc n)) (pays-chars s n 0) (λ t e. omega arith)
      (λ t e. gives-weak (text-room t e) (λ z w. (w, λ i. i))) (λ valid t o e. text-end n s valid t (valid_text t) q e)))))
      (text-of-takes (New (suc n)))
    where
      text-holds : (t : List ℕ) → length t ≡ suc n → Within (room 0 (suc n) 0 0 0 0) (of_text t)
      text-holds t e = (unfold of_text in omega arith)

      text-room : (t : List ℕ) → length t ≡ suc n → Gives (λ z. Within (room 0 (suc n) 0 0 0 0) (of_text z)) (judged_text t >>= std.kept_text)
      text-room t e = gives-weak (ended-text t) (λ z q. rw q (text-holds t e))

  pub pays-text : Pays of_text Any Sized nothing (our.text at) std.text
  unfolding our.text std.text
  pays-text = pays-bind None _ _ (pays-word 3 0) (λ w. omega arith) (λ w. gives_up (λ e. (omega arith, λ i. i)) (text-of-takes (std.size_says w)))
      (λ a w e. rw (e, size_is w) (by_size (size_of w)))
    where
      by_size : (z : Size) → Pays of_text Any Sized nothing (our.text_of at z) (std.text_of z)
      by_size (Old i) = (unfold our.text_of std.text_of in pays-old i)
      by_size (New n) = new-text n
