-- A reader of the standard reads these bytes as this, whatever the tables, the place and what follows; the rule for two readers, and the leaves.
use mathlib.Core.Path.{◌≡◌, refl, ap, ◌∙◌}
use mathlib.Core.Bool.{Bool, true, false, cond}
use mathlib.Core.List.{List, [], ◌∷◌, ◌++◌, append_assoc, append-nil}
use Prim.Native.Nat.{ℕ, suc, ◌+◌, ◌*◌, ◌^◌, ◌/◌, ◌<◌}
use native.Mathlib.Omega.{arith}
use native.Mathlib.Nat.{mod-eq_of_lt}
use lib.Dec.{ltb, lit<}
use lib.ListN.{length, length-append}
use Rattle.wire.specs.U29.{more_of, groups, u29}
use Rattle.wire.specs.Sign.{bits_at}
use Rattle.wire.specs.Big.{number_of, bytes_of}
use Rattle.wire.specs.Date.{refused_date}
use Rattle.wire.proofs.Sign.{bits-of, bits_lt, integer-bits}
use Rattle.wire.proofs.Big.{number-bytes, bytes-length}
use Rattle.utf8.specs.Grammar.{follow, valid_text}
use Rattle.format.specs.Decide as k
use Rattle.format.specs.Decide.{Body, Width, width_of}
use Rattle.format.specs.Refusals as no
use Rattle.format.specs.Reading.{ok, bad, bind, ◌>>=◌, ret}
use Rattle.format.specs.Standard.{Plain, undefined, null, boolean, integer, double, string, xml_document, xml, byte_array, date}
use Rattle.format.specs.Standard.{int_vector, uint_vector, double_vector, Tree, plain, Tables, Std, fail, change, byte, bytes, word, chars}
use Rattle.format.specs.Standard.{kept_text, follows}
use Rattle.format.specs.Standard.{text_of, text}
use Rattle.format.specs.Standard.{opened, shut, vector_of, new_of, sized_of, marked, value, size_bytes, text_bytes, flag_byte, encode_plain}
use Rattle.format.proofs.Tests.{flag-back}
use Rattle.meaning.proofs.Words.{word-round, size-new}
use Rattle.format.specs.Writable.{IsText, IsRaw, WritablePlain}

pub record Reads {A : Type 0} (g : Std A) (bs : List ℕ) (a : A) : Type 0 where
  pub reads : (s : Tables) (p : ℕ) (rest : List ℕ) → (s' : Tables) × (g s p (bs ++ rest) ≡ ok a s' (p + length bs) rest)

-- ---- readers one after the other

pub reads-ret : {A : Type 0} {a : A} → Reads (ret a) [] a
reads-ret {a = a} = record { reads = λ s p rest. (s, ap (λ (q : ℕ). ok a s q rest) (omega arith)) }

pub reads-bind : {A B : Type 0} {g : Std A} {xs ys : List ℕ} {a : A} {b : B} (f : A → Std B)
    → Reads g xs a → Reads (f a) ys b → Reads (g >>= f) (xs ++ ys) b
reads-bind {g = g} {xs = xs} {ys = ys} {a = a} {b = b} f h l = record { reads = both }
  where
    both : (s : Tables) (p : ℕ) (rest : List ℕ) → (s' : Tables) × (bind (g s p ((xs ++ ys) ++ rest)) f ≡ ok b s' (p + length (xs ++ ys)) rest)
    both s p rest =
        let (s₁, e₁) = h.reads s p (ys ++ rest) in
        let (s₂, e₂) = l.reads s₁ (p + length xs) rest in
        (s₂, rw (append_assoc xs ys rest, e₁) (e₂ ∙ ap (λ (q : ℕ). ok b s₂ q rest) (omega (arith, length-append xs ys))))

-- a last reader that takes nothing
pub reads-last : {A B : Type 0} {g : Std A} {xs : List ℕ} {a : A} {b : B} (f : A → Std B)
    → Reads g xs a → Reads (f a) [] b → Reads (g >>= f) xs b
reads-last {xs = xs} f h l = rw (append-nil xs) at (reads-bind f h l)

pub reads-opened : {B : Type 0} {f : ℕ → Std B} {ys : List ℕ} {b : B} → ((i : ℕ) → Reads (f i) ys b) → Reads (opened >>= f) ys b
unfolding opened
reads-opened h = record { reads = λ s p rest. (h (length s.objects)).reads _ p rest }

pub reads-change : {A : Type 0} {a : A} {f : Tables → Tables} → Reads (change a f) [] a
reads-change {a = a} {f = f} = record { reads = λ s p rest. (f s, ap (λ (q : ℕ). ok a (f s) q rest) (omega arith)) }

-- ---- bytes, words and texts

pub reads_byte : (b : ℕ) → Reads byte (b ∷ []) b
unfolding byte
reads_byte b = record { reads = λ s p rest. (s, ap (λ (q : ℕ). ok b s q rest) (omega arith)) }

pub reads_bytes : (t : List ℕ) → Reads (bytes (length t)) t t
unfolding bytes
reads_bytes [] = reads-ret
reads_bytes (b ∷ t) = reads-bind _ (reads_byte b) (reads-last _ (reads_bytes t) reads-ret)

pub reads_word : (n : ℕ) → n < 2 ^ 29 → Reads (word 3 0) (u29 n) n
reads_word n h = record { reads = λ s p rest. (s, word-round n h s p rest) }

reads-chars : (t : List ℕ) → valid_text t ≡ true → Reads (chars (length t)) t t
unfolding chars
reads-chars t e = reads-last _ (reads_bytes t) (rw e reads-ret)

reads-entered : (t : List ℕ) → Reads (kept_text t) [] t
unfolding kept_text
reads-entered [] = reads-ret
reads-entered (b ∷ t) = reads-change

pub reads-text : (t : List ℕ) → IsText t → Reads text (text_bytes t) t
unfolding text text_of
reads-text t h =
    reads-bind _ (reads_word (length t * 2 + 1) (omega (arith, h.short)))
    (rw (size-new (length t)) (reads-last _ (reads-chars t h.valid) (reads-entered t)))

-- the empty text, in one byte
pub empty-text : IsText []
unfolding follow valid_text
empty-text = record { valid = refl; short = lit< tt }

pub reads-empty : Reads text (0x01 ∷ []) []
unfolding u29 more_of groups
reads-empty = reads-text [] empty-text

-- ---- values that hold no others

-- a value's marker
pub reads-marked : (f d : ℕ) {bs : List ℕ} {t : Tree} (b : ℕ) → ltb 0x11 b ≡ false → Reads (marked (value f d) f b (follows b)) bs t
    → Reads (value f (suc d)) (b ∷ bs) t
unfolding value
reads-marked f d b e h = reads-bind _ (reads_byte b) (rw e h)

module _ (v : Std Tree) (f b : ℕ) where
  -- a size word, and what follows it
  pub reads_sized : {bs : List ℕ} {t : Tree} (body : Body) (n : ℕ) → n < 2 ^ 28 → Reads (new_of v f b body n) bs t
      → Reads (marked v f b (k.sized body)) (size_bytes n ++ bs) t
  unfolding marked sized_of shut
  reads_sized body n l h =
      reads-bind _ (reads_word (n * 2 + 1) (omega arith)) (rw (size-new n) (reads-opened (λ i. reads-last _ h reads-change)))

  reads-raw : (w : Width) (fixed : Bool) (t : List ℕ) (h : IsRaw (width_of w) t)
      → Reads (new_of v f b (k.raw w) h.entries) (flag_byte fixed ∷ t) (plain (vector_of b fixed t))
  unfolding new_of
  reads-raw w fixed t h = reads-bind _ (reads_byte (flag_byte fixed)) (rw (← h.size, flag-back fixed) (reads-last _ (reads_bytes t) reads-ret))

reads-eight : (n : ℕ) → Reads (bytes 8) (bytes_of 8 n) (bytes_of 8 n)
reads-eight n = rw (bytes-length 8 n) at (reads_bytes (bytes_of 8 n))

number-eight : (n : ℕ) → n < 2 ^ 64 → number_of 0 (bytes_of 8 n) ≡ n
number-eight n h = number-bytes 8 n ∙ mod-eq_of_lt h

-- a date wherever it stands: eight bytes as one number, or 7 that tells it, at the last of them
module _ (v : Std Tree) (f b n b₀ b₁ b₂ b₃ b₄ b₅ b₆ b₇ : ℕ) where
  abbrev octets : List ℕ
  octets = b₀ ∷ b₁ ∷ b₂ ∷ b₃ ∷ b₄ ∷ b₅ ∷ b₆ ∷ b₇ ∷ []

  dated-by : (t : Bool) (s : Tables) (p q : ℕ) (rest : List ℕ) → p ≡ q → cond t (fail no.bad_date (number_of 0 octets)) (ret (plain (date (number_of 0 octets)))) s p rest
      ≡ cond t (bad no.bad_date (number_of 0 octets) q s) (ok (plain (date (number_of 0 octets))) s q rest)
  dated-by true s p q rest e = rw e
  dated-by false s p q rest e = rw e

  pub date-new : (s : Tables) (p : ℕ) (rest : List ℕ) → new_of v f b k.date n s p (octets ++ rest)
      ≡ cond (refused_date (number_of 0 octets)) (bad no.bad_date (number_of 0 octets) (p + 8) s) (ok (plain (date (number_of 0 octets))) s (p + 8) rest)
  unfolding new_of bytes byte
  date-new s p rest = dated-by (refused_date (number_of 0 octets)) s _ (p + 8) rest (omega arith)

pub reads_plain : (p : Plain) → WritablePlain p → (f d : ℕ) → Reads (value f (suc d)) (encode_plain p) (plain p)
unfolding encode_plain follows marked new_of u29 more_of groups
reads_plain undefined h f d = reads-marked f d 0x00 refl reads-ret
reads_plain null h f d = reads-marked f d 0x01 refl reads-ret
reads_plain (boolean false) h f d = reads-marked f d 0x02 refl reads-ret
reads_plain (boolean true) h f d = reads-marked f d 0x03 refl reads-ret
reads_plain (integer v) h f d =
    reads-marked f d 0x04 refl
    (reads-last _ (reads_word (bits_at 28 v) (bits_lt 28 v h)) (rw (integer-bits v (bits_at 28 v) (bits-of v h)) reads-ret))
reads_plain (double bits) h f d = reads-marked f d 0x05 refl (reads-last _ (reads-eight bits) (rw (number-eight bits h) reads-ret))
reads_plain (string t) h f d = reads-marked f d 0x06 refl (reads-last _ (reads-text t h) reads-ret)
reads_plain (xml_document t) h f d =
    reads-marked f d 0x07 refl (reads_sized (value f d) f 0x07 k.xml (length t) h.short (reads-last _ (reads-chars t h.valid) reads-ret))
reads_plain (date bits) h f d =
    reads-marked f d 0x08 refl
    (reads_sized (value f d) f 0x08 k.date 0 (lit< tt) (reads-last _ (reads-eight bits) (rw (number-eight bits h.0, h.1) reads-ret)))
reads_plain (xml t) h f d =
    reads-marked f d 0x0B refl (reads_sized (value f d) f 0x0B k.xml (length t) h.short (reads-last _ (reads-chars t h.valid) reads-ret))
reads_plain (byte_array t) h f d =
    reads-marked f d 0x0C refl (reads_sized (value f d) f 0x0C k.bytes (length t) h (reads-last _ (reads_bytes t) reads-ret))
reads_plain (int_vector fixed t) h f d =
    let e : length t / 4 ≡ h.entries = omega (arith, h.size) in
    reads-marked f d 0x0D refl
    (rw e (reads_sized (value f d) f 0x0D (k.raw k.four) h.entries h.short (reads-raw (value f d) f 0x0D k.four fixed t h)))
reads_plain (uint_vector fixed t) h f d =
    let e : length t / 4 ≡ h.entries = omega (arith, h.size) in
    reads-marked f d 0x0E refl
    (rw e (reads_sized (value f d) f 0x0E (k.raw k.four) h.entries h.short (reads-raw (value f d) f 0x0E k.four fixed t h)))
reads_plain (double_vector fixed t) h f d =
    let e : length t / 8 ≡ h.entries = omega (arith, h.size) in
    reads-marked f d 0x0F refl
    (rw e (reads_sized (value f d) f 0x0F (k.raw k.eight) h.entries h.short (reads-raw (value f d) f 0x0F k.eight fixed t h)))
