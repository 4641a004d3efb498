-- Readers: bytes in, a result out. What they hold and how they count places is theirs.
use Rattle.std.specs.Prelude.{List, ℕ}

-- a result with what is held then, the place and the bytes left; or a refusal: its number, told value and place, and what is held then
pub data ResultOf (S P A : Type 0) : Type 0 where
  ok : A → S → P → List ℕ → ResultOf S P A
  bad : ℕ → ℕ → ℕ → S → ResultOf S P A

abbrev pub ReaderOf : Type 0 → Type 0 → Type 0 → Type 0
ReaderOf S P A = S → P → List ℕ → ResultOf S P A

abbrev pub bind : {S P A B : Type 0} → ResultOf S P A → (A → ReaderOf S P B) → ResultOf S P B
bind (ok a s p bs) f = f a s p bs
bind (bad n t p s) f = bad n t p s

infixl 1 ◌>>=◌
abbrev pub ◌>>=◌ : {S P A B : Type 0} → ReaderOf S P A → (A → ReaderOf S P B) → ReaderOf S P B
◌>>=◌ f g = λ s p bs. bind (f s p bs) g

infixl 1 ◌>>◌
abbrev pub ◌>>◌ : {S P A B : Type 0} → ReaderOf S P A → ReaderOf S P B → ReaderOf S P B
f >> g = f >>= (λ x. g)

abbrev pub ret : {S P A : Type 0} → A → ReaderOf S P A
ret a s p bs = ok a s p bs
