-- Keys and names, by how much is to come: nothing, and what follows is decided; or more, and it waits.
use Rattle.std.proofs.Common.{◌≡◌, List, ◌∷◌, ℕ, zero, suc, ◌-◌, refl, sym, ap, ◌∙◌, arith}
use Rattle.rows.specs.declared.Cursor.{Cursor}
use Rattle.rows.specs.declared.Span.{Span}
use Rattle.rows.specs.declared.Trait.{Trait}
use Rattle.rows.specs.Memory.{Memory, key_of}
use Rattle.format.specs.declared.Frame.{Frame}
use Rattle.format.specs.Decide.{on_rows, on_traits, closed, trait_end}
use Rattle.format.specs.Step.{task_of, frame_of, frame, Pairing, assoc, dynamics, pairs_of, wait, on, onward, ends, at_marker, at_string, for_name}
use Rattle.format.specs.Step.{keyed, members, naming}

module _ (ts : List Frame) (c : Cursor) (m : Memory) where
  -- one more pair
  pub one-key : (g : Pairing) (s : Span) (k : ℕ) → (k ≡ 0 → ⊥) → keyed ts g s k c m ≡ wait (at_marker (key_of s)) (frame_of (pairs_of g) ∷ ts) c m
  unfolding keyed
  one-key g s zero z = absurd (z refl)
  one-key (assoc row n done) s (suc k) z = refl
  one-key (dynamics row done) s (suc k) z = refl

  -- an empty key ends the pairs, which have this frame
  pub no-dynamic : (g : Pairing) (f : Frame) (s : Span) (k : ℕ) → f ≡ frame_of (pairs_of g) → f.task ≡ 2 → k ≡ 0
      → keyed ts g s k c m ≡ ends ts (on_rows (closed f.row)) c m
  unfolding keyed frame_of
  no-dynamic (assoc row n done) f s k e t z = absurd (let a : 1 ≡ 2 = sym (ap (λ (f : Frame). f.task) e) ∙ t in omega arith)
  no-dynamic (dynamics row done) f s k e t z = rw (z, e)

  pub no-pair : (g : Pairing) (f : Frame) (s : Span) (k : ℕ) → f ≡ frame_of (pairs_of g) → (f.task ≡ 2 → ⊥) → k ≡ 0
      → keyed ts g s k c m ≡ onward ts (task_of (frame 3 f.row f.left 0 f.first f.dynamic)) c m
  unfolding keyed frame_of task_of
  no-pair (assoc row n done) f s k e t z = rw (z, e)
  no-pair (dynamics row done) f s k e t z = absurd (t (ap (λ (f : Frame). f.task) e))

  -- names of a trait
  pub no_names : (row : ℕ) (t : Trait) (n : ℕ) → n ≡ 0 → naming ts row t n c m ≡ on (on_traits (trait_end t) m c) m (λ y. members ts row t)
  unfolding naming
  no_names row t n z = rw z

  pub more-names : (row : ℕ) (t : Trait) (n : ℕ) → (n ≡ 0 → ⊥) → naming ts row t n c m ≡ wait (at_string (for_name row t (n - 1))) ts c m
  unfolding naming
  more-names row t zero z = absurd (z refl)
  more-names row t (suc n) z = let d : suc n - 1 ≡ n = omega arith in rw d
