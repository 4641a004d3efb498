-- Loans that have the lengths that they had.
use mathlib.Core.Path.{◌≡◌, refl, ap}
use lib.ListN.{length}
use Rattle.rows.specs.Memory.{Memory}
use Rattle.rows.specs.declared.lent.Lent.{Lent}
use Rattle.format.specs.Numbers.{lent_of}

pub record SameLengths (m m₀ : Memory) : Type 0 where
  pub rows : length m.rows ≡ length m₀.rows
  pub store : length m.store ≡ length m₀.store
  pub strings : length m.strings ≡ length m₀.strings
  pub objects : length m.objects ≡ length m₀.objects
  pub traits : length m.traits ≡ length m₀.traits
  pub names : length m.names ≡ length m₀.names

pub same-lengths : {m : Memory} → SameLengths m m
same-lengths = record { rows = refl; store = refl; strings = refl; objects = refl; traits = refl; names = refl }

pub lent_same : (m m₀ : Memory) → SameLengths m m₀ → lent_of m ≡ lent_of m₀
unfolding lent_of
lent_same m m₀ k = rw (k.rows, k.store, k.strings, k.objects, k.traits, k.names)

pub same-lent : (m m₀ : Memory) → lent_of m ≡ lent_of m₀ → SameLengths m m₀
unfolding lent_of
same-lent m m₀ e =
    record {
      rows = ap (λ (l : Lent). l.rows) e;
      store = ap (λ (l : Lent). l.store) e;
      strings = ap (λ (l : Lent). l.strings) e;
      objects = ap (λ (l : Lent). l.objects) e;
      traits = ap (λ (l : Lent). l.traits) e;
      names = ap (λ (l : Lent). l.names) e;
    }
