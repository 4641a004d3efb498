-- What a call is lent: the six loans of a reading as a struct of references, and rows with their store.
use Rattle.std.specs.Prelude.{◌≡◌, Option, Some, None, List, [], ◌∷◌, ℕ, cond, eqb, length}
use Rattle.rows.specs.declared.lent.Lent.{Lent}
use Rattle.rows.specs.declared.lent.Loans.{Loans}
use Rattle.rows.specs.Memory.{Memory, memory, loan_fault}

-- the lengths of the loans
unfoldable pub lent_of : Memory → Lent
lent_of m =
    record {
      rows = length m.rows;
      store = length m.store;
      strings = length m.strings;
      objects = length m.objects;
      traits = length m.traits;
      names = length m.names;
    }

-- the six loans of a call, as lists of numbers
abbrev pub memory_of : Loans → Memory
memory_of l = memory l.rows.now l.store.now l.strings.now l.objects.now l.traits.now l.names.now

-- whose they are
abbrev pub owners : Loans → List ℕ
owners l = l.rows.ghost_name ∷ l.store.ghost_name ∷ l.strings.ghost_name ∷ l.objects.ghost_name ∷ l.traits.ghost_name ∷ l.names.ghost_name ∷ []

-- loans that are still the same ones, as long as before
abbrev pub SameLoans : Loans → Loans → Type 0
SameLoans l l' = (owners l' ≡ owners l) × (lent_of (memory_of l') ≡ lent_of (memory_of l))

-- the loan that refusal 1 names, where it names one
abbrev pub named_loan : ℕ → Option ℕ
named_loan n = cond (eqb n 0) None (Some n)

-- the lowest faulty loan of those with these lengths
abbrev pub fault_in : Lent → Option ℕ
fault_in l = named_loan (loan_fault l.rows l.store l.strings l.objects l.traits l.names)
