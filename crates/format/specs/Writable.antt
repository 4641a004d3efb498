-- The trees that can be written: what refusal 14 asks of texts and numbers, and sizes and counts that a U29 can say.
use Rattle.std.specs.Prelude.{◌≡◌, true, false, List, [], ◌∷◌, ℕ, ◌*◌, ◌^◌, ◌<◌, length}
use Rattle.std.proofs.Math.Option.{Option, none, some}
use Rattle.std.specs.Int.Signed.{mag}
use Rattle.wire.specs.Date.{refused_date}
use Rattle.utf8.specs.Grammar.{valid_text}
use Rattle.format.specs.Standard.{Plain, undefined, null, boolean, integer, double, string, xml_document, xml, byte_array, date, int_vector, uint_vector}
use Rattle.format.specs.Standard.{double_vector, Tree, plain, array, object, object_vector, dictionary, Trees, nil, cons, Pairs, no_pairs, pair}
use Rattle.format.specs.Standard.{Entries, no_entries, entry, count, count_pairs, count_entries}

-- a text, valid and not too long
pub record IsText (t : List ℕ) : Type 0 where
  pub valid : valid_text t ≡ true
  pub short : length t < 2 ^ 28

-- a key that doesn't end its pairs
pub record IsKey (t : List ℕ) : Type 0 where
  pub text : IsText t
  pub filled : 0 < length t

-- a vector's class that doesn't say that there is none
pub record IsType (t : List ℕ) : Type 0 where
  pub text : IsText t
  pub unstarred : t ≡ 0x2A ∷ [] → ⊥

abbrev pub IfGiven : (List ℕ → Type 0) → Option (List ℕ) → Type 0
IfGiven P none = Unit {0}
IfGiven P (some t) = P t

-- whole entries of w bytes
pub record IsRaw (w : ℕ) (t : List ℕ) : Type 0 where
  pub entries : ℕ
  pub size : length t ≡ entries * w
  pub short : entries < 2 ^ 28

abbrev pub WritablePlain : Plain → Type 0
WritablePlain undefined = Unit {0}
WritablePlain null = Unit {0}
WritablePlain (boolean b) = Unit {0}
WritablePlain (integer v) = mag v < 2 ^ 28
WritablePlain (double bits) = bits < 2 ^ 64
WritablePlain (string t) = IsText t
WritablePlain (xml_document t) = IsText t
WritablePlain (xml t) = IsText t
WritablePlain (byte_array t) = length t < 2 ^ 28
WritablePlain (date bits) = (bits < 2 ^ 64) × (refused_date bits ≡ false)
WritablePlain (int_vector fixed t) = IsRaw 4 t
WritablePlain (uint_vector fixed t) = IsRaw 4 t
WritablePlain (double_vector fixed t) = IsRaw 8 t

abbrev mutual
  pub Writable : Tree → Type 0
  Writable (plain p) = WritablePlain p
  Writable (array xs ts) = WritablePairs xs × WritableTrees ts × (count ts < 2 ^ 28)
  Writable (object class xs ys) = IfGiven IsKey class × WritableMembers xs × WritablePairs ys × (count_pairs xs < 2 ^ 25)
  Writable (object_vector fixed class ts) = IfGiven IsType class × WritableTrees ts × (count ts < 2 ^ 28)
  Writable (dictionary weak es) = WritableEntries es × (count_entries es < 2 ^ 28)

  pub WritableTrees : Trees → Type 0
  WritableTrees nil = Unit {0}
  WritableTrees (cons t ts) = Writable t × WritableTrees ts

  -- associative and dynamic ones
  pub WritablePairs : Pairs → Type 0
  WritablePairs no_pairs = Unit {0}
  WritablePairs (pair x t ps) = IsKey x × Writable t × WritablePairs ps

  -- sealed ones
  pub WritableMembers : Pairs → Type 0
  WritableMembers no_pairs = Unit {0}
  WritableMembers (pair x t ps) = IsText x × Writable t × WritableMembers ps

  pub WritableEntries : Entries → Type 0
  WritableEntries no_entries = Unit {0}
  WritableEntries (entry a b es) = Writable a × Writable b × WritableEntries es
