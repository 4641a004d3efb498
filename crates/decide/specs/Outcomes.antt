-- What a decision's function answers, as the definition has it: an outcome, and the loan that it wrote.
use Rattle.std.specs.Prelude.{Result, Ok, Err, cond, not, List, ℕ, leb, ltb, eqb, length, get_or}
use Rattle.wire.specs.Put.{With1, with1}
use Rattle.rows.specs.declared.Cursor.{Cursor}
use Rattle.rows.specs.Memory.{col, put, row_used, col_kind, col_number, col_end}
use Rattle.rows.specs.Kinds.{kind_reference}
use Rattle.format.specs.Decide.{Out, stop, give}
use Rattle.format.specs.Decide as d
use Rattle.format.specs.declared.Refusal.{Refusal}
use Rattle.format.specs.Refusals as no
use Rattle.decide.specs.declared.Width.{Width}
use Rattle.decide.specs.declared.Width.TheVariants as width
use Rattle.decide.specs.declared.Kind.{Kind}
use Rattle.decide.specs.declared.Kind.TheVariants as kind
use Rattle.decide.specs.declared.Body.{Body}
use Rattle.decide.specs.declared.Body.TheVariants as body

-- the loan after a decision: a refusal leaves it as it was
abbrev pub leaving : {A : Type 0} → List ℕ → Out (List ℕ) A → With1 (Out Unit A)
leaving R (stop n told place) = with1 (stop n told place) R
leaving R (give a R' c) = with1 (give a tt c) R'

abbrev pub stopped : {A : Type 0} → Refusal → Out Unit A
stopped r = stop r.number r.told r.place

-- what a decision that only looks gives, or a refusal; the cursor stays
abbrev pub answer_in : {A : Type 0} → Result A Refusal → Cursor → Out Unit A
answer_in (Ok a) c = give a tt c
answer_in (Err r) c = stopped r

-- the cursor after a decision, or a refusal
abbrev pub done_of : Result Cursor Refusal → Out Unit Unit
done_of (Ok c) = give tt tt c
done_of (Err r) = stopped r

-- what it gives, with the cursor after it, or a refusal
abbrev pub out_of : {A : Type 0} → Result (A × Cursor) Refusal → Out Unit A
out_of (Ok (a, c)) = give a tt c
out_of (Err r) = stopped r

-- the bytes of a raw vector's entry, as the definition has them
abbrev pub width_in : Width → d.Width
width_in width.Four = d.four
width_in width.Eight = d.eight

-- what a size word is of
abbrev pub body_in : Body → d.Body
body_in body.Xml = d.xml
body_in body.Date = d.date
body_in body.Array = d.array
body_in body.Bytes = d.bytes
body_in body.Objects = d.objects
body_in body.Dictionary = d.dictionary
body_in body.RawFour = d.raw d.four
body_in body.RawEight = d.raw d.eight

-- what the size word after a marker is of: where it is of none, XML
abbrev pub body_after : d.Kind → d.Body
body_after d.leaf = d.xml
body_after d.integer = d.xml
body_after d.double = d.xml
body_after d.string = d.xml
body_after d.object = d.xml
body_after (d.sized x) = x

abbrev pub body_no : ℕ → d.Body
body_no b = body_after (d.kind_of b)

-- what follows a marker
abbrev pub kind_in : Kind → d.Kind
kind_in kind.Leaf = d.leaf
kind_in kind.Integer = d.integer
kind_in kind.Double = d.double
kind_in kind.String = d.string
kind_in kind.Object = d.object
kind_in (kind.Sized x) = d.sized (body_in x)

-- ---- references

-- object i of the objects, which is used
unfoldable pub old_object : ℕ → List ℕ → Cursor → Out Unit ℕ
old_object i O c = cond (ltb (length O) c.objects) d.lost (cond (leb c.objects i) (d.refuse no.no_entry i c) (give (get_or O i 0) tt c))

-- a row becomes a reference to object i, whose row is given
unfoldable pub referred_to : ℕ → ℕ → ℕ → List ℕ → Cursor → Out (List ℕ) Unit
referred_to row i object R c =
    cond (not (row_used R c object)) d.lost
    (cond (ltb c.rows (col R object col_end)) d.lost
    (cond (eqb (col R object col_end) 0) (d.refuse no.open_object i c)
    (d.in_row row (λ R. put (put (put R row col_kind kind_reference) row col_number object) row col_end c.rows) R c)))
