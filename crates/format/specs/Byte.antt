-- What a byte decides: with what it may be refused, and the answer that it made.
use Rattle.std.specs.Prelude.{◌≡◌, ◌&&◌, ◌≢◌, ℕ, ◌<◌, suc, T, leb}
use Rattle.rows.specs.Memory.{loan_rows, loan_names, message_limit}
use Rattle.format.specs.declared.Answer.{Answer}
use Rattle.format.specs.declared.Answer.TheVariants.{Finished, Refused}
use Rattle.format.specs.Refusals as no

-- what byte b, the last of p bytes, may be refused with: number, told value and place
pub data RefusedBy (b p : ℕ) : ℕ → ℕ → ℕ → Type 0 where
  -- no marker
  unknown : {place : ℕ} → 0x11 < b → place ≡ p → RefusedBy b p no.bad_marker b place
  -- a reference to what isn't there; to what isn't finished
  absent : {i place : ℕ} → place ≡ p → RefusedBy b p no.no_entry i place
  unfinished : {i place : ℕ} → place ≡ p → RefusedBy b p no.open_object i place
  -- an externalizable object; a date of these bits; a text
  external : {place : ℕ} → place ≡ p → RefusedBy b p no.externalizable 0 place
  undated : {bits place : ℕ} → place ≡ p → RefusedBy b p no.bad_date bits place
  invalid : {place : ℕ} → place ≡ p → RefusedBy b p no.bad_text 0 place
  -- too many are open
  deep : {place : ℕ} → place ≡ p → RefusedBy b p no.too_deep 0 place
  -- loan 1 to 6 is full
  full : {loan place : ℕ} → T (leb loan_rows loan && leb loan loan_names) → place ≡ p → RefusedBy b p no.no_room loan place
  -- the state doesn't hold together
  astrays : RefusedBy b p no.lost 0 0

-- an answer that byte b decided, the last of p bytes that are taken
pub data Decided-by (b p : ℕ) : Answer → Type 0 where
  ends : {rows bytes k : ℕ} → Decided-by b p (Finished rows bytes k)
  refuses : {n told place k : ℕ} → n ≢ no.lost → RefusedBy b p n told place → Decided-by b p (Refused n told place k)
  -- it isn't taken
  past : {place k : ℕ} → place ≡ message_limit → suc place ≡ p → Decided-by b p (Refused no.too_long 0 place k)
