-- Writing: the rows are tested, then the tree of row 0 is written unfolded into an output.
use Rattle.std.specs.Prelude.{Bool, true, false, cond, List, [], ◌∷◌, ◌++◌, ℕ, zero, suc, leb, length, drop}
use Rattle.rows.specs.Memory.{open_limit, rows_fault}
use Rattle.format.specs.Refusals as no
use Rattle.rows.specs.Memory.{loan_output}
use Rattle.format.specs.Standard.{Tree, plain, array, object, object_vector, dictionary, Trees, nil, cons, Pairs, no_pairs, pair, Entries, no_entries}
use Rattle.format.specs.Standard.{entry, text_bytes, encode_plain, array_head, object_head, vector_head, dictionary_head}
use Rattle.format.specs.Unfold.{unfolded}
use Rattle.format.specs.RowTest.{Tested, fine, faulty, tested}

-- ---- bytes as they come

-- they end, or stop at a value that nests too deep
pub data Stream : Type 0 where
  done deep : Stream
  byte : ℕ → Stream → Stream

infixr 20 ◌then◌
unfoldable pub ◌then◌ : Stream → Stream → Stream
done then y = y
deep then y = deep
byte b x then y = byte b (x then y)

unfoldable pub these : List ℕ → Stream
these [] = done
these (b ∷ bs) = byte b (these bs)

unfoldable pub stream_bytes : Stream → List ℕ
stream_bytes done = []
stream_bytes deep = []
stream_bytes (byte b x) = b ∷ stream_bytes x

unfoldable pub is_deep : Stream → Bool
is_deep done = false
is_deep deep = true
is_deep (byte b x) = is_deep x

-- ---- a tree's bytes, where so many values may still open

unfoldable pub emit_trees : (Tree → Stream) → Trees → Stream
emit_trees f nil = done
emit_trees f (cons t ts) = f t then emit_trees f ts

unfoldable pub emit_pairs : (Tree → Stream) → Pairs → Stream
emit_pairs f no_pairs = done
emit_pairs f (pair x t ps) = these (text_bytes x) then f t then emit_pairs f ps

unfoldable pub emit_values : (Tree → Stream) → Pairs → Stream
emit_values f no_pairs = done
emit_values f (pair x t ps) = f t then emit_values f ps

unfoldable pub emit_dynamic : (Tree → Stream) → Pairs → Stream
emit_dynamic f no_pairs = done
emit_dynamic f (pair x t ps) = emit_pairs f (pair x t ps) then these (0x01 ∷ [])

unfoldable pub emit_entries : (Tree → Stream) → Entries → Stream
emit_entries f no_entries = done
emit_entries f (entry a b es) = f a then f b then emit_entries f es

unfoldable pub emit_in : (Tree → Stream) → Tree → Stream
emit_in f (plain p) = these (encode_plain p)
emit_in f (array xs ts) = these (array_head ts) then emit_pairs f xs then these (0x01 ∷ []) then emit_trees f ts
emit_in f (object class xs ys) = these (object_head class xs ys) then emit_values f xs then emit_dynamic f ys
emit_in f (object_vector fixed class ts) = these (vector_head fixed class ts) then emit_trees f ts
emit_in f (dictionary weak es) = these (dictionary_head weak es) then emit_entries f es

-- 9 comes before the marker
unfoldable pub emit : ℕ → Tree → Stream
emit zero t = deep
emit (suc left) t = emit_in (emit left) t

-- ---- the writing

-- how it ended, with the output: so many bytes were written; or the refusal's number, told value and place
pub data Wrote : Type 0 where
  written : ℕ → List ℕ → Wrote
  unwritten : ℕ → ℕ → ℕ → List ℕ → Wrote

-- 10 at the first byte past the output, 9 where the bytes stop before it; else they stand at its beginning, and the rest of it as it was
unfoldable pub settle : Stream → List ℕ → Wrote
settle e out =
    cond (leb (length (stream_bytes e)) (length out))
    (cond (is_deep e) (unwritten no.too_deep 0 (length (stream_bytes e)) out) (written (length (stream_bytes e)) (stream_bytes e ++ drop (length (stream_bytes e)) out)))
    (unwritten no.no_room loan_output (length out) out)

abbrev pub after_test : Tested → Stream → List ℕ → Wrote
after_test fine e out = settle e out
after_test (faulty n row) e out = unwritten n row 0 out

-- refusal 1 for the rows, then for the store
abbrev pub after_fault : ℕ → List ℕ → Wrote → Wrote
after_fault zero out w = w
after_fault (suc loan) out w = unwritten no.bad_loan (suc loan) 0 out

unfoldable pub writing : List ℕ → List ℕ → List ℕ → Wrote
writing R B out = after_fault (rows_fault R B) out (after_test (tested R B) (emit open_limit (unfolded R B 0)) out)
