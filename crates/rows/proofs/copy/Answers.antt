-- The loop's invariant: what is left to copy, into what there is, makes the whole.
use Rattle.std.proofs.Common.{◌≡◌, ℕ, ◌+◌, ◌<◌, List, length, get_or, drop, drop-cons, sym, ap, ◌∙◌, arith}
use Rattle.std.proofs.lemmas.List.{drop_all}
use Rattle.std.proofs.lemmas.List.Edits.{sets}
use Prim.Native.Nat.{suc}
use lib.ListN.{set}
use Rattle.rows.proofs.copy.Goals as goal

-- one more byte is copied
more : (dst ys : List ℕ) (at i : ℕ) → i < length ys → sets dst (at + i) (drop i ys) ≡ sets (set dst (at + i) (get_or ys i 0)) (at + (i + 1)) (drop (i + 1) ys)
more dst ys at i h =
    let p : at + (i + 1) ≡ suc (at + i) = omega arith in
    let q : i + 1 ≡ suc i = omega arith in
    ap (sets dst (at + i)) (drop-cons ys i 0 h) ∙ rw (p, q)

pub loop-i-init : goal.loop-i-init
loop-i-init c = let p : c.args.at + 0 ≡ c.args.at = omega arith in rw p

pub loop-i-preserved : goal.loop-i-preserved
loop-i-preserved c = c.loop-i.invariant ∙ more _ _ c.args.at c.loop-i.i c.loop-i-test.true

pub returns : goal.returns
returns c = sym (c.loop-i.invariant ∙ ap (sets c.loop-i.dst (c.args.at + c.loop-i.i)) (drop_all c.loop-i.i c.args.bytes.now c.loop-i-test.false))
