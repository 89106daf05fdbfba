use Rattle.std.proofs.Common.{◌≡◌, ◌≤◌, ℕ, List, length, take, subst, arith}
use Rattle.std.specs.Prelude.{All}
use Rattle.std.proofs.lemmas.Grind.{common_steps}
use Rattle.printable.specs.Printable.{IsPrintable}
use Rattle.printable.proofs.PrintableLemmas.{printable-more}
use Rattle.printable.proofs.are_printable.Goals as goal

all_taken : (xs : List ℕ) (i : ℕ) → length xs ≤ i → take i xs ≡ xs
all_taken xs i h = grind (arith, common_steps)

pub loop-byte-preserved : goal.loop-byte-preserved
loop-byte-preserved c = printable-more c.args.bytes.now c.loop-byte.byte-index c.loop-byte.are_printable
    c.loop-byte-test.true c.loop-byte.invariant

pub returns : goal.returns
returns c h = subst (λ (xs : List ℕ). All IsPrintable xs) (all_taken c.args.bytes.now c.loop-byte.byte-index
    c.loop-byte-test.false) (c.loop-byte.invariant h)
