use Rattle.std.proofs.Common.{◌≡◌, ◌+◌, ◌-◌, ℕ, sym, subst, arith, take, drop, List}
use Rattle.std.specs.Prelude.{All}
use Rattle.std.proofs.lemmas.List.Elements.{All-append}
use Rattle.printable.specs.Printable.{IsPrintable}
use Rattle.printable.proofs.blocks_len.Goals as goal
use lib.Seq.{take-add}

pub loop-len-preserved : goal.loop-len-preserved
loop-len-preserved c =
    let bs = c.args.bytes.now in
    let i = c.loop-len.len in
    let k : i + 16 - i ≡ 16 = omega arith in
    let block : All IsPrintable (take 16 (drop i bs)) =
    subst (λ (n : ℕ). All IsPrintable (take n (drop i bs))) k (c.are_printable.ensures c.if-are_printable.true) in
    record {
      within = omega arith;
      printable = subst (λ (xs : List ℕ). All IsPrintable xs) (sym (take-add i 16 bs))
          (All-append IsPrintable (take i bs) (take 16 (drop i bs)) c.loop-len.invariant.printable block);
    }
