use Rattle.std.proofs.Common.{◌≡◌, arith}
use Rattle.vte_core.proofs.Runs.{pair_step}
use Rattle.vte_core.proofs.text.begins_printed.Goals as goal

pub loop-i-preserved : goal.loop-i-preserved
loop-i-preserved c = pair_step c.args.bytes.now c.loop-i.i c.loop-i.are_printed c.is_printed_before-are_printed.result
    (omega (arith, c.requires)) c.loop-i.invariant c.is_printed_before-are_printed.ensures

pub returns : goal.returns
returns c = λ t. let all : c.loop-i.i ≡ 16 = omega arith in rw all at (c.loop-i.invariant t)
