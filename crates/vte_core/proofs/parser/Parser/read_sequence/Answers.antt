use Rattle.std.proofs.Common.{arith}
use Rattle.vte_core.proofs.WholeCsi.{after_nothing}
use Rattle.vte_core.proofs.parser.Parser.read_sequence.Goals as goal

pub returns-then-len-gt0 : goal.returns-then-len-gt0
returns-then-len-gt0 g c = c.read_whole-len.ensures.reads.sequence c.if-len-gt0.true

pub returns : goal.returns
returns g c =
    after_nothing c.args.bytes.now c.read_whole-len.result c.read_begun.result (omega (arith, c.if-len-gt0.false))
    c.read_whole-len.ensures.reads c.read_begun.ensures
