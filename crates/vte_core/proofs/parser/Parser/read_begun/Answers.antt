use Rattle.std.proofs.Common.{refl, arith}
use Rattle.vte_core.proofs.Quiet.{esc-quiet, quiet-alone, quiet-and-step}
use Rattle.vte_core.proofs.parser.Parser.read_begun.Goals as goal

pub returns-then-bytes-eq1 : goal.returns-then-bytes-eq1
returns-then-bytes-eq1 g c =
    let need = c.requires in
    quiet-alone c.args.bytes.now 1 (omega arith) (esc-quiet c.args.bytes.now need.begins need.ground need.whole refl
    need.whole c.clear.ensures)

pub returns : goal.returns
returns g c =
    let need = c.requires in
    quiet-and-step c.args.bytes.now 1 c.read_escape.result
    (esc-quiet c.args.bytes.now need.begins need.ground need.whole
    refl need.whole c.clear.ensures) c.read_escape.ensures
