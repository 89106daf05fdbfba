use Rattle.std.proofs.Common.{◌≡◌, true, arith, get_or}
use Rattle.std.proofs.lemmas.Bool.Decides.{nat_tests}
use Rattle.vte_core.specs.Bytes.{is_c0}
use Rattle.vte_core.proofs.Telling.{tells_next}
use Rattle.vte_core.proofs.text.execute_controls.Goals as goal

pub loop-read-preserved : goal.loop-read-preserved
loop-read-preserved g c =
    let is : is_c0 (get_or c.args.bytes.now c.loop-read.read 0) ≡ true =
    grind (arith, nat_tests, c.if-bytes-read-lt32.true, c.if-bytes-read-ne27.true) in
    tells_next c.loop-read.invariant c.loop-read-test.true is c.execute.ensures
