use Rattle.std.proofs.Common.{◌∙◌, sym}
use Rattle.vte_core.proofs.Telling.{tells_next}
use Rattle.vte_core.proofs.parser.put_prefix.Goals as goal

pub loop-read-preserved : goal.loop-read-preserved
loop-read-preserved g c = tells_next c.loop-read.invariant c.loop-read-test.true
    (sym c.is_device_data.ensures ∙ c.if-is_device_data.true) c.put.ensures
