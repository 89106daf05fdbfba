use Rattle.vte_core.specs.Event.{Execute}
use Rattle.vte_core.proofs.Telling.{performs-next}
use Rattle.vte_core.proofs.perform.Perform.execute_all.Goals as goal

pub loop-byte-preserved : goal.loop-byte-preserved
loop-byte-preserved g c = performs-next g.Self.Perform.step Execute c.args.controls.now c.loop-byte.byte-index
    c.args.self.now c.loop-byte.self c.execute.new.self c.loop-byte-test.true c.loop-byte.invariant c.execute.ensures
