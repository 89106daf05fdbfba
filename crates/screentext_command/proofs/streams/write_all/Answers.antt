use Rattle.std.proofs.Common.{Result, subst}
use Rattle.std.specs.declared.io.Error.{Error}
use Rattle.byte_streams.specs.Pump.{Pumps}
use Rattle.screentext_command.specs.Command.{stopped, unflushed, printed}
use Rattle.screentext_command.proofs.streams.write_all.Goals as goal

pub returns-in-Err : goal.returns-in-Err
returns-in-Err g c =
    stopped c.in-Err.field-0 c.pump.result.0
    (subst (λ (r : Result (Unit {0}) Error). Pumps g.W.ByteSink.takes c.args.output.now c.args.text.now r
    c.pump.result.0 c.pump.new.to) c.in-Err.is c.pump.ensures)

pub returns-in-Ok-finish : goal.returns-in-Ok-finish
returns-in-Ok-finish g c =
    let sent = subst (λ (r : Result (Unit {0}) Error). Pumps g.W.ByteSink.takes c.args.output.now c.args.text.now r
    c.pump.result.0 c.pump.new.to) c.in-Ok.is c.pump.ensures in
    printed c.pump.new.to c.pump.result.0 sent c.in-Ok-finish.ensures.flushes

pub returns-in-Err-finish : goal.returns-in-Err-finish
returns-in-Err-finish g c =
    let sent = subst (λ (r : Result (Unit {0}) Error). Pumps g.W.ByteSink.takes c.args.output.now c.args.text.now r
    c.pump.result.0 c.pump.new.to) c.in-Ok.is c.pump.ensures in
    unflushed c.pump.new.to c.in-Err-finish.field-0 c.pump.result.0 sent c.in-Err-finish.ensures.flushes
