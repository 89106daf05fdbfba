use Rattle.std.proofs.Common.{Option, IfSome, subst}
use Rattle.relay_commands.specs.Words.{Invocation}
use Rattle.relay_commands.specs.Command.{HasWritten}
use Rattle.relay_commands.proofs.program.Program.command.Goals as goal

pub returns-in-Ok-clause-done : goal.returns-in-Ok-clause-done
returns-in-Ok-clause-done g c = λ is.
    subst (λ (i : Option Invocation). IfSome i (λ o. HasWritten o (g.S.Source.left c.args.input.now)
    (g.W.FlushSink.contents c.args.output.now) (g.W.FlushSink.contents c.carry_out.new.output)))
    c.in-Some.ensures c.in-Ok.ensures.done
