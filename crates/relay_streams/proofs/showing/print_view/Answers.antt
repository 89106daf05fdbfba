use Rattle.relay_streams.specs.Shown.{stopped, unflushed, printed}
use Rattle.relay_streams.proofs.showing.print_view.Goals as goal

pub returns-in-Err : goal.returns-in-Err
returns-in-Err g c = stopped c.in-Err.field-0 c.in-Err.ensures

pub returns-in-Ok-finish : goal.returns-in-Ok-finish
returns-in-Ok-finish g c = printed c.write_view.new.output c.in-Ok.ensures c.in-Ok-finish.ensures.flushes

pub returns-in-Err-finish : goal.returns-in-Err-finish
returns-in-Err-finish g c =
    unflushed c.write_view.new.output c.in-Err-finish.field-0 c.in-Ok.ensures c.in-Err-finish.ensures.flushes
