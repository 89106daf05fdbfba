use Rattle.std.proofs.Common.{Err}
use Rattle.screentext_command.specs.Command.{refused}
use Rattle.screentext_command.proofs.commands.command_with.Goals as goal

pub returns-in-Ok-Some-clause-does : goal.returns-in-Ok-Some-clause-does
returns-in-Ok-Some-clause-does g c = λ understood. record {
  answer = c.obey-answer.result;
  does = c.obey-answer.ensures _ (rw c.in-Ok-Some.field-0-is at c.in-Ok-Some.ensures.says);
  reported = c.report_answer.ensures.reports;
}

pub returns-in-Err-clause-does : goal.returns-in-Err-clause-does
returns-in-Err-clause-does g c = λ understood. record {
  answer = Err c.in-Err.error;
  does = rw c.in-Err.ensures.fault refused;
  reported = (c.report_fault-in-Err.ensures.status, c.report_fault-in-Err.ensures.reports);
}
