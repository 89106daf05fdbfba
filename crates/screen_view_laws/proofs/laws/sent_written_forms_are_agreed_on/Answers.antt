use Rattle.screen_view_laws.proofs.Agreeing.{agreeing-modes, sent-written_form-agreed}
use Rattle.screen_view_laws.proofs.laws.sent_written_forms_are_agreed_on.Goals as goal

pub returns-clause-begin : goal.returns-clause-begin
returns-clause-begin c = agreeing-modes

pub returns-clause-keep : goal.returns-clause-keep
returns-clause-keep c = sent-written_form-agreed
