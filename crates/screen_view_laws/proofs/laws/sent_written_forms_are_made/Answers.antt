use Rattle.screen_view_laws.proofs.SentPlaying.{sent-written_form-made}
use Rattle.screen_view_laws.proofs.laws.sent_written_forms_are_made.Goals as goal

pub returns : goal.returns
returns c = sent-written_form-made
