use Rattle.screen_view_laws.proofs.Playing.{written_form-made}
use Rattle.screen_view_laws.proofs.laws.written_forms_are_made.Goals as goal

pub returns : goal.returns
returns c = written_form-made
