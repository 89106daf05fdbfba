use Rattle.vt100_forms.proofs.Lengths.{length-form_bytes}
use Rattle.vt100_forms.proofs.laws.written_forms_are_short.Goals as goal

pub returns : goal.returns
returns c = length-form_bytes
