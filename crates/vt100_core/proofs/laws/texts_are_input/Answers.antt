use Rattle.vt100_core.proofs.InputTexts.{text-is_input}
use Rattle.vt100_core.proofs.laws.texts_are_input.Goals as goal

pub returns : goal.returns
returns c = text-is_input
