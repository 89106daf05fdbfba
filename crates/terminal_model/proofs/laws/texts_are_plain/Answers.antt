use Rattle.terminal_model.proofs.PlainText.{text-plain}
use Rattle.terminal_model.proofs.laws.texts_are_plain.Goals as goal

pub returns : goal.returns
returns c = text-plain
