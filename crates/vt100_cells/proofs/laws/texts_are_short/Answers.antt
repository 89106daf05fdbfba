use Rattle.vt100_cells.proofs.CellTexts.{text-short}
use Rattle.vt100_cells.proofs.laws.texts_are_short.Goals as goal

pub returns : goal.returns
returns c = text-short
