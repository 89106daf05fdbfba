use Rattle.vt100_cells.proofs.CellTexts.{cell-is_characters}
use Rattle.vt100_cells.proofs.laws.cells_are_their_characters.Goals as goal

pub returns : goal.returns
returns c = cell-is_characters
