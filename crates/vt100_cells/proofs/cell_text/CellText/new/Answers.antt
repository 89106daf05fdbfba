use Rattle.std.proofs.lemmas.Str.{chars-nil}
use Rattle.vt100_cells.proofs.cell_text.CellText.new.Goals as goal

pub returns : goal.returns
returns c = chars-nil
