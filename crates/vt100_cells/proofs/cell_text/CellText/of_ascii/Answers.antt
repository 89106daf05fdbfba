use Rattle.vt100_cells.proofs.CellTextLemmas.{IsText-ascii, text_of-ascii}
use Rattle.vt100_cells.proofs.cell_text.CellText.of_ascii.Goals as goal

pub invariant_of-result : goal.invariant_of-result
invariant_of-result c = IsText-ascii c.args.c c.requires

pub returns : goal.returns
returns c = text_of-ascii c.args.c c.requires
