use Rattle.std.proofs.Common.{◌∙◌}
use Rattle.vt100_cells.proofs.CellTextLemmas.{len-text_of}
use Rattle.vt100_cells.proofs.cell_text.CellText.len.Goals as goal

pub returns : goal.returns
returns c = c.from.ensures ∙ len-text_of c.self.inside c.args.self.now c.self.invariant c.self.view_is
