use Rattle.std.proofs.Common.{◌∙◌}
use Rattle.vt100_cells.proofs.CellTextLemmas.{text-replaced}
use Rattle.vt100_cells.proofs.cell_text.CellText.replace_by_ascii.Goals as goal

pub invariant_of-self : goal.invariant_of-self
invariant_of-self c =
    (text-replaced c.self.inside c.args.c c.self.invariant (c.self.view_is ∙ c.requires.space) c.requires.ascii).0

pub returns : goal.returns
returns c =
    (text-replaced c.self.inside c.args.c c.self.invariant (c.self.view_is ∙ c.requires.space) c.requires.ascii).1
