use Rattle.std.proofs.Common.{arith, ◌∙◌}
use Rattle.vt100_cells.proofs.CellTextLemmas.{text-wide}
use Rattle.vt100_cells.proofs.cell_text.CellText.replace_by_wide.Goals as goal

pub invariant_of-self : goal.invariant_of-self
invariant_of-self c =
    (text-wide c.self.inside c.args.c c.self.invariant (c.self.view_is ∙ c.requires.space) c.ranges.c.0 (omega arith)
    (omega arith)).0

pub returns-then-code-lt65536 : goal.returns-then-code-lt65536
returns-then-code-lt65536 c =
    (text-wide c.self.inside c.args.c c.self.invariant (c.self.view_is ∙ c.requires.space) c.ranges.c.0 (omega arith)
    (omega arith)).1
