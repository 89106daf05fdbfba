use Rattle.std.proofs.Common.{arith, ◌∙◌}
use Rattle.vt100_cells.proofs.CellTextLemmas.{text-replaced}
use Rattle.vt100_cells.proofs.NarrowLemmas.{space-two, space-three}
use Rattle.vt100_cells.proofs.cell_text.CellText.replace_space.Goals as goal

pub invariant_of-self : goal.invariant_of-self
invariant_of-self c =
    (text-replaced c.self.inside c.args.c c.self.invariant (c.self.view_is ∙ c.requires.space) (omega arith)).0

pub invariant_of-self-then-code-lt2048 : goal.invariant_of-self-then-code-lt2048
invariant_of-self-then-code-lt2048 c =
    (space-two c.self.inside c.args.c c.self.invariant (c.self.view_is ∙ c.requires.space) c.ranges.c.0 (omega arith)
    (omega arith)).0

pub invariant_of-self-then-code-lt65536 : goal.invariant_of-self-then-code-lt65536
invariant_of-self-then-code-lt65536 c =
    (space-three c.self.inside c.args.c c.self.invariant (c.self.view_is ∙ c.requires.space) c.ranges.c.0 (omega arith)
    (omega arith)).0

pub returns-then-code-lt128 : goal.returns-then-code-lt128
returns-then-code-lt128 c =
    (text-replaced c.self.inside c.args.c c.self.invariant (c.self.view_is ∙ c.requires.space) (omega arith)).1

pub returns-then-code-lt2048 : goal.returns-then-code-lt2048
returns-then-code-lt2048 c =
    (space-two c.self.inside c.args.c c.self.invariant (c.self.view_is ∙ c.requires.space) c.ranges.c.0 (omega arith)
    (omega arith)).1

pub returns-then-code-lt65536 : goal.returns-then-code-lt65536
returns-then-code-lt65536 c =
    (space-three c.self.inside c.args.c c.self.invariant (c.self.view_is ∙ c.requires.space) c.ranges.c.0 (omega arith)
    (omega arith)).1
