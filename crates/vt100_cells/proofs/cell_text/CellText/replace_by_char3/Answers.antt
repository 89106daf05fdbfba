use Rattle.std.proofs.Common.{subst}
use Rattle.std.specs.Char.{IsScalar}
use Rattle.vt100_cells.proofs.Char3Lemmas.{char3-replaced}
use Rattle.vt100_cells.proofs.cell_text.CellText.replace_by_char3.Goals as goal

pub invariant_of-self : goal.invariant_of-self
invariant_of-self c =
    (char3-replaced c.self.inside c.c.inside c.args.self.now c.args.c c.self.invariant c.self.view_is c.requires.three
    c.c.invariant c.c.view_is).0

pub returns-clause-text : goal.returns-clause-text
returns-clause-text c =
    (char3-replaced c.self.inside c.c.inside c.args.self.now c.args.c c.self.invariant c.self.view_is c.requires.three
    c.c.invariant c.c.view_is).1

pub returns-clause-character : goal.returns-clause-character
returns-clause-character c = subst IsScalar c.c.view_is c.c.invariant.scalar
