use Rattle.std.proofs.Common.{length, sym}
use Rattle.std.proofs.lemmas.Bool.{eqb-true}
use Rattle.vt100_cells.proofs.SameCells.{same-lines}
use Rattle.row_drawing.proofs.drawing.Drawing.shows_all.Goals as goal

pub returns-then-same-self : goal.returns-then-same-self
returns-then-same-self c =
    let xs = c.args.self.now.cells.now in
    let ys = c.args.self.now.earlier.now in
    λ h. same-lines xs ys c.args.same (sym c.if-same-self.true) (sym (eqb-true c.args.same (length ys) h)) c.requires
