use Rattle.std.proofs.Common.{Bor, IfSome, ◌≡◌, subst, sym, ◌∙◌}
use Rattle.vt100_cells.specs.Cell.{CellView}
use Rattle.vt100_cells.specs.CellEq.{attrs_eq-true}
use Rattle.row_drawing.proofs.WritesLemmas.{color_same}
use Rattle.row_drawing.proofs.pen.Pen.color.Goals as goal

pub returns-then-has_attrs_of-clause-written : goal.returns-then-has_attrs_of-clause-written
returns-then-has_attrs_of-clause-written c =
    let x = c.in-Some.like.now.attrs in
    let drawn : x ≡ c.args.self.now.attrs =
    subst (λ o. IfSome o (λ (y : Bor CellView). y.now.attrs ≡ c.args.self.now.attrs)) c.in-Some.is c.requires.like in
    let alike = sym c.has_attrs_of.ensures ∙ c.if-has_attrs_of.true in
    color_same c.args.self.now c.args.cell.now.attrs c.args.run.now
    (sym (attrs_eq-true c.args.cell.now.attrs x alike ∙ drawn))
