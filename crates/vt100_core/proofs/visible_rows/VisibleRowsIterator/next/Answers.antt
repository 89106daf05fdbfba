use Rattle.std.proofs.Common.{arith, sym, ◌∙◌, ◌≡◌, [], ap, length, List}
use Rattle.vt100_rows.specs.Row.{RowView}
use Rattle.vt100_core.proofs.ShowLemmas.{drop-visible, drop-visible_past}
use Rattle.vt100_core.proofs.visible_rows.VisibleRowsIterator.next.Goals as goal

pub returns-in-Some-clause-steps : goal.returns-in-Some-clause-steps
returns-in-Some-clause-steps c =
    sym c.self.view_is ∙ drop-visible c.self.inside.grid.now c.self.inside.next c.in-Some.row.now
    (sym c.in-Some.ensures)

pub returns-in-Some-clause-goes : goal.returns-in-Some-clause-goes
returns-in-Some-clause-goes c =
    let e = sym c.self.view_is ∙ drop-visible c.self.inside.grid.now c.self.inside.next c.in-Some.row.now
    (sym c.in-Some.ensures) in
    let l = ap (λ (xs : List RowView). length xs) e in
    omega arith

pub returns-in-None-clause-steps : goal.returns-in-None-clause-steps
returns-in-None-clause-steps c =
    let e : c.args.self.now ≡ [] = sym c.self.view_is
    ∙ drop-visible_past c.self.inside.grid.now c.self.inside.next (sym c.in-None.ensures) in
    (e, e)
