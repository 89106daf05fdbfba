use Rattle.std.proofs.Common.{ap, ◌∙◌, length, false, List, subst}
use Rattle.vt100_cells.specs.Cell.{CellView}
use Rattle.vt100_cells.specs.Cells.{inserted_cells}
use Rattle.vt100_rows.specs.Row.{RowView, IsRow, IsBlankFrom, inserted}
use Rattle.vt100_rows.proofs.RowLemmas.{IsRow-inserted}
use Rattle.vt100_rows.proofs.SheetLemmas.{refilled}
use Rattle.vt100_rows.proofs.BlankLemmas.{fields-at}
use Rattle.vt100_rows.proofs.FilledLemmas.{blank-inserted}
use Rattle.vt100_rows.proofs.row.Row.insert.Goals as goal

pub returns : goal.returns
returns c =
    let xs = c.self.inside.cells.items in
    let whole = refilled c.self.inside.cells.len c.insert_filled.new.cells xs c.self.inside.cells.ok.0
    (c.insert_filled.auto.cells ∙ ap length c.deref_mut.ensures.value) in
    let cells = whole ∙ c.insert_filled.ensures
    ∙ ap (λ (l : List CellView). inserted_cells l c.args.i c.args.count) c.deref_mut.ensures.value in
    (λ i. record { cells = cells i; wrapped = false })
    ∙ ap (λ (v : RowView). inserted v c.args.i c.args.count) c.self.view_is

pub invariant_of-self : goal.invariant_of-self
invariant_of-self c =
    let v = c.args.self.now in
    let r : IsRow v = rw (← c.self.view_is) c.self.invariant.row in
    let b : IsBlankFrom v.cells c.self.inside.filled =
    subst (λ (u : RowView). IsBlankFrom u.cells c.self.inside.filled) c.self.view_is c.self.invariant.blank in
    fields-at _ _ _ (inserted v c.args.i c.args.count) (returns c) (IsRow-inserted v c.args.i c.args.count r)
    (rw c.filled_between-self-inside.ensures
    (blank-inserted v.cells c.args.i c.args.count c.self.inside.filled r.paired b r.narrow))
