use Rattle.std.proofs.Common.{◌≡◌, List, arith, subst, sym}
use Rattle.std.proofs.lemmas.Grind.{common_steps}
use Rattle.vt100_cells.specs.Cell.{CellView}
use Rattle.vt100_rows.specs.Row.{RowView, IsBlankFrom, wiped_row}
use Rattle.vt100_rows.proofs.RowLemmas.{IsRow-wiped, wiped_row-none}
use Rattle.vt100_rows.proofs.BlankLemmas.{fields-at, blank-after}
use Rattle.vt100_rows.proofs.row.Row.erase_range.Goals as goal

pub wipe_filled-requires-clause-blank : goal.wipe_filled-requires-clause-blank
wipe_filled-requires-clause-blank c =
    subst (λ (xs : List CellView). IsBlankFrom xs c.self.inside.filled) (sym c.deref_mut.ensures.value)
    c.self.invariant.blank

pub invariant_of-self : goal.invariant_of-self
invariant_of-self c =
    let v = c.args.self.now in
    let w = wiped_row v c.args.range.start c.args.range.end c.args.attrs in
    let is : _ ≡ w = grind (arith, common_steps) in
    let row = IsRow-wiped v c.args.range.start c.args.range.end c.args.attrs
    (rw (← c.self.view_is) c.self.invariant.row) c.requires in
    fields-at _ _ _ w is row (blank-after v.cells c.self.inside.filled c.args.range.start c.args.range.end c.args.attrs
    c.filled_after-self-inside.result (rw (← c.self.view_is) c.self.invariant.row.narrow)
    (subst (λ (u : RowView). IsBlankFrom u.cells c.self.inside.filled) c.self.view_is c.self.invariant.blank)
    c.filled_after-self-inside.ensures)

pub returns-then-start-end : goal.returns-then-start-end
returns-then-start-end c = wiped_row-none c.args.self.now c.args.range.start c.args.range.end c.args.attrs (omega arith)
