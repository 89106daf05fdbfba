use Rattle.std.proofs.Common.{◌≡◌, ℕ, ap, refl, ◌∙◌, ◌<◌, ◌≤◌, List, length, get_or, arith}
use Rattle.std.proofs.lemmas.List.{get_or_default}
use Rattle.vt100_cells.specs.Cell.{CellView, default_cell}
use Rattle.vt100_cells.specs.Cells.{cell_at}
use Rattle.vt100_cells.specs.Line.{base_col}
use Rattle.vt100_cells.proofs.JoinedCells.{base_col-whole}
use Rattle.vt100_rows.specs.Row.{RowView, joined_in_place}
use Rattle.vt100_rows.proofs.JoinLemmas.{IsRow-joined_in_place, joins-unwidened}
use Rattle.vt100_rows.proofs.RowLemmas.{IsRow-at}
use Rattle.vt100_rows.proofs.BlankLemmas.{blank-set, base-before}
use Rattle.vt100_rows.proofs.row.Row.join_in_place.Goals as goal

-- the cell that is changed is that of its column
cell-is : (xs : List CellView) (i : ℕ) (x : CellView) → i < length xs → x ≡ get_or xs i x → x ≡ cell_at xs i
cell-is xs i x within e = e ∙ get_or_default xs i x default_cell within

pub join_in_place-requires-clause-no_half : goal.join_in_place-requires-clause-no_half
join_in_place-requires-clause-no_half c =
    let within : c.args.col ≤ length c.self.inside.cells.items =
    omega (arith, c.requires.in_row, ap (λ (v : RowView). length v.cells) c.self.view_is) in
    let cell = cell-is c.self.inside.cells.items c.base_col-base.result c.index_mut.result.now (omega (
      arith,
      within,
      c.base_col-base.ensures,
      c.from.ensures,
      base-before (cell_at c.deref.result.now) c.from.result (omega (arith, c.from.ensures, c.requires.after_some)),
    )) c.index_mut.ensures.value in
    let place : c.base_col-base.result ≡ base_col (cell_at c.self.inside.cells.items) c.from.result =
    c.base_col-base.ensures ∙ ap (λ (xs : List CellView). base_col (cell_at xs) c.from.result) c.deref.ensures.value in
    ap (λ (x : CellView). x.continuation) cell
    ∙ ap (λ k. (cell_at c.self.inside.cells.items k).continuation) place
    ∙ base_col-whole (cell_at c.self.inside.cells.items) c.from.result c.self.invariant.row.paired

pub returns : goal.returns
returns c =
    let within : c.args.col ≤ length c.self.inside.cells.items =
    omega (arith, c.requires.in_row, ap (λ (v : RowView). length v.cells) c.self.view_is) in
    let cell = cell-is c.self.inside.cells.items c.base_col-base.result c.index_mut.result.now (omega (
      arith,
      within,
      c.base_col-base.ensures,
      c.from.ensures,
      base-before (cell_at c.deref.result.now) c.from.result (omega (arith, c.from.ensures, c.requires.after_some)),
    )) c.index_mut.ensures.value in
    joins-unwidened (record { cells = c.self.inside.cells.items; wrapped = c.self.inside.wrapped }) c.deref.result.now
    c.self.inside.cells.items c.args.col c.from.result c.base_col-base.result c.args.c c.join_in_place.new.self
    c.index_mut.result.now c.deref.ensures.value refl c.from.ensures c.base_col-base.ensures
    cell c.join_in_place.ensures c.requires.after_some within
    ∙ ap (λ (v : RowView). joined_in_place v c.args.col c.args.c) c.self.view_is

pub invariant_of-self : goal.invariant_of-self
invariant_of-self c = record {
  row = IsRow-at _ (joined_in_place c.args.self.now c.args.col c.args.c) (returns c)
      (IsRow-joined_in_place c.args.self.now c.args.col c.args.c (rw (← c.self.view_is) c.self.invariant.row)
      c.ranges.c.0
      c.requires.zero_width c.requires.after_some c.requires.in_row);
  blank = blank-set c.self.inside.cells.items c.self.inside.filled c.max-self-inside.result c.base_col-base.result
      c.join_in_place.new.self c.self.invariant.blank (omega (arith, c.max-self-inside.ensures))
      (omega (
        arith,
        c.max-self-inside.ensures,
        c.base_col-base.ensures,
        c.from.ensures,
        base-before (cell_at c.deref.result.now) c.from.result (omega (arith, c.from.ensures, c.requires.after_some)),
      ));
}
