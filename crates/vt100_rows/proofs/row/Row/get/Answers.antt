use Rattle.std.proofs.Common.{ap, ◌∙◌, List}
use Rattle.std.specs.Prelude.{slice_get}
use Rattle.vt100_cells.specs.Cell.{CellView}
use Rattle.vt100_rows.specs.Row.{RowView}
use Rattle.vt100_cells.proofs.ListLemmas.{looked_up}
use Rattle.vt100_rows.proofs.row.Row.get.Goals as goal

pub returns : goal.returns
returns c =
    looked_up c.deref.result.now c.from.result c.get.result c.get.ensures.lookup.0 c.get.ensures.lookup.1
    ∙ ap (slice_get c.deref.result.now) c.from.ensures
    ∙ ap (λ (xs : List CellView). slice_get xs c.args.col) (c.deref.ensures.value
    ∙ ap (λ (v : RowView). v.cells) c.self.view_is)
