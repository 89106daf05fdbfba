use Rattle.std.proofs.Common.{ap, ◌∙◌, ◌≡◌, length, true, false, List}
use Rattle.vt100_cells.specs.Cell.{CellView}
use Rattle.vt100_cells.specs.Line.{cut}
use Rattle.vt100_cells.specs.Cells.{cell_at, by_position}
use Rattle.vt100_cells.proofs.ShiftLemmas.{inserts-whole, inserts-mended}
use Rattle.vt100_cells.proofs.line.insert_some.Goals as goal
use Rattle.vt100_cells.proofs.line.insert_some.Goals.{then-splits_pair, else-splits_pair}

pub returns : goal.returns
returns c =
    let xs = c.args.cells.now in
    elim c.if-splits_pair.branch [
      | then-splits_pair w ↦
          let split : (cell_at xs c.args.i).continuation ≡ true = cc in
          inserts-mended xs c.shift_right.new.cells w.mend_pair.new.cells c.clear_cut_half.new.cells c.args.i c.args.n
          c.requires.some split c.shift_right.ensures w.mend_pair.ensures
          (c.clear_cut_half.ensures ∙ ap (λ (ys : List CellView).
          by_position (length ys) (cut (length ys) (cell_at ys))) w.cells-is)
      | else-splits_pair w ↦
          let whole : (cell_at xs c.args.i).continuation ≡ false = cc in
          inserts-whole xs c.shift_right.new.cells c.clear_cut_half.new.cells c.args.i c.args.n whole
          c.shift_right.ensures
          (c.clear_cut_half.ensures ∙ ap (λ (ys : List CellView).
          by_position (length ys) (cut (length ys) (cell_at ys))) w.cells-is)
    ]
