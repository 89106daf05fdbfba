-- The small rows compute.
use Rattle.std.proofs.Common.{refl}
use Rattle.row_drawing.specs.Writer.{◌>>◌, skip, goto, turn, color, print, space, back, erasing, clearing, marking}
use Rattle.row_drawing.specs.RowWriter.{reprint, opening, to_erase, flush_of, flush, finish_of, finish, arrive, mark_of}
use Rattle.row_drawing.specs.RowWriter.{mark, draw, column, columns, unflag, print_last, mend, closing, row_redraw}
use Rattle.row_drawing.specs.RowWriter.{row_difference}
use Rattle.vt100_rows.specs.Examples.{EachExampleIsWritten}

pub examples : EachExampleIsWritten
unfolding ◌>>◌ skip goto turn color print space back erasing clearing marking reprint opening to_erase flush_of flush
    finish_of finish arrive mark_of mark draw column columns unflag print_last mend closing row_redraw row_difference
examples = record {
  whole = refl;
  part = refl;
  part_pos = refl;
  part_from = refl;
  narrow = refl;
  past = refl;
  below = refl;
  below_empty = refl;
  colored = refl;
  kept = refl;
  differs = refl;
  differs_attrs = refl;
  shorter = refl;
  shorter_past = refl;
}
