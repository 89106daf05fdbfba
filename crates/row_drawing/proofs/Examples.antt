-- The small rows compute.
use Rattle.std.proofs.Common.{refl}
use Rattle.unicode_width.specs.Width.{char_width}
use Rattle.row_drawing.specs.Writer.{◌>>◌, skip, goto, turn, color, print, space, back, erasing, clearing, marking}
use Rattle.row_drawing.specs.RowWriter.{reprint, opening, to_erase, flush_of, flush, finish_of, finish, arrive}
use Rattle.row_drawing.specs.RowWriter.{mark_of, mark, draw, column, columns, unflag, print_last, mend, closing}
use Rattle.row_drawing.specs.RowWriter.{row_redraw, row_difference}
use Rattle.row_drawing.specs.Examples.{EachExampleIsWritten}

pub examples : EachExampleIsWritten
unfolding ◌>>◌ skip goto turn color print space back erasing clearing marking reprint opening to_erase flush_of flush
    finish_of finish arrive mark_of mark draw column columns unflag print_last mend closing row_redraw row_difference
    char_width
examples = record {
  middle = refl;
  end = refl;
  drawn = refl;
  flagged = refl;
  flagged_empty = refl;
  flagged_erased = refl;
  wraps = refl;
  ends = refl;
  lost_by_erase = refl;
  lost_by_print = refl;
}
