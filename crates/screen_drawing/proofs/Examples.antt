-- The small screens compute.
use Rattle.std.proofs.Common.{refl}
use lib.Utf8.{encode}
use Rattle.unicode_width.specs.Width.{char_width}
use Rattle.row_drawing.specs.Writer.{◌>>◌, skip, goto, turn, color, print, space, back, erasing, clearing, marking}
use Rattle.row_drawing.specs.RowWriter.{reprint, opening, to_erase, flush_of, flush, finish_of, finish, arrive}
use Rattle.row_drawing.specs.RowWriter.{mark_of, mark, draw, column, columns, unflag, print_last, mend, closing}
use Rattle.row_drawing.specs.RowWriter.{row_redraw, row_difference}
use Rattle.screen_drawing.specs.Rows.{next_row, in_turn}
use Rattle.screen_drawing.specs.Cursor.{wait_behind, wait_on_empty, wait, cursor_position_formatted}
use Rattle.screen_drawing.specs.Modes.{input_mode_formatted, input_mode_diff, attributes_formatted}
use Rattle.screen_drawing.specs.Screen.{cursor_placed, grid_redraw, grid_contents_formatted, grid_difference}
use Rattle.screen_drawing.specs.Screen.{contents_formatted, state_formatted, contents_diff, state_diff}
use Rattle.screen_drawing.specs.Screen.{cursor_state_formatted}
use Rattle.screen_drawing.specs.Examples.{EachExampleIsWritten}

pub examples : EachExampleIsWritten
unfolding ◌>>◌ skip goto turn color print space back erasing clearing marking reprint opening to_erase flush_of flush
    finish_of finish arrive mark_of mark draw column columns unflag print_last mend closing row_redraw row_difference
    char_width encode next_row in_turn wait_behind wait_on_empty wait
    cursor_position_formatted input_mode_formatted input_mode_diff attributes_formatted cursor_placed grid_redraw
    grid_contents_formatted grid_difference contents_formatted state_formatted contents_diff state_diff
    cursor_state_formatted
examples = record {
  blank_redrawn = refl;
  blank_bytes = refl;
  blank_changed = refl;
  green_redrawn = refl;
  green_changed = refl;
  green_attributes = refl;
  green_cursor = refl;
  modes_changed = refl;
  modes_all = refl;
  wrapped_redrawn = refl;
  wrapped_diff = refl;
  covered_diff = refl;
  moved_diff = refl;
  full_redrawn = refl;
  emptied_diff = refl;
  below_redrawn = refl;
  below_cursor = refl;
}
