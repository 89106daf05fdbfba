-- What the differences of small screens touch, computed.
use Rattle.std.proofs.Common.{refl}
use lib.Utf8.{encode}
use Rattle.unicode_width.specs.Width.{char_width}
use Rattle.terminal_model.specs.Position.{update}
use Rattle.terminal_model.specs.Apply.{with_line, erase, print as printed, join, down, wrap, made_to_fit, input, apply}
use Rattle.terminal_model.specs.Touch.{input_touches, form_touches, touches}
use Rattle.row_drawing.specs.Writer.{◌>>◌, skip, goto, turn, color, print, space, back, erasing, clearing, marking}
use Rattle.row_drawing.specs.RowWriter.{reprint, opening, to_erase, flush_of, flush, finish_of, finish, arrive}
use Rattle.row_drawing.specs.RowWriter.{mark_of, mark, draw, column, columns, unflag, print_last, mend, closing}
use Rattle.row_drawing.specs.RowWriter.{row_redraw, row_difference}
use Rattle.screen_drawing.specs.Rows.{next_row, in_turn}
use Rattle.screen_drawing.specs.Cursor.{wait_behind, wait_on_empty, wait, cursor_position_formatted}
use Rattle.screen_drawing.specs.Modes.{input_mode_diff}
use Rattle.screen_drawing.specs.Screen.{cursor_placed, grid_difference, contents_diff, state_diff}
use Rattle.screen_drawing.specs.LocalExamples.{EachDifferenceTouches}

pub examples-touch : EachDifferenceTouches
unfolding char_width encode update with_line erase printed join down wrap made_to_fit input apply input_touches
    form_touches touches ◌>>◌ skip goto turn color print space back erasing clearing marking reprint opening to_erase
    flush_of flush finish_of finish arrive mark_of mark draw column columns unflag print_last mend closing row_redraw
    row_difference next_row in_turn wait_behind wait_on_empty wait cursor_position_formatted
    input_mode_diff cursor_placed grid_difference contents_diff state_diff
examples-touch = record {
  none = refl;
  middle = refl;
  end = refl;
  over_first = refl;
  over_second = refl;
  between = refl;
  wraps = refl;
  ends = refl;
  lost = refl;
  waits = refl;
  waits_below = refl;
  comes_below = refl;
  waits_on_empty = refl;
}
