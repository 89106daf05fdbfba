-- Redraws and differences of whole screens, as lists of forms.
use Rattle.std.specs.Prelude.{List, [], ◌∷◌, ◌++◌, Some, None}
use Rattle.vt100_forms.specs.Attrs.{default_attrs}
use Rattle.vt100_forms.specs.Form.{Form, ClearScreen, ClearAttrs, HideCursor, change}
use Rattle.terminal_model.specs.Term.{Size, Shown}
use Rattle.row_drawing.specs.Writer.{Drawn, Writer, ◌>>◌}
use Rattle.screen_drawing.specs.Rows.{pen_at, rows_redraw, rows_difference}
use Rattle.screen_drawing.specs.Cursor.{cursor_position_formatted}
use Rattle.screen_drawing.specs.Modes.{switch, input_mode_formatted, input_mode_diff}

-- ---- grids: cells, flags and the cursor

-- the cursor moves to that of s, and the attributes stay
unfoldable pub cursor_placed : Size → Shown → Writer
cursor_placed z s p = record {
  pen = record p { pos = record { row = s.row; col = s.col } };
  forms = cursor_position_formatted z s (Some p.pos) p.attrs;
}

-- on a terminal that is cleared
unfoldable pub grid_redraw : Size → Shown → Drawn
grid_redraw z s = (rows_redraw z s z.rows >> cursor_placed z s) (pen_at 0 0 default_attrs)

-- on a terminal that shows the old screen, with its cursor and its attributes
unfoldable pub grid_difference : Size → Shown → Shown → Drawn
grid_difference z old new =
    (rows_difference z old new z.rows >> cursor_placed z new) (pen_at old.row old.col old.attrs)

-- ---- lists, where d has drawn a screen's cells and flags, and its cursor

-- on a terminal that is cleared
abbrev pub cleared : Drawn → List Form
cleared d = ClearAttrs ∷ ClearScreen ∷ d.forms

-- with whether the cursor is hidden before it, and the current attributes after it
abbrev pub redraw_by : Shown → Drawn → List Form
redraw_by s d = HideCursor s.hidden ∷ (cleared d ++ change d.pen.attrs s.attrs)

-- the same, on a terminal that shows the old screen
abbrev pub difference_by : Shown → Shown → Drawn → List Form
difference_by old new d = switch HideCursor old.hidden new.hidden ++ d.forms ++ change d.pen.attrs new.attrs

-- ---- screens

unfoldable pub grid_contents_formatted : Size → Shown → List Form
grid_contents_formatted z s = cleared (grid_redraw z s)

unfoldable pub contents_formatted : Size → Shown → List Form
contents_formatted z s = redraw_by s (grid_redraw z s)

unfoldable pub state_formatted : Size → Shown → List Form
state_formatted z s = contents_formatted z s ++ input_mode_formatted s

unfoldable pub contents_diff : Size → Shown → Shown → List Form
contents_diff z old new = difference_by old new (grid_difference z old new)

unfoldable pub state_diff : Size → Shown → Shown → List Form
state_diff z old new = contents_diff z old new ++ input_mode_diff old new

unfoldable pub cursor_state_formatted : Size → Shown → List Form
cursor_state_formatted z s = HideCursor s.hidden ∷ cursor_position_formatted z s None default_attrs

-- ---- chains

-- the differences from s to each of these states, one after the other
abbrev pub contents_diffs : Size → Shown → List Shown → List Form
contents_diffs z s [] = []
contents_diffs z s (x ∷ xs) = contents_diff z s x ++ contents_diffs z x xs

-- the last one of s and these
abbrev pub last_shown : Shown → List Shown → Shown
last_shown s [] = s
last_shown s (x ∷ xs) = last_shown x xs
