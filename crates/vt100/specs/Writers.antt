-- What a screen's calls write as forms: its whole picture, its modes, and its rows one by one.
--
-- The rows are drawn as they are shown. Where no kept row is, these are the forms for what the screen shows.
use Rattle.std.specs.Prelude.{ℕ, ◌+◌, ◌==◌, Bool, false, ◌&&◌, List, [], ◌∷◌, ◌++◌, None}
use Rattle.vt100_forms.specs.Attrs.{default_attrs}
use Rattle.vt100_forms.specs.Form.{Form, HideCursor, bytes_of}
use Rattle.row_drawing.specs.Writer.{Drawn}
use Rattle.vt100_rows.specs.Row.{RowView}
use Rattle.vt100_rows.specs.Forms as row
use Rattle.screen_drawing.specs.Modes.{input_mode_formatted, input_mode_diff}
use Rattle.screen_drawing.specs.Screen.{redraw_by, difference_by}
use Rattle.vt100_core.specs.Grid.{GridView, visible}
use Rattle.vt100_core.specs.Writers as grid
use Rattle.screen_model.specs.State.{State}
use Rattle.screen_model.specs.Shown.{shown_state}

-- ---- the whole screen

-- the shown sheet, with the hiding of the cursor and the attributes that are drawn with
abbrev pub contents_formatted : State → List Form
contents_formatted s = redraw_by (shown_state s) (grid.redrawn s.shown)

-- and the modes
abbrev pub state_formatted : State → List Form
state_formatted s = contents_formatted s ++ input_mode_formatted (shown_state s)

-- the shown sheet over that of an earlier screen
abbrev pub sheet_diff : State → State → Drawn
sheet_diff old new = grid.differing new.shown old.shown old.attrs

abbrev pub contents_diff : State → State → List Form
contents_diff old new = difference_by (shown_state old) (shown_state new) (sheet_diff old new)

abbrev pub state_diff : State → State → List Form
state_diff old new = contents_diff old new ++ input_mode_diff (shown_state old) (shown_state new)

abbrev pub cursor_state_formatted : State → List Form
cursor_state_formatted s = HideCursor s.hidden ∷ grid.cursor_position_formatted s.shown None None

-- ---- row by row

-- Columns `start` to `start + width` of each row, of which the first one is row i; `above` says whether the row above
-- goes on in it. `whole` says whether whole rows are asked for: of parts none goes on in the next.
abbrev pub each_formatted : ℕ → ℕ → Bool → ℕ → Bool → List RowView → List (List ℕ)
each_formatted start width whole i above [] = []
each_formatted start width whole i above (v ∷ vs) =
    bytes_of (row.formatted v start width i above None None).forms
    ∷ each_formatted start width whole (i + 1) (whole && v.wrapped) vs

abbrev pub rows_formatted : GridView → ℕ → ℕ → List (List ℕ)
rows_formatted g start width =
    each_formatted start width ((start == 0) && (width == g.width)) 0 false (visible g)

-- The same columns of each row over those of an earlier one, of which the first ones are row i: drawn from the cursor
-- at the row's column `start` and with the default attributes, as rows that don't go on. There are as many as both
-- have.
abbrev pub each_diff : ℕ → ℕ → ℕ → List RowView → List RowView → List (List ℕ)
each_diff start width i [] _ = []
each_diff start width i (v ∷ vs) [] = []
each_diff start width i (v ∷ vs) (e ∷ es) =
    bytes_of (row.differing v e start width i false false (record { row = i; col = start }) default_attrs).forms
    ∷ each_diff start width (i + 1) vs es

abbrev pub rows_diff : GridView → GridView → ℕ → ℕ → List (List ℕ)
rows_diff old new start width = each_diff start width 0 (visible new) (visible old)
