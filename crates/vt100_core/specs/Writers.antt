-- What a grid appends as forms.
--
-- Rows are drawn as they are shown; the cursor is that of the rows that are drawn on, which are shown where no kept row
-- is.
use Rattle.std.specs.Prelude.{ℕ, ◌≡◌, ◌+◌, ◌<◌, ◌≤◌, Bool, true, false, min, List, ◌++◌, length, Option, unwrap_or}
use Rattle.std.specs.Prelude.{String, string_bytes, string_len, string_capacity}
use Rattle.vt100_forms.specs.declared.attrs.Attrs.{Attrs}
use Rattle.vt100_forms.specs.declared.position.Pos.{Pos}
use Rattle.vt100_forms.specs.Attrs.{default_attrs}
use Rattle.vt100_forms.specs.Form.{Form, bytes_of}
use Rattle.terminal_model.specs.Term.{Shown, blank_shown}
use Rattle.row_drawing.specs.Writer.{Drawn, Writer, ◌>>◌}
use Rattle.row_drawing.specs.Writes.{IsBegun}
use Rattle.screen_drawing.specs.Rows.{pen_at, RowWriters, in_turn, no_flags}
use Rattle.screen_drawing.specs.Screen.{cursor_placed, cleared}
use Rattle.screen_drawing.specs.Cursor as cursor
use Rattle.vt100_rows.specs.Forms.{redraw, difference}
use Rattle.vt100_rows.specs.Picture.{lines_of, wraps_of}
use Rattle.vt100_core.specs.Grid.{GridView, visible_at}
use Rattle.vt100_core.specs.Contents.{is_below_wrapped}
use Rattle.vt100_core.specs.Picture.{grid_size}

module _ {Z : Type 0} where
  -- The string s becomes t: these forms are appended, and s keeps its room.
  pub record AppendedForms (fs : List Form) (s t : String Z) : Type 0 where
    pub bytes : string_bytes t ≡ string_bytes s ++ bytes_of fs
    pub capacity : string_capacity s ≤ string_capacity t

  -- They don't fit in the room of s, and there is no memory for more; a part of them may have been appended.
  pub record RefusedForms (fs : List Form) (s t : String Z) : Type 0 where
    pub begun : IsBegun (string_bytes s) (bytes_of fs) (string_bytes t)
    pub full : string_capacity s < string_len s + length (bytes_of fs)

  -- they are appended, or refused
  abbrev pub Appends : List Form → String Z → Bool → String Z → Type 0
  Appends fs s true t = AppendedForms fs s t
  Appends fs s false t = RefusedForms fs s t

-- ---- the cursor

-- the cells and flags of the rows that are drawn on, and the cursor
abbrev pub drawn_on : GridView → Shown
drawn_on g = record blank_shown { cell = lines_of g.rows; wrapped = wraps_of g.rows; row = g.row; col = g.col }

-- from p, if it is known, to the grid's cursor, where the terminal draws with the attributes a, the default
-- ones if none are given
abbrev pub cursor_position_formatted : GridView → Option Pos → Option Attrs → List Form
cursor_position_formatted g p a =
    cursor.cursor_position_formatted (grid_size g) (drawn_on g) p (unwrap_or a default_attrs)

-- ---- redraws

-- the row that is shown at i, on a row of default cells below rows that have no flag
abbrev pub line_redraw : GridView → RowWriters
line_redraw g i flagged = redraw (visible_at g i) 0 g.width i (is_below_wrapped g i)

-- the first n rows that are shown
abbrev pub lines_redraw : GridView → ℕ → Writer
lines_redraw g = in_turn no_flags (line_redraw g)

-- on a terminal that is cleared
abbrev pub redrawn : GridView → Drawn
redrawn g = (lines_redraw g (length g.rows) >> cursor_placed (grid_size g) (drawn_on g)) (pen_at 0 0 default_attrs)

abbrev pub contents_formatted : GridView → List Form
contents_formatted g = cleared (redrawn g)

-- ---- differences

-- the row that is shown at i, over the one of the earlier grid
abbrev pub line_difference : GridView → GridView → RowWriters
line_difference g earlier i flagged =
    difference (visible_at g i) (visible_at earlier i) 0 g.width i (is_below_wrapped g i) flagged

-- the first n rows that are shown
abbrev pub lines_difference : GridView → GridView → ℕ → Writer
lines_difference g earlier = in_turn (is_below_wrapped earlier) (line_difference g earlier)

-- over what the earlier grid shows, with its cursor, where the terminal draws with the attributes a
abbrev pub differing : GridView → GridView → Attrs → Drawn
differing g earlier a =
    (lines_difference g earlier (min (length g.rows) (length earlier.rows)) >> cursor_placed (grid_size g) (drawn_on g))
    (pen_at earlier.row earlier.col a)
