-- Which cells the differences of screens touch: local ones, which differ or are near one that does. If the cursor is
-- past the last column, the last cell of one row may also be touched.
use Rattle.std.specs.Prelude.{ℕ, ◌≡◌, List, Option, Some, None}
use Rattle.vt100_forms.specs.Attrs.{IsProper}
use Rattle.vt100_forms.specs.Form.{Form}
use Rattle.terminal_model.specs.Term.{Size, Shown, Saved, Term, IsShown, term_of}
use Rattle.terminal_model.specs.Touch.{Within}
use Rattle.terminal_model.specs.Local.{IsLocal, IsLocalOrEnd}
use Rattle.row_drawing.specs.declared.pen.Pen.{Pen}
use Rattle.screen_drawing.specs.Rows.{rows_difference}
use Rattle.screen_drawing.specs.Cursor.{row_with_end}
use Rattle.screen_drawing.specs.Screen.{grid_difference, contents_diff, state_diff}
use Rattle.screen_drawing.specs.Laws.{IsDrawable, IsDrawableScreen, showing}

-- the differences of all rows touch only local cells of the two pictures
abbrev pub EachRowsDifferenceIsLocal : Type 0
EachRowsDifferenceIsLocal = (z : Size) (t : Term) (old new : Shown) (p : Pen) → IsShown z old → IsDrawable z new
    → IsProper p.attrs → p.erase ≡ None
    → Within (IsLocal z old new) z (rows_difference z old new z.rows p).forms (showing t old p)

-- the row that was found, or r if none was
abbrev pub row_or : ℕ → Option ℕ → ℕ
row_or r None = r
row_or r (Some i) = i

-- The row at whose end a character is printed, if the cursor of s is past the last column. It is the nearest one,
-- from the cursor's row upwards, whose last cell has a text; the cursor's own if none has.
abbrev pub waiting_row : Size → Shown → ℕ
waiting_row z s = row_or s.row (row_with_end z s.cell s.row)

-- Read by a terminal that shows `old`, whatever cursor it has saved, the forms touch only local cells of the two
-- pictures. If the cursor of `new` is past the last column, they may also touch the last cell of that one row, with
-- its other half.
abbrev pub IsLocalList : Size → Shown → Shown → List Form → Type 0
IsLocalList z old new fs = (v : Saved) → Within (IsLocalOrEnd z old new (waiting_row z new)) z fs (term_of old v)

-- the difference of cells, flags and the cursor
abbrev pub EachGridDifferenceIsLocal : Type 0
EachGridDifferenceIsLocal = (z : Size) (old new : Shown) → IsShown z old → IsProper old.attrs → IsDrawable z new
    → IsLocalList z old new (grid_difference z old new).forms

-- the same, and whether the cursor is hidden, and the attributes
abbrev pub EachContentsDifferenceIsLocal : Type 0
EachContentsDifferenceIsLocal = (z : Size) (old new : Shown) → IsShown z old → IsProper old.attrs
    → IsDrawableScreen z new
    → IsLocalList z old new (contents_diff z old new)

-- the same, and the modes and the cursor style
abbrev pub EachDifferenceIsLocal : Type 0
EachDifferenceIsLocal = (z : Size) (old new : Shown) → IsShown z old → IsProper old.attrs → IsDrawableScreen z new
    → IsLocalList z old new (state_diff z old new)
