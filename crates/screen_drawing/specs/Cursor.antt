-- The forms that move the cursor to its place, on a screen whose rows are drawn.
--
-- A cursor is past the last column only after a character is printed there. So the last cell of the row is printed
-- again. If it has no text, that of the nearest row above that has one is printed, and the cursor moves down from
-- there. If no row has one, a space is printed, and erased again while the cursor is saved.
use Rattle.std.specs.Prelude.{ℕ, zero, suc, ◌-◌, ◌==◌, ◌&&◌, Bool, false, nat_lt, List, [], ◌∷◌, ◌++◌, replicate}
use Rattle.std.specs.Prelude.{Option, Some, None, if◌then◌else◌}
use Rattle.vt100_forms.specs.declared.attrs.Attrs.{Attrs}
use Rattle.vt100_forms.specs.declared.position.Pos.{Pos}
use Rattle.vt100_forms.specs.Form.{Form, Text, MoveTo, EraseChar, Lf, Backspace, SaveCursor, RestoreCursor, change}
use Rattle.vt100_forms.specs.Form.{moves}
use Rattle.vt100_cells.specs.Cell.{CellView, has_text}
use Rattle.terminal_model.specs.Term.{Size, Shown}

abbrev pub place : ℕ → ℕ → Pos
place row col = record { row = row; col = col }

-- the form, at most one, that moves the cursor to q: from p, or from an unknown place
abbrev pub arriving : Option Pos → Pos → List Form
arriving None q = MoveTo q.row q.col ∷ []
arriving (Some p) q = moves p q

abbrev pub is_pen_at : Option Pos → Pos → Bool
is_pen_at None q = false
is_pen_at (Some p) q = (p.row == q.row) && (p.col == q.col)

-- ---- the last cell of a row

-- by row and column
abbrev pub Cells : Type 0
Cells = ℕ → ℕ → CellView

-- its column, or that of its first half
abbrev pub end_col : Size → Cells → ℕ → ℕ
end_col z cells r = if (cells r (z.cols - 1)).continuation then z.cols - 2 else z.cols - 1

abbrev pub end_cell : Size → Cells → ℕ → CellView
end_cell z cells r = cells r (end_col z cells r)

-- the nearest row whose last cell has a text, from row r upwards
abbrev pub row_with_end : Size → Cells → ℕ → Option ℕ
row_with_end z cells zero = if has_text (end_cell z cells 0) then Some 0 else None
row_with_end z cells (suc r) = if has_text (end_cell z cells (suc r)) then Some (suc r) else row_with_end z cells r

-- ---- the cursor waits at the end of a row

-- the cell is printed, and the attributes are then a again
abbrev pub printed_with : Attrs → CellView → List Form
printed_with a x = change a x.attrs ++ (Text x.text ∷ change x.attrs a)

-- the cursor moves past the last column of row r, whose last cell has a text
unfoldable pub wait_behind : Size → Cells → Option Pos → Attrs → ℕ → List Form
wait_behind z cells p a r =
    if is_pen_at p (place r z.cols) then []
    else arriving p (place r (end_col z cells r)) ++ printed_with a (end_cell z cells r)

-- the space before the cursor is erased with the attributes b, and the attributes are then a again
abbrev pub replaced : Attrs → Attrs → List Form
replaced a b = change a b ++ SaveCursor ∷ Backspace ∷ EraseChar 1 ∷ RestoreCursor ∷ change b a

-- the cursor moves past the last column of row r, whose last cell x is empty
unfoldable pub wait_on_empty : Size → Option Pos → Attrs → ℕ → CellView → List Form
wait_on_empty z p a r x = arriving p (place r (z.cols - 1)) ++ Text (32 ∷ []) ∷ replaced a x.attrs

-- the cursor moves past the last column of row q, by way of the end of row r if one is given
unfoldable pub wait : Size → Cells → Option Pos → Attrs → ℕ → Option ℕ → List Form
wait z cells p a q (Some r) = wait_behind z cells p a r ++ replicate (q - r) Lf
wait z cells p a q None = wait_on_empty z p a q (cells q (z.cols - 1))

-- ---- the cursor

-- the cursor moves to that of s, from p if that is known, with a as the terminal's attributes
unfoldable pub cursor_position_formatted : Size → Shown → Option Pos → Attrs → List Form
cursor_position_formatted z s p a =
    if nat_lt s.col z.cols then arriving p (place s.row s.col)
    else if is_pen_at p (place s.row s.col) then []
    else wait z s.cell p a s.row (row_with_end z s.cell s.row)
