-- The forms that draw a row on a terminal that shows an earlier one: column by column, for each cell that differs.
--
-- Empty columns with the same attributes are erased together. They are pending in the pen until a column follows that
-- isn't erased with them. If the row above wraps into this one and its flag isn't set yet, the first character of this
-- row is printed from the end of that row, which sets it.
use Rattle.std.specs.Prelude.{ℕ, zero, suc, ◌≡◌, ◌+◌, ◌-◌, ◌==◌, Bool, true, false, not, ◌&&◌, ◌||◌, nat_lt}
use Rattle.std.specs.Prelude.{Option, Some, None, if◌then◌else◌}
use Rattle.vt100_forms.specs.declared.attrs.Attrs.{Attrs}
use Rattle.vt100_forms.specs.Attrs.{attrs_eq}
use Rattle.vt100_cells.specs.Cell.{CellView, has_text, cell_eq, bool_eq}
use Rattle.vt100_cells.specs.Line.{span_of, put_unflags, wipe_unflags}
use Rattle.row_drawing.specs.declared.pen.Erase.{Erase}
use Rattle.row_drawing.specs.declared.pen.Pen.{Pen}
use Rattle.row_drawing.specs.Writer.{Writer, ◌>>◌, skip, goto, turn, color, print, space, back, erasing, clearing}
use Rattle.row_drawing.specs.Writer.{marking}

-- A row of `cols` columns, and number `row` on the screen. Its cells are `new`, the terminal shows `old`, and it is
-- drawn from column `start` on. `wrapped` says whether it wraps into the next row, `was_wrapped` whether the old one
-- did. `above` says whether the row above wraps into it, `was_above` whether the terminal has that row's flag.
pub record RowChange : Type 0 where
  pub cols : ℕ
  pub row : ℕ
  pub start : ℕ
  pub old : ℕ → CellView
  pub new : ℕ → CellView
  pub wrapped : Bool
  pub was_wrapped : Bool
  pub above : Bool
  pub was_above : Bool

abbrev pub is_same : RowChange → ℕ → Bool
is_same j c = cell_eq (j.new c) (j.old c)

-- n columns don't fit at the cursor in the row above, which wraps: what is printed now comes to the start of this row
abbrev pub wraps : RowChange → ℕ → Pen → Bool
wraps j n p = j.above && ((p.pos.row + 1 == j.row) && nat_lt j.cols (p.pos.col + n))

-- ---- the first column

-- The first cell stays, and the row above wraps and has no flag yet. Then the cell is printed once more, which sets the
-- flag.
abbrev pub owes_flag : RowChange → Pen → Bool
owes_flag j p =
    (j.above && not j.was_above) && (is_same j j.start && wraps j (span_of (j.new j.start)) p)

unfoldable pub reprint : RowChange → CellView → Writer
reprint j x =
    if has_text x then (print x false >> (if x.wide then (back >> back) else back))
    else (space >> back >> erasing 1 (wipe_unflags j.cols j.old 0 1))

unfoldable pub opening : RowChange → Writer
opening j p =
    if owes_flag j p then (turn j.row >> color (j.new j.start).attrs >> reprint j (j.new j.start)) p
    else skip p

-- ---- what is still to be erased

unfoldable pub to_erase : RowChange → Erase → Writer
to_erase j e p =
    if wraps j 1 p && (e.from == 0) then (turn j.row >> space >> back >> color e.attrs) p
    else (goto j.row e.from >> color e.attrs) p

-- x can't be erased together with columns that are erased with the attributes a
abbrev pub is_end : CellView → Attrs → Bool
is_end x a = has_text x || not (attrs_eq x.attrs a)

unfoldable pub flush_of : RowChange → ℕ → Option Erase → Writer
flush_of j c None = skip
flush_of j c (Some e) =
    if is_end (j.new c) e.attrs then (to_erase j e >> erasing (c - e.from) (wipe_unflags j.cols j.old e.from c))
    else skip

-- the pending columns before c are erased, if column c isn't erased with them
unfoldable pub flush : RowChange → ℕ → Writer
flush j c p = flush_of j c p.erase p

unfoldable pub finish_of : RowChange → Option Erase → Writer
finish_of j None = skip
finish_of j (Some e) = to_erase j e >> clearing

-- the pending columns are erased, to the end of the row
unfoldable pub finish : RowChange → Writer
finish j p = finish_of j p.erase p

-- ---- one column

unfoldable pub arrive : RowChange → ℕ → ℕ → Writer
arrive j c n p = if wraps j n p && (c == 0) then turn j.row p else goto j.row c p

unfoldable pub mark_of : RowChange → ℕ → Option Erase → Writer
mark_of j c None = marking c (j.new c).attrs
mark_of j c (Some e) = skip

unfoldable pub mark : RowChange → ℕ → Writer
mark j c p = mark_of j c p.erase p

-- the cell at c, if it differs
unfoldable pub draw : RowChange → ℕ → Writer
draw j c =
    if is_same j c then skip
    else if has_text (j.new c)
    then (arrive j c (span_of (j.new c)) >> color (j.new c).attrs
    >> print (j.new c) (put_unflags j.cols j.old c (j.new c)))
    else mark j c

-- a second half is drawn with the first one; in the first column it counts as empty
unfoldable pub column : RowChange → ℕ → Writer
column j c = if (j.new c).continuation && not (c == j.start) then skip else (flush j c >> draw j c)

-- n columns, from column `start` on
unfoldable pub columns : RowChange → ℕ → Writer
columns j zero = skip
columns j (suc n) = columns j n >> column j (j.start + n)

-- ---- the flag of the row

-- the column of the last cell, or of its first half
abbrev pub last_col_of : RowChange → ℕ
last_col_of j = if (j.new (j.cols - 1)).continuation then j.cols - 2 else j.cols - 1

abbrev pub last_cell_of : RowChange → CellView
last_cell_of j = j.new (last_col_of j)

-- Erasing the last cell resets the flag. A cell that has a text is printed again; an empty one is erased with its own
-- attributes.
unfoldable pub unflag : CellView → Writer
unflag x = if has_text x then erasing 1 true else (color x.attrs >> erasing 1 true)

-- the last cell is printed, and the cursor is then after it
unfoldable pub print_last : CellView → Writer
print_last x = if has_text x then (color x.attrs >> print x false) else skip

unfoldable pub mend : RowChange → CellView → Writer
mend j x = if j.wrapped then print_last x else (unflag x >> print_last x)

-- the last cell must be drawn again: the row's flag changes, or the terminal may have lost it
abbrev pub owes_end : RowChange → Pen → Bool
owes_end j p = not (bool_eq j.wrapped j.was_wrapped) || (j.wrapped && p.lost)

-- Draws the last cell again. A flag that is to be set is set by the first character of the next row.
unfoldable pub closing : RowChange → Writer
closing j p = if owes_end j p then (goto j.row (last_col_of j) >> mend j (last_cell_of j)) p else skip p

-- The terminal still has the row's flag: it had it, and can't have lost it while the row was drawn.
abbrev pub keeps_flag : RowChange → Pen → Bool
keeps_flag j p = j.was_wrapped && not p.lost

-- ---- the row

-- n columns of the row, over a row that has no flag
unfoldable pub row_redraw : RowChange → ℕ → Writer
row_redraw j n = opening j >> columns j n >> finish j

-- n columns of the row, and its flag
unfoldable pub row_difference : RowChange → ℕ → Writer
row_difference j n = row_redraw j n >> closing j

-- nothing has to be written: no cell and no flag differs, and the pen has nothing pending
pub record IsRowShown (j : RowChange) (p : Pen) : Type 0 where
  pub cells : (k : ℕ) → j.new k ≡ j.old k
  pub flag : j.wrapped ≡ j.was_wrapped
  pub unowed : owes_flag j p ≡ false
  pub closed : p.erase ≡ None
  pub unlost : p.lost ≡ false
