-- All rows of a screen, drawn one after the other from the top.
use Rattle.std.specs.Prelude.{ℕ, zero, suc, Bool, false, not, ◌&&◌, None}
use Rattle.vt100_forms.specs.declared.attrs.Attrs.{Attrs}
use Rattle.terminal_model.specs.Term.{Size, Shown, blank_shown}
use Rattle.row_drawing.specs.declared.pen.Pen.{Pen}
use Rattle.row_drawing.specs.Writer.{Writer, ◌>>◌, skip}
use Rattle.row_drawing.specs.RowWriter.{RowChange, row_redraw, row_difference}

-- the pen of a terminal with this cursor and these attributes
abbrev pub pen_at : ℕ → ℕ → Attrs → Pen
pen_at row col a = record { pos = record { row = row; col = col }; attrs = a; erase = None; lost = false }

-- the pen at the start of a row, whose flag the terminal can't have lost yet
abbrev pub afresh : Pen → Pen
afresh p = record p { lost = false }

-- whether the row above row i wraps into it
abbrev pub is_continued : (ℕ → Bool) → ℕ → Bool
is_continued wrapped zero = false
is_continued wrapped (suc i) = wrapped i

-- ---- one row after the other

-- how each row is drawn, given whether the terminal has the flag of the row above
abbrev pub RowWriters : Type 0
RowWriters = ℕ → Bool → Writer

-- Row i, after those above. `had i` says whether the terminal had the flag of the row above. It still has it, unless it
-- lost it when that row was drawn.
unfoldable pub next_row : (ℕ → Bool) → RowWriters → ℕ → Writer
next_row had rows i p = rows i (had i && not p.lost) (afresh p)

-- the first n rows, from the top
unfoldable pub in_turn : (ℕ → Bool) → RowWriters → ℕ → Writer
in_turn had rows zero = skip
in_turn had rows (suc n) = in_turn had rows n >> next_row had rows n

-- on a blank screen
abbrev pub no_flags : ℕ → Bool
no_flags i = false

-- ---- the rows of a picture

-- row i of the new picture, drawn over that of the old one; `flagged` says whether the terminal has the flag of the row
-- above
abbrev pub row_job : Size → Shown → Shown → ℕ → Bool → RowChange
row_job z old new i flagged = record {
  cols = z.cols;
  row = i;
  start = 0;
  old = old.cell i;
  new = new.cell i;
  wrapped = new.wrapped i;
  was_wrapped = old.wrapped i;
  above = is_continued new.wrapped i;
  was_above = flagged;
}

-- on a blank screen
abbrev pub redraws_of : Size → Shown → RowWriters
redraws_of z s i flagged = row_redraw (row_job z blank_shown s i flagged) z.cols

abbrev pub rows_redraw : Size → Shown → ℕ → Writer
rows_redraw z s = in_turn no_flags (redraws_of z s)

-- over an old picture
abbrev pub differences_of : Size → Shown → Shown → RowWriters
differences_of z old new i flagged = row_difference (row_job z old new i flagged) z.cols

abbrev pub rows_difference : Size → Shown → Shown → ℕ → Writer
rows_difference z old new = in_turn (is_continued old.wrapped) (differences_of z old new)
