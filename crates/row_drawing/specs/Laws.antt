-- What the redraw and the difference of a row make of a terminal.
use Rattle.std.specs.Prelude.{ℕ, ◌≡◌, true, false}
use Rattle.vt100_cells.specs.Cell.{default_cell}
use Rattle.terminal_model.specs.Term.{Shown}
use Rattle.terminal_model.specs.Apply.{run}
use Rattle.terminal_model.specs.Touch.{Within}
use Rattle.terminal_model.specs.Local.{IsNear, IsLocal}
use Rattle.row_drawing.specs.declared.pen.Pen.{Pen}
use Rattle.row_drawing.specs.Writer.{skip}
use Rattle.row_drawing.specs.RowWriter.{RowChange, IsRowShown, row_redraw, row_difference}
use Rattle.row_drawing.specs.Texts.{AllDrawing, IsTextOf}
use Rattle.row_drawing.specs.Scene.{Scene, IsScene, IsReady, IsDrawn, scene_size, with_row}

-- A terminal that shows the earlier row, and reads the difference, shows the present one. Nothing else changes but the
-- flag of the row above.
abbrev pub EachDifferenceLeads : Type 0
EachDifferenceLeads = (s : Scene) (p : Pen) → IsScene s → IsReady s p
    → IsDrawn s (row_difference s.row_change s.row_change.cols p).pen
    (run (scene_size s) (row_difference s.row_change s.row_change.cols p).forms
    (with_row s s.row_change.old s.flags p.pos.row p.pos.col p.attrs))

-- the same of the redraw, if the earlier row has default cells and no flag
abbrev pub EachRedrawLeads : Type 0
EachRedrawLeads = (s : Scene) (p : Pen) → IsScene s → IsReady s p → ((k : ℕ) → s.row_change.old k ≡ default_cell)
    → s.row_change.was_wrapped ≡ false
    → IsDrawn s (row_redraw s.row_change s.row_change.cols p).pen
    (run (scene_size s) (row_redraw s.row_change s.row_change.cols p).forms
    (with_row s s.row_change.old s.flags p.pos.row p.pos.col p.attrs))

-- nothing is written for a row that stays, whatever number of its columns is drawn
abbrev pub EachKeptRowIsLeft : Type 0
EachKeptRowIsLeft = (j : RowChange) (n : ℕ) (p : Pen) → IsRowShown j p → row_difference j n p ≡ skip p

-- The forms set no mode and no cursor style. Each text in them is a space or the text of a cell of the row, whichever
-- columns are drawn.
abbrev pub EachTextIsDrawn : Type 0
EachTextIsDrawn = (j : RowChange) (n : ℕ) (p : Pen) → AllDrawing (IsTextOf j.new) (row_redraw j n p).forms
    × AllDrawing (IsTextOf j.new) (row_difference j n p).forms

-- The row of the job is a row of two pictures of the screen, an earlier and a present one. If the row above wraps and
-- has no flag in the terminal, one of the two rows differs.
pub record IsPictured (s : Scene) (old new : Shown) : Type 0 where
  pub old_cells : old.cell s.row_change.row ≡ s.row_change.old
  pub new_cells : new.cell s.row_change.row ≡ s.row_change.new
  pub old_flag : old.wrapped s.row_change.row ≡ s.row_change.was_wrapped
  pub new_flag : new.wrapped s.row_change.row ≡ s.row_change.wrapped
  pub above : s.row_change.above ≡ true → s.row_change.was_above ≡ false → IsNear (scene_size s) old new
      s.row_change.row

-- the difference touches only local cells
abbrev pub EachDifferenceIsLocal : Type 0
EachDifferenceIsLocal = (s : Scene) (old new : Shown) (p : Pen) → IsScene s → IsReady s p → IsPictured s old new
    → Within (IsLocal (scene_size s) old new) (scene_size s) (row_difference s.row_change s.row_change.cols p).forms
    (with_row s s.row_change.old s.flags p.pos.row p.pos.col p.attrs)
