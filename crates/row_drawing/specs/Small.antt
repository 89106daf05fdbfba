-- Numbers that fit in the code's types: those of a row and of the forms that draw it.
use Rattle.std.specs.Prelude.{ℕ, ◌+◌, ◌^◌, ◌<◌, ◌≤◌, List, Option, Some, None}
use Rattle.std.specs.List.{AllByRecursion}
use Rattle.vt100_forms.specs.Attrs.{HasByteColors}
use Rattle.vt100_forms.specs.Form.{Form}
use Rattle.vt100_forms.specs.Length.{HasSmallNumbers}
use Rattle.row_drawing.specs.declared.pen.Erase.{Erase}
use Rattle.row_drawing.specs.declared.pen.Pen.{Pen}
use Rattle.row_drawing.specs.Writer.{Drawn}
use Rattle.row_drawing.specs.RowWriter.{RowChange, row_redraw, row_difference}

abbrev pub AreSmall : List Form → Type 0
AreSmall fs = AllByRecursion HasSmallNumbers fs

unfoldable pub SmallErase : Option Erase → Type 0
SmallErase None = Unit {0}
SmallErase (Some e) = (e.from < 2 ^ 16) × HasByteColors e.attrs

-- the numbers of the pen that get into forms
unfoldable pub IsSmallPen : Pen → Type 0
IsSmallPen p = HasByteColors p.attrs × SmallErase p.erase

pub record IsSmallJob (j : RowChange) : Type 0 where
  pub cols : j.cols < 2 ^ 16
  pub row : j.row < 2 ^ 16
  pub colors : (k : ℕ) → HasByteColors (j.new k).attrs

pub record IsSmallDrawn (d : Drawn) : Type 0 where
  pub forms : AreSmall d.forms
  pub pen : IsSmallPen d.pen

-- the forms' numbers fit, whichever columns are drawn and whatever the earlier row is
abbrev pub EachNumberIsSmall : Type 0
EachNumberIsSmall = (j : RowChange) (n : ℕ) (p : Pen) → IsSmallJob j → j.start + n ≤ j.cols → IsSmallPen p
    → IsSmallDrawn (row_redraw j n p) × IsSmallDrawn (row_difference j n p)
