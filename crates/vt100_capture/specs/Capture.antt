-- Captures: the texts of rows with their attributes, one row after another.
use Rattle.std.specs.Prelude.{Bool, false, not, List, [], ◌∷◌, ◌++◌, if◌then◌else◌, ℕ}
use Rattle.vt100_forms.specs.declared.attrs.Attrs.{Attrs}
use Rattle.vt100_forms.specs.Attrs.{default_attrs}
use Rattle.vt100_rows.specs.Row.{RowView}
use Rattle.vt100_rows.specs.Basic.{basic_text, attrs_after_row}

-- the state between the parts of a capture
pub record CaptureView : Type 0 where
  -- the attributes that are set after the rows so far
  pub attrs : Attrs
  -- whether the last row isn't wrapped, so that a newline comes before the next
  pub newline_pending : Bool

abbrev pub new_capture : CaptureView
new_capture = record { attrs = default_attrs; newline_pending = false }

-- what a row adds to a capture
abbrev pub captured_row : CaptureView → RowView → List ℕ
captured_row s v = (if s.newline_pending then 10 ∷ [] else []) ++ basic_text v s.attrs

-- the state after a row
abbrev pub after_row : CaptureView → RowView → CaptureView
after_row s v = record { attrs = attrs_after_row v s.attrs; newline_pending = not v.wrapped }

-- what several rows add to a capture, one after another
abbrev pub captured : CaptureView → List RowView → List ℕ
captured s [] = []
captured s (v ∷ vs) = captured_row s v ++ captured (after_row s v) vs

-- the state after several rows
abbrev pub after_rows : CaptureView → List RowView → CaptureView
after_rows s [] = s
after_rows s (v ∷ vs) = after_rows (after_row s v) vs
