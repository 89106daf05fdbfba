-- The text of a row that leaves, as two rows of a capture: itself, and one without columns.
use Rattle.std.proofs.Common.{◌≡◌, ℕ, Bool, true, false, not, List, [], ◌∷◌, ◌++◌, refl}
use Rattle.std.specs.Prelude.{if◌then◌else◌}
use Rattle.vt100_forms.specs.Attrs.{default_attrs}
use Rattle.vt100_rows.specs.Row.{RowView, blank_row}
use Rattle.vt100_rows.specs.Basic.{basic_text}
use Rattle.vt100_capture.specs.Capture.{new_capture, captured_row, after_row}
use Rattle.c_objects.specs.Requests.{left_text}

ended : (wrapped : Bool) (text : List ℕ) → text ++ ((if not wrapped then 10 ∷ [] else []) ++ [])
    ≡ text ++ (if wrapped then [] else 10 ∷ [])
ended true text = refl
ended false text = refl

pub row_is_ended : (v : RowView) → captured_row new_capture v ++ captured_row (after_row new_capture v) (blank_row 0)
    ≡ left_text v
row_is_ended v = ended v.wrapped (basic_text v default_attrs)
