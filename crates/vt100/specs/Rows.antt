-- The rows of a screen, one by one: what is written of each.
use Rattle.std.specs.Prelude.{ℕ, Bool, List}
use Rattle.vt100_rows.specs.Row.{RowView}
use Rattle.vt100.specs.declared.screen.rows.Writing.{Writing}
use Rattle.vt100.specs.declared.screen.rows.Writing.TheVariants.{Text, Formatted, Diff}
use Rattle.vt100.specs.Texts.{row_texts}
use Rattle.vt100.specs.Writers.{each_formatted, each_diff}

-- columns `start` to `start + width` of each row, of which the first one is row i; `above` says whether the row above
-- goes on in it
abbrev pub each_row : Writing → Bool → ℕ → ℕ → ℕ → List RowView → List (List ℕ)
each_row Text above start width i rows = row_texts start width rows
each_row (Formatted whole) above start width i rows = each_formatted start width whole i above rows
each_row (Diff prev) above start width i rows = each_diff start width i rows prev
