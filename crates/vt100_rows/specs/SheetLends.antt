-- What a sheet ends as, where a `&mut` to one of its rows is returned.
use Rattle.std.specs.Prelude.{ℕ, List, slice_set}
use Rattle.std.specs.Borrow.{Lends, MutBor, Fml}
use Rattle.vt100_rows.specs.Row.{RowView}
use Rattle.vt100_rows.specs.contracts.sheet.Sheet.{the_row}
use Rattle.vt100_rows.specs.contracts.row.Row.{the_row as row_row}

-- once the borrow ends, the row at r is the last value written through it
abbrev pub lends_row : MutBor (List RowView) → ℕ → MutBor RowView → Fml
lends_row s r row = Lends the_row row_row s row (λ v. slice_set s.now r v)
