-- How a sheet's fields give its rows, from the top.
use Rattle.std.specs.Prelude.{ℕ, ◌+◌, ◌-◌, ◌<◌, ◌≡◌, ◌||◌, nat_lt, nat_le, List, length, map, slice_index_or}
use Rattle.std.specs.Prelude.{if◌then◌else◌}
use Rattle.vt100_rows.specs.declared.sheet.Sheet.TheInside.{Inside}
use Rattle.vt100_rows.specs.Row.{RowView}
use Rattle.vt100_rows.specs.Sheet.{row_at}

-- which of the rows in memory is the one at r
abbrev pub number_at : List ℕ → ℕ → ℕ
number_at order r = slice_index_or order r 0

-- each of the n rows in memory has one place
pub record IsOrder (n : ℕ) (order : List ℕ) : Type 0 where
  pub count : length order ≡ n
  pub below : (r : ℕ) → r < n → number_at order r < n
  pub once : (r q : ℕ) → r < n → q < n → number_at order r ≡ number_at order q → r ≡ q

-- the rows in this order
abbrev pub in_order : List RowView → List ℕ → List RowView
in_order rows order = map (λ i. row_at rows i) order

abbrev pub sheet_of : Inside → List RowView
sheet_of s = in_order s.rows.items s.order.items

abbrev pub IsSheetFields : Inside → Type 0
IsSheetFields s = IsOrder (length s.rows.items) s.order.items

-- where the row at r was before those from `first` up to `end` were turned up by n
abbrev pub turned_place : ℕ → ℕ → ℕ → ℕ → ℕ
turned_place first end n r =
    if nat_lt r first || nat_le end r then r
    else if nat_lt (r + n) end then r + n
    else r + n - (end - first)
