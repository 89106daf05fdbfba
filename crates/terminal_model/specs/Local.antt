-- Where two pictures of one size differ, and the cells that a redraw from one to the other may touch (local cells).
use Rattle.std.specs.Prelude.{ℕ, ◌+◌, ◌-◌, ◌<◌, ◌≡◌, ◌⊎◌, true, false, ◌||◌}
use Rattle.vt100_cells.specs.Cell.{is_filled}
use Rattle.terminal_model.specs.Term.{Size, Shown}

-- row r differs in a cell, or in whether it wraps into the next one
abbrev pub DiffersIn : Size → Shown → Shown → ℕ → Type 0
DiffersIn z old new r = ((k : ℕ) × (k < z.cols) × (old.cell r k ≡ new.cell r k → ⊥))
    ⊎ (old.wrapped r ≡ new.wrapped r → ⊥)

-- row r differs, or the row right above it
abbrev pub IsNear : Size → Shown → Shown → ℕ → Type 0
IsNear z old new r = DiffersIn z old new r ⊎ ((0 < r) × DiffersIn z old new (r - 1))

-- The cell differs. Or its row is near a difference, and the cell is empty in the new picture, or in the first or the
-- last column.
abbrev pub IsCloseCell : Size → Shown → Shown → ℕ → ℕ → Type 0
IsCloseCell z old new r k = (old.cell r k ≡ new.cell r k → ⊥)
    ⊎ (IsNear z old new r × ((is_filled (new.cell r k) ≡ false) ⊎ ((k ≡ 0) ⊎ (k + 1 ≡ z.cols))))

-- such a cell, or the other half of one in either picture
abbrev pub IsLocal : Size → Shown → Shown → ℕ → ℕ → Type 0
IsLocal z old new r k =
    IsCloseCell z old new r k
    ⊎ (((0 < k) × (((old.cell r (k - 1)).wide || (new.cell r (k - 1)).wide) ≡ true) × IsCloseCell z old new r (k - 1))
    ⊎ ((((old.cell r (k + 1)).continuation || (new.cell r (k + 1)).continuation) ≡ true)
    × IsCloseCell z old new r (k + 1)))

-- the last column, or the first half of a wide cell that ends there in either picture
abbrev pub IsAtEnd : Size → Shown → Shown → ℕ → ℕ → Type 0
IsAtEnd z old new r k = (k + 1 ≡ z.cols) ⊎ ((k + 2 ≡ z.cols) × (((old.cell r k).wide || (new.cell r k).wide) ≡ true))

-- a local cell; or, if the new cursor is past the last column, the last cell of row `end`
abbrev pub IsLocalOrEnd : Size → Shown → Shown → ℕ → ℕ → ℕ → Type 0
IsLocalOrEnd z old new end r k = IsLocal z old new r k ⊎ ((new.col ≡ z.cols) × (r ≡ end) × IsAtEnd z old new r k)
