-- How many columns there are up to the last cell that shows something, column by column.
use Rattle.std.proofs.Common.{◌≡◌, ◌+◌, ℕ, suc, Bool, true, false, List, Option, sym, ap, ◌∙◌, add-one}
use Rattle.std.specs.Prelude.{if◌then◌else◌}
use Rattle.vt100_cells.specs.Cell.{CellView}
use Rattle.row_pictures.specs.Unpadded.{shows_at, unpadded_columns}

test_at : (cells : List CellView) (cursor : Option ℕ) (i : ℕ) (b : Bool) → shows_at cells cursor i ≡ b
    → unpadded_columns cells cursor (suc i) ≡ (if b then suc i else unpadded_columns cells cursor i)
test_at cells cursor i b on = ap (λ t. if t then suc i else unpadded_columns cells cursor i) on

-- the next cell shows something
pub shown_next : (cells : List CellView) (cursor : Option ℕ) (i : ℕ) → shows_at cells cursor i ≡ true
    → i + 1 ≡ unpadded_columns cells cursor (i + 1)
shown_next cells cursor i on = rw add-one (sym (test_at cells cursor i true on))

-- the next cell shows nothing
pub hidden_next : (cells : List CellView) (cursor : Option ℕ) (i end : ℕ) → shows_at cells cursor i ≡ false
    → end ≡ unpadded_columns cells cursor i → end ≡ unpadded_columns cells cursor (i + 1)
hidden_next cells cursor i end off before = rw add-one (before ∙ sym (test_at cells cursor i false off))
