-- Rows that are emptied.
use Rattle.std.proofs.Common.{◌≡◌, ℕ, ◌+◌, ◌<◌, List, length, set, arith, length-set}
use Rattle.std.proofs.lemmas.Bool.Decides.{nat_tests}
use Rattle.vt100_forms.specs.declared.attrs.Attrs.{Attrs}
use Rattle.vt100_rows.specs.Row.{RowView, cleared_row, wiped_row}
use Rattle.vt100_rows.specs.Sheet.{row_at, rows_by_position, changed_between, erased_forward_at, erased_backward_at}
use Rattle.vt100_rows.proofs.SheetLemmas.{row_at-set, read_again}

pub erases-forward : (rows ws : List RowView) (row col width : ℕ) (a : Attrs) (v : RowView) → row < length rows
    → v ≡ wiped_row (row_at rows row) col width a → (n : ℕ) → n ≡ length rows
    → ws ≡ rows_by_position (length (set rows row v))
    (changed_between (λ x. cleared_row x a) (set rows row v) (row + 1) n)
    → ws ≡ rows_by_position (length rows) (erased_forward_at rows row col width a)
erases-forward rows ws row col width a v h ev n en ew =
    let zs = set rows row v in
    let lz = length-set rows row v in
    read_again (length rows) (length zs) (changed_between (λ x. cleared_row x a) zs (row + 1) n)
    (erased_forward_at rows row col width a) ws ew lz
    (λ r k. grind (arith, nat_tests, row_at-set rows row v r h))

pub erases-backward : (rows ws : List RowView) (row end : ℕ) (a : Attrs) (v : RowView) → row < length rows
    → v ≡ wiped_row (row_at rows row) 0 end a
    → ws ≡ rows_by_position (length (set rows row v)) (changed_between (λ x. cleared_row x a) (set rows row v) 0 row)
    → ws ≡ rows_by_position (length rows) (erased_backward_at rows row end a)
erases-backward rows ws row end a v h ev ew =
    let zs = set rows row v in
    read_again (length rows) (length zs) (changed_between (λ x. cleared_row x a) zs 0 row)
    (erased_backward_at rows row end a) ws ew (length-set rows row v)
    (λ r k. grind (arith, nat_tests, row_at-set rows row v r h))
