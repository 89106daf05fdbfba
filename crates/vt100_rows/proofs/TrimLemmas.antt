-- A row without the default cells at its end.
use Rattle.std.proofs.Common.{◌≡◌, length, take, ap, ◌∙◌, arith, length-take}
use Rattle.std.proofs.lemmas.List.{take_all}
use Rattle.vt100_cells.specs.Cell.{is_filled}
use Rattle.vt100_cells.specs.Cells.{cell_at, last_cell, trimmed_len}
use Rattle.vt100_cells.proofs.TrimLemmas.{cell_at-trimmed, trimmed_len-whole}
use Rattle.vt100_rows.specs.Row.{RowView, IsRow, trimmed}
use Rattle.vt100_rows.proofs.RowLemmas.{IsPaired-like}

pub IsRow-trimmed : (v : RowView) → IsRow v → IsRow (trimmed v)
IsRow-trimmed v r =
    let xs = v.cells in
    let same = cell_at-trimmed xs in
    record {
      paired = IsPaired-like (cell_at (take (trimmed_len xs) xs)) (cell_at xs) same r.paired;
      cells = λ k. rw (same k) (r.cells k);
      filled = λ w.
          let full = r.filled w in
          let all : take (trimmed_len xs) xs ≡ xs =
          ap (λ n. take n xs) (trimmed_len-whole xs full) ∙ take_all (length xs) xs (omega arith) in
          ap (λ l. is_filled (last_cell l)) all ∙ full;
      narrow = omega (arith, length-take (trimmed_len xs) xs, r.narrow);
    }
