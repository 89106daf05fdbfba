use Rattle.std.proofs.Common.{◌≡◌, ◌+◌, ◌≤◌, ◌<◌, ℕ, true, length}
use Rattle.std.specs.Prelude.{encode_utf8_all}
use Rattle.vt100_cells.specs.CellFields.{fits_start}
use Rattle.vt100_cells.specs.Cells.{cell_at}
use Rattle.vt100_cells.proofs.line.have_same_eight.Given as goal

-- so far cells with short texts are the same, and no text is longer than `longest`
abbrev pub invariant-loop-k : goal.invariant-loop-k
invariant-loop-k l = record {
  same : l.same ≡ true → (j : ℕ) → l.i ≤ j → j < l.i + l.k → fits_start (cell_at l.cells j).text ≡ true
      → cell_at l.cells j ≡ cell_at l.others j;
  longest : (j : ℕ) → l.i ≤ j → j < l.i + l.k → length (encode_utf8_all (cell_at l.cells j).text) ≤ l.longest;
}
