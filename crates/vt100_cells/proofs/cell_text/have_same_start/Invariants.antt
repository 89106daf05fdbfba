use Rattle.std.proofs.Common.{◌≡◌, take}
use Rattle.vt100_cells.specs.Cell.{text_eq}
use Rattle.vt100_cells.proofs.cell_text.have_same_start.Given as goal

-- the first i bytes are the same
abbrev pub invariant-loop-i : goal.invariant-loop-i
invariant-loop-i l = l.same ≡ text_eq (take l.i l.bytes) (take l.i l.others)
