use Rattle.std.proofs.Common.{◌≡◌, take, true}
use Rattle.vt100_cells.specs.Cell.{text_eq}
use Rattle.vt100_cells.proofs.cell_text.have_same_rest.Given as goal

-- where the first 5 bytes are the same, `same` says whether the first i are
abbrev pub invariant-loop-i : goal.invariant-loop-i
invariant-loop-i l = text_eq (take 5 l.bytes) (take 5 l.others) ≡ true
    → l.same ≡ text_eq (take l.i l.bytes) (take l.i l.others)
