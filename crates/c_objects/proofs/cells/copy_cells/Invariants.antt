use Rattle.std.proofs.Common.{◌≡◌, ◌++◌, map, take, drop}
use Rattle.c_objects.specs.Looks.{cell_of}
use Rattle.c_objects.proofs.cells.copy_cells.Given as goal

-- the cells before i are copied
abbrev pub invariant-loop-i : goal.invariant-loop-i
invariant-loop-i l = l.to ≡ take l.i (map cell_of l.cells) ++ drop l.i l.initial.to
