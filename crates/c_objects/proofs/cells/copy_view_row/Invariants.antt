use Rattle.std.proofs.Common.{◌≡◌, ◌++◌, map, take, drop}
use Rattle.vt100_cells.specs.Cells.{by_position}
use Rattle.termview.specs.Standing.{shown_by}
use Rattle.c_objects.specs.Looks.{cell_of}
use Rattle.c_objects.proofs.cells.copy_view_row.Given as goal

-- the cells before the column are copied
abbrev pub invariant-loop-col : goal.invariant-loop-col
invariant-loop-col l =
    l.to ≡ take l.col (map cell_of (by_position l.cols ((shown_by l.view).cell l.row))) ++ drop l.col l.initial.to
