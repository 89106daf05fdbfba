use Rattle.std.proofs.Common.{arith, refl}
use Rattle.vt100_cells.specs.Cell.{empty_cell}
use Rattle.vt100_cells.proofs.EditLemmas.{wipes}
use Rattle.vt100_cells.proofs.line.wipe.Goals as goal

pub returns : goal.returns
returns c =
    wipes c.args.cells.now c.clear_left.new.cells c.clear_right.new.cells _ c.args.s c.args.e _ c.args.attrs
    (empty_cell c.args.attrs) c.requires.some c.requires.in_row (omega arith)
    c.clear_left.ensures c.clear_right.ensures c.clear.ensures refl
