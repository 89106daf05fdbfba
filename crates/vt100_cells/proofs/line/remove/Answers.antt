use Rattle.vt100_cells.proofs.ShiftLemmas.{removes}
use Rattle.vt100_cells.proofs.line.remove.Goals as goal

pub returns : goal.returns
returns c = removes c.args.cells.now c.clear_left.new.cells c.clear_right.new.cells c.shift_left.new.cells c.args.s
    c.args.n c.requires.in_row c.requires.some c.clear_left.ensures c.clear_right.ensures c.shift_left.ensures
