use Rattle.std.proofs.Common.{arith}
use Rattle.vt100_cells.proofs.CellTexts.{text-short}
use Rattle.c_objects.proofs.look.set_cell.Goals as goal

pub byte_of-to-requires : goal.byte_of-to-requires
byte_of-to-requires c = grind (arith, text-short c.args.cell.now c.width_of-width.ensures.valid)
