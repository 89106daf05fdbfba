use Rattle.vt100_cells.proofs.WidthLemmas.{space_is_drawn}
use Rattle.vt100_cells.proofs.cell.packed.PackedAttrs.of.Goals as goal

pub of_char-requires-clause-drawn : goal.of_char-requires-clause-drawn
of_char-requires-clause-drawn c = space_is_drawn
