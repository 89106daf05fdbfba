use Rattle.vt100_cells.proofs.Char3Lemmas.{char3-utf8}
use Rattle.vt100_cells.proofs.cell.glyph.Char3Glyph.to_char.Goals as goal

pub from_utf8_unchecked-text-requires : goal.from_utf8_unchecked-text-requires
from_utf8_unchecked-text-requires c = rw c.from.ensures (char3-utf8 c.self.inside c.self.invariant)
