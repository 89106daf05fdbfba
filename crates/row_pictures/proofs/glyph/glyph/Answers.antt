use Rattle.std.proofs.Common.{refl}
use Rattle.row_pictures.proofs.DrawnLemmas.{get_or_now}
use Rattle.row_pictures.proofs.glyph.glyph.Goals as goal

pub returns : goal.returns
returns c = rw get_or_now refl
