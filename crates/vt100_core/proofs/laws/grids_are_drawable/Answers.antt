use Rattle.vt100_core.proofs.PictureWriters.{grid-drawable}
use Rattle.vt100_core.proofs.laws.grids_are_drawable.Goals as goal

pub returns : goal.returns
returns c = grid-drawable
