use Rattle.vt100_core.proofs.PictureWriters.{cursor-of_picture}
use Rattle.vt100_core.proofs.laws.cursors_are_of_pictures.Goals as goal

pub returns : goal.returns
returns c = cursor-of_picture
