use Rattle.vt100_core.proofs.PictureWriters.{redrawn-of_picture}
use Rattle.vt100_core.proofs.laws.redraws_are_of_pictures.Goals as goal

pub returns : goal.returns
returns c = redrawn-of_picture
