use Rattle.vt100_core.proofs.PictureWriters.{differing-of_pictures}
use Rattle.vt100_core.proofs.laws.differences_are_of_pictures.Goals as goal

pub returns : goal.returns
returns c = differing-of_pictures
