use Rattle.std.proofs.Common.{refl}
use Rattle.picture_page.proofs.laws.examples_hold.Goals as goal

pub returns : goal.returns
returns c = record { digit = refl; label = refl; letter = refl; escaped = refl }
