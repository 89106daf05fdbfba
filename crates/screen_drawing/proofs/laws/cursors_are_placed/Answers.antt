use Rattle.screen_drawing.proofs.Cursor.{cursor-placed}
use Rattle.screen_drawing.proofs.laws.cursors_are_placed.Goals as goal

pub returns : goal.returns
returns c = cursor-placed
