use Rattle.screen_drawing.proofs.Cursor.{cursor-state_set}
use Rattle.screen_drawing.proofs.laws.cursor_states_are_set.Goals as goal

pub returns : goal.returns
returns c = cursor-state_set
