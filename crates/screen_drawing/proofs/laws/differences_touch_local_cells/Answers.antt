use Rattle.screen_drawing.proofs.LocalScreens.{grid-local, contents-local, difference-local}
use Rattle.screen_drawing.proofs.laws.differences_touch_local_cells.Goals as goal

pub returns-clause-grids : goal.returns-clause-grids
returns-clause-grids c = grid-local

pub returns-clause-contents : goal.returns-clause-contents
returns-clause-contents c = contents-local

pub returns-clause-states : goal.returns-clause-states
returns-clause-states c = difference-local
