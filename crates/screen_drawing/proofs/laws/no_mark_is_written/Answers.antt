use Rattle.screen_drawing.proofs.Texts.{texts-unmarked}
use Rattle.screen_drawing.proofs.laws.no_mark_is_written.Goals as goal

pub returns : goal.returns
returns c = texts-unmarked
