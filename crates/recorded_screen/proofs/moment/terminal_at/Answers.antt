use Rattle.std.proofs.Common.{[]}
use Rattle.recorded_screen.proofs.moment.terminal_at.Goals as goal

pub returns-clause-shows : goal.returns-clause-shows
returns-clause-shows c = c.in_ok-play.ensures.shows _ _ _ [] c.in_ok-parser.ensures.state_after
