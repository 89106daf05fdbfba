use Rattle.std.proofs.Common.{◌≡◌, ◌++◌, ℕ, false, List, take}
use Rattle.vt100.specs.Parsing.{ParserIsAfter}
use Rattle.screen_model.specs.Made.{Act}
use Rattle.recorded_screen.specs.Moment.{acts_until}
use Rattle.recorded_screen.proofs.moment.play.Given as goal

-- the events so far have been counted in, and the screen hasn't failed
abbrev pub invariant-loop-event : goal.invariant-loop-event
invariant-loop-event l = record {
  live : l.parser.screen.failed ≡ false;
  shows : (rows cols capacity : ℕ) (acts : List Act) → ParserIsAfter l.fn.parser rows cols capacity acts
      → ParserIsAfter l.parser rows cols capacity (acts ++ acts_until l.moment (take l.event-index l.events));
}
