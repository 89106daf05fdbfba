use Rattle.std.proofs.Common.{◌≡◌, ℕ, List, length}
use Rattle.recordings.specs.declared.recording.Event.{Event}
use Rattle.recordings.specs.declared.recording.ScreenSize.{ScreenSize}
use Rattle.recorded_screen.specs.Film.{state_after}
use Rattle.player_page.specs.Strips.{AreNumbers, IsDrawn}
use Rattle.player_page.proofs.strip.Strip.row_numbers.Given as goal

-- the numbers of the rows so far
abbrev pub invariant-loop-row : goal.invariant-loop-row
invariant-loop-row l = record {
  count : length l.numbers.items ≡ l.row;
  numbers : AreNumbers l.look l.screen.state l.fn.self l.self l.numbers.items;
  drawn : (size : ScreenSize) (events : List Event) (n : ℕ) → l.screen.state ≡ state_after size events n
      → IsDrawn l.look size events l.fn.self → IsDrawn l.look size events l.self;
}
