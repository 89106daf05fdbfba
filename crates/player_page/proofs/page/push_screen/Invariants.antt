use Rattle.std.proofs.Common.{ℕ, List}
use Rattle.recordings.specs.declared.recording.Event.{Event}
use Rattle.recorded_screen.specs.Picture.{cells_shown}
use Rattle.player_page.specs.Rows.{AddsRows, IsRowOf}
use Rattle.player_page.proofs.PlayerLemmas.{SomeRows}
use Rattle.player_page.proofs.page.push_screen.Given as goal

-- rows so far
abbrev pub invariant-loop-row : goal.invariant-loop-row
invariant-loop-row l = record {
  rows : SomeRows l.look l.screen.state l.row l.fn.page l.page;
  text : (rows cols : ℕ) (events : List Event)
      → ((r : ℕ) → IsRowOf rows cols events (cells_shown l.screen.state.shown r))
      → AddsRows rows cols events l.fn.page l.page;
}
