use Rattle.std.proofs.Common.{◌≡◌}
use Rattle.recorded_screen.specs.Shots.{IsReel}
use Rattle.recorded_screen.proofs.FilmLemmas.{AreTaken}
use Rattle.recorded_screen.proofs.films.shoot.Given as goal

-- the rows so far are shown
abbrev pub invariant-loop-row : goal.invariant-loop-row
invariant-loop-row l = record {
  reel : IsReel l.reel;
  taken : AreTaken l.look l.screen.state l.time l.fn.reel l.reel l.row;
}
