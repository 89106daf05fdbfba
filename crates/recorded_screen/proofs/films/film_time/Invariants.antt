use Rattle.std.proofs.Common.{◌≡◌}
use Rattle.recorded_screen.specs.Film.{film_time}
use Rattle.recorded_screen.proofs.films.film_time.Given as goal

-- the time so far
abbrev pub invariant-loop-i : goal.invariant-loop-i
invariant-loop-i l = l.time ≡ film_time l.pace l.events l.i
