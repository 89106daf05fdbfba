use Rattle.std.proofs.Common.{◌≡◌, ◌+◌, drop}
use Rattle.recorded_screen.specs.Film.{count_until}
use Rattle.recorded_screen.proofs.films.count_until.Given as goal

-- the events so far come no later
abbrev pub invariant-loop-i : goal.invariant-loop-i
invariant-loop-i l = count_until l.moment l.events ≡ l.i + count_until l.moment (drop l.i l.events)
