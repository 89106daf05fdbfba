use Rattle.std.proofs.Common.{◌≡◌, ◌+◌, drop}
use Rattle.recorded_screen.specs.Reel.{shots_until}
use Rattle.recorded_screen.proofs.reel.shots_until.Given as goal

-- the shots so far come no later
abbrev pub invariant-loop-i : goal.invariant-loop-i
invariant-loop-i l = shots_until l.time l.shots ≡ l.i + shots_until l.time (drop l.i l.shots)
