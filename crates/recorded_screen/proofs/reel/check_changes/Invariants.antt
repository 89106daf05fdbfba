use Rattle.std.proofs.Common.{◌≤◌, map, take}
use Rattle.recorded_screen.specs.Reel.{changes_in}
use Rattle.recorded_screen.specs.Shots.{track_of}
use Rattle.recorded_screen.proofs.reel.check_changes.Given as goal

-- the changes of the tracks so far, as far as they fit
abbrev pub invariant-loop-track : goal.invariant-loop-track
invariant-loop-track l = l.changes ≤ changes_in (take l.track-index (map track_of l.tracks))
