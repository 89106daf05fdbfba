use Rattle.std.proofs.Common.{◌≡◌, map, replicate}
use Rattle.recorded_screen.specs.Reel.{no_track}
use Rattle.recorded_screen.specs.Shots.{track_of}
use Rattle.recorded_screen.proofs.reel.empty_tracks.Given as goal

-- the tracks so far
abbrev pub invariant-loop : goal.invariant-loop
invariant-loop l = map track_of l.tracks.items ≡ replicate l.counter no_track
