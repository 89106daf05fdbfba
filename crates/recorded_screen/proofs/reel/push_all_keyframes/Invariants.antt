use Rattle.std.proofs.Common.{◌≡◌, ◌++◌, map, take}
use Rattle.recorded_screen.specs.Reel.{numbered, track_times}
use Rattle.recorded_screen.specs.Shots.{track_of}
use Rattle.recorded_screen.proofs.reel.push_all_keyframes.Given as goal

-- the tracks so far
abbrev pub invariant-loop-number : goal.invariant-loop-number
invariant-loop-number l =
    l.page ≡ l.fn.page ++ numbered (track_times l.cols l.showing) 0 (take l.number (map track_of l.tracks))
