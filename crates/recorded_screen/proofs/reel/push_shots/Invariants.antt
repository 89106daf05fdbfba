use Rattle.std.proofs.Common.{◌≡◌, ◌++◌, take}
use Rattle.std.specs.List.{flat_map}
use Rattle.recorded_screen.specs.Reel.{shot_bytes}
use Rattle.recorded_screen.proofs.reel.push_shots.Given as goal

-- the shots so far
abbrev pub invariant-loop-shot : goal.invariant-loop-shot
invariant-loop-shot l =
    l.page ≡ l.fn.page ++ flat_map (shot_bytes l.cols l.film_length) (take l.shot-index l.shots)
