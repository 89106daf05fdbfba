use Rattle.std.proofs.Common.{get_or}
use Rattle.std.proofs.lemmas.List.{take_more}
use Rattle.recorded_screen.specs.Reel.{shot_bytes}
use Rattle.recorded_screen.specs.declared.reel.Shot.{Shot}
use Rattle.recorded_screen.proofs.ReelLemmas.{shots_more}
use Rattle.recorded_screen.proofs.reel.push_shots.Goals as goal

pub loop-shot-preserved : goal.loop-shot-preserved
loop-shot-preserved c =
    let shots = c.args.shots.now in
    let i = c.loop-shot.shot-index in
    let none : Shot = record { time = 0; place = 0 } in
    shots_more (shot_bytes c.args.cols c.args.film_length) _ _ _ shots i (get_or shots i none)
    (take_more shots i none c.loop-shot-test.true) c.loop-shot.invariant c.in_ok-push_time.ensures
