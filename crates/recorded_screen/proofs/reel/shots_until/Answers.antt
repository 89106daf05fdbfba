use Rattle.recorded_screen.specs.declared.reel.Shot.{Shot}
use Rattle.recorded_screen.proofs.ReelLemmas.{one_shot_counts}
use Rattle.recorded_screen.proofs.reel.shots_until.Goals as goal

pub loop-i-preserved : goal.loop-i-preserved
loop-i-preserved c =
    let none : Shot = record { time = 0; place = 0 } in
    one_shot_counts c.args.shots.now c.args.time c.loop-i.i _ none c.loop-i-test.true c.if-shot-time.false
    c.loop-i.invariant
