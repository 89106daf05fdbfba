use Rattle.std.proofs.Common.{arith}
use Rattle.recorded_screen.proofs.ReelLemmas.{changes_more}
use Rattle.recorded_screen.proofs.reel.check_changes.Goals as goal

pub loop-track-preserved : goal.loop-track-preserved
loop-track-preserved c =
    changes_more c.args.tracks.now c.loop-track.track-index c.track-item.result c.loop-track.changes
    c.saturating_add-changes.result c.loop-track-test.true c.track-item.is c.loop-track.invariant
    (let own = c.changes.ensures in let sum = c.saturating_add-changes.ensures in omega arith)
