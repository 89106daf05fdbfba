use Rattle.recorded_screen.proofs.FilmLemmas.{one_more_counts}
use Rattle.recorded_screen.proofs.films.count_until.Goals as goal

pub loop-i-preserved : goal.loop-i-preserved
loop-i-preserved c =
    one_more_counts c.args.events.now c.args.moment c.loop-i.i _ c.index-events-i.result c.loop-i-test.true
    c.index-events-i.is c.if-event-moment.false c.loop-i.invariant
