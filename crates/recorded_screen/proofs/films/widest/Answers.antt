use Rattle.std.proofs.Common.{nat_le}
use Rattle.std.specs.Prelude.{if◌then◌else◌}
use Rattle.recorded_screen.specs.Film.{cols_set, rows_set}
use Rattle.recorded_screen.proofs.FilmLemmas.{most_more}
use Rattle.recorded_screen.proofs.films.widest.Goals as goal

pub loop-event-preserved : goal.loop-event-preserved
loop-event-preserved c =
    let events = c.args.events.now in
    let moment = c.args.moment in
    let i = c.loop-event.event-index in
    record {
      rows = most_more (λ e. if nat_le e.time moment then rows_set e.change else 0) c.args.size.rows.value events i
          c.event-item.result _ _ c.loop-event-test.true c.event-item.is c.loop-event.invariant.rows
          c.widened-widest.ensures.rows;
      cols = most_more (λ e. if nat_le e.time moment then cols_set e.change else 0) c.args.size.cols.value events i
          c.event-item.result _ _ c.loop-event-test.true c.event-item.is c.loop-event.invariant.cols
          c.widened-widest.ensures.cols;
    }
