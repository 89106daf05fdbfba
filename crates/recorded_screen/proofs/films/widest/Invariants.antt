use Rattle.std.proofs.Common.{◌≡◌, take}
use Rattle.recorded_screen.specs.Film.{most_cols, most_rows}
use Rattle.recorded_screen.proofs.films.widest.Given as goal

-- the events so far
abbrev pub invariant-loop-event : goal.invariant-loop-event
invariant-loop-event l = record {
  rows : l.widest.rows.value ≡ most_rows l.moment l.fn.size (take l.event-index l.events);
  cols : l.widest.cols.value ≡ most_cols l.moment l.fn.size (take l.event-index l.events);
}
