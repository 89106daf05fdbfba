use Rattle.std.proofs.Common.{◌≡◌, false, map, take}
use Rattle.vt100.specs.Parsing.{ParserIsAfter}
use Rattle.recordings.specs.declared.recording.Event.{Event}
use Rattle.recorded_screen.specs.Moment.{act_of}
use Rattle.recorded_screen.proofs.FilmLemmas.{IsTaken}
use Rattle.recorded_screen.proofs.films.film.Given as goal

-- the events so far were applied, and the screens after them were handled
abbrev pub invariant-loop-i : goal.invariant-loop-i
invariant-loop-i l = record {
  live : l.terminal.screen.failed ≡ false;
  after : ParserIsAfter l.terminal l.fn.size.rows.value l.fn.size.cols.value 0
      (map (λ (e : Event). act_of e.change) (take l.i l.events));
  taken : IsTaken l.look l.fn.size l.pace l.moment l.events l.reel l.i;
}
