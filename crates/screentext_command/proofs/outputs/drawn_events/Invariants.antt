use Rattle.std.proofs.Common.{◌≡◌, [], take}
use Rattle.charset_filter.specs.Filter.{HasRead}
use Rattle.recordings.specs.Recorded.{said}
use Rattle.screentext_command.specs.Drawn.{drawn_after}
use Rattle.screentext_command.proofs.DrawnLemmas.{outputs}
use Rattle.screentext_command.proofs.outputs.drawn_events.Given as goal

-- the filter has read the outputs so far, and the events so far are drawn
abbrev pub invariant-loop-event : goal.invariant-loop-event
invariant-loop-event l = record {
  reads : HasRead l.filter (outputs (said (take l.event-index l.events)));
  drawn : said l.drawn.items ≡ drawn_after [] (said (take l.event-index l.events));
}
