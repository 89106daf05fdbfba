use Rattle.vte.specs.Hold.{held_of}
use Rattle.vte.specs.Stretch.{ticks_from}
use Rattle.vte.proofs.SetLemmas.{cleared_last}
use Rattle.vte.proofs.processor.Processor.stop_sync.Goals as goal

pub returns-clause-exact : goal.returns-clause-exact
returns-clause-exact g c parsed hold exact at =
    let after = c.empty.ensures parsed
    (held_of hold) at.state_after.has_read at.state_after.printed at.state_after.holds in
    record {
      state_after = after.state_after;
      awaits = cleared_last g.T.Timeout.ticking exact _
          (ticks_from parsed (held_of hold)) _ after.ticked;
    }
