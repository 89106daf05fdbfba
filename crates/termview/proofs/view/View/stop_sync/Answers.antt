use Rattle.vte.specs.Hold.{held_of}
use Rattle.termview.proofs.CallSteps.{emptied-on}
use Rattle.termview.proofs.view.View.stop_sync.Goals as goal

pub returns-clause-emptied : goal.returns-clause-emptied
returns-clause-emptied g c = λ parsed held s.
    let e = c.stop_sync.ensures.emptied parsed held s.reads in
    let n = emptied-on c.args.self.now.picture c.stop_sync.new.handler parsed held s.shows e.goes in
    record { state_after = record { reads = e.state_after; shows = n.1 }; ticked = e.ticked; size = n.0 }

pub returns-clause-exact : goal.returns-clause-exact
returns-clause-exact g c = λ parsed hold exact h.
    let e = c.stop_sync.ensures.emptied parsed (held_of hold) h.state_after.reads in
    let x = c.stop_sync.ensures.exact parsed hold exact (record {
      state_after = h.state_after.reads;
      awaits =
          h.awaits;
    }) in
    let n = emptied-on c.args.self.now.picture c.stop_sync.new.handler parsed (held_of hold) h.state_after.shows
    e.goes in
    record { state_after = record { reads = x.state_after; shows = n.1 }; awaits = x.awaits }
