use Rattle.std.proofs.Common.{false}
use Rattle.vte.specs.Closings.{clearings}
use Rattle.vte.proofs.ClosingLemmas.{advanced_parsed, taken_parsed}
use Rattle.termview.proofs.CallSteps.{goes-on}
use Rattle.termview.proofs.view.View.advance.Goals as goal

pub returns-clause-advanced : goal.returns-clause-advanced
returns-clause-advanced g c = λ parsed held s.
    let a = c.advance.ensures.advanced parsed held s.reads in
    let p = advanced_parsed g.T.Timeout.ticking false _ parsed held _ _ a.parsed'
    a.held' a.calls a.advances in
    let n = goes-on c.args.self.now.picture c.advance.new.handler parsed a.parsed' (clearings p.0) a.calls s.shows p.2
    a.goes in
    record {
      parsed' = a.parsed';
      held' = a.held';
      calls = a.calls;
      advances = a.advances;
      state_after = record { reads = a.state_after; shows = n.1 };
      size = n.0;
    }

pub returns-clause-exact : goal.returns-clause-exact
returns-clause-exact g c = λ parsed hold exact h.
    let a = c.advance.ensures.exact parsed hold exact (record {
      state_after = h.state_after.reads;
      awaits =
          h.awaits;
    }) in
    let l = a.leads in
    let p = taken_parsed parsed hold _ l.parsed' l.hold' l.calls l.ticks l.takes in
    let n = goes-on c.args.self.now.picture c.advance.new.handler parsed l.parsed' (clearings l.ticks) l.calls
    h.state_after.shows p a.goes in
    record {
      leads = l;
      state_after = record {
        state_after = record { reads = a.state_after.state_after; shows = n.1 };
        awaits = a.state_after.awaits;
      };
      size = n.0;
    }
