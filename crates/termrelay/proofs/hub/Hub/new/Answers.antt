use Rattle.std.proofs.Common.{ap, rules}
use Rattle.vt100_core.specs.Picture.{grid_size}
use Rattle.termrelay.specs.Frames.{FramesView}
use Rattle.termrelay.proofs.HubLemmas.{none-numbered}
use Rattle.termrelay.proofs.hub.Hub.new.Goals as goal

pub invariant_of-result : goal.invariant_of-result
invariant_of-result c = record {
  made = search rules;
  served = search rules;
  latest = rw c.new-3.ensures tt;
  numbered = λ live few.
      none-numbered (grid_size c.in_ok-new.field-0.screen.state.shown) c.new-2.result c.new-3.result
      c.new-2.ensures.empty (ap (λ (v : FramesView). v.latest) c.new-3.ensures);
}
