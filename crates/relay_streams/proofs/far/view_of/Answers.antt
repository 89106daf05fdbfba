use Rattle.std.proofs.Common.{[], None, ◌∙◌}
use Rattle.relay_streams.proofs.ViewLemmas.{size_is}
use Rattle.relay_streams.proofs.far.view_of.Goals as goal

pub returns-clause-reads : goal.returns-clause-reads
returns-clause-reads c =
    let made = c.in_ok-view.ensures in
    let l = c.give_pieces.ensures.goes [] None (made.exact (λ b e. e ∙ c.new.ensures)) in
    record {
      parsed = l.parsed';
      hold = l.hold';
      leads = l.leads;
      holds = l.holds;
      size = l.size ∙ size_is _ _ _ made.rows made.cols;
    }
