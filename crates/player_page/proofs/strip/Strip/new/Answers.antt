use Rattle.std.proofs.Common.{ap, map}
use Rattle.player_page.proofs.MomentLemmas.{no_strip}
use Rattle.player_page.proofs.strip.Strip.new.Goals as goal

pub returns : goal.returns
returns c = λ look size events.
    no_strip look size events _ c.new.ensures (ap (map (λ v. v.items)) c.new-3.ensures.empty) c.new-2.ensures
    c.new-4.ensures.items
