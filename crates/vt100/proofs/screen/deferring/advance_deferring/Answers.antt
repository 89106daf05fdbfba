use Rattle.vt100.proofs.DeferringLemmas.{reported_settled, keeps_name}
use Rattle.vt100.proofs.screen.deferring.advance_deferring.Goals as goal

pub returns-clause-reported : goal.returns-clause-reported
returns-clause-reported g c =
    reported_settled g.CB.Callbacks.step g.CB.Callbacks.scrolls _ _ _ _ c.advance.ensures.reported

pub returns-clause-same : goal.returns-clause-same
returns-clause-same g c =
    keeps_name g.CB.Callbacks.step g.CB.Callbacks.scrolls _ _ _ c.advance.ensures.reported.performed
