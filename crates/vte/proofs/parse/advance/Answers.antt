use Rattle.vte_core.proofs.AddedLemmas.{added-fits, added-is}
use Rattle.vte_core.proofs.Telling.{same_events}
use Rattle.vte.specs.Stretch.{added}
use Rattle.vte.proofs.RunLemmas.{performs_all, keeps_all}
use Rattle.vte.proofs.parse.advance.Goals as goal

pub returns-clause-same_handler : goal.returns-clause-same_handler
returns-clause-same_handler g c = keeps_all (λ p. p.handler.ghost_name) _ (λ p e q s. s.1) _ _ _
    c.advance.ensures.reported.performed

pub returns-clause-same_state : goal.returns-clause-same_state
returns-clause-same_state g c = keeps_all (λ p. p.state.ghost_name) _ (λ p e q s. s.2) _ _ _
    c.advance.ensures.reported.performed

pub returns-clause-performed : goal.returns-clause-performed
returns-clause-performed g c past state_after =
    let reported = c.advance.ensures.reported in
    let is = added-is 1024 past c.args.bytes.now reported.reported (reported.added past state_after) in
    performs_all g.H.Handler.step g.T.Timeout.ticking (λ p. p.handler.now) (λ p. p.state.now)
    (λ p. p.terminated) _ (λ p e q s. s.0) _
    (added past c.args.bytes.now) _ (added-fits 1024 past c.args.bytes.now)
    (same_events _ _ _ reported.reported (added past c.args.bytes.now) is reported.performed)
