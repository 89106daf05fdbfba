use Rattle.std.proofs.Common.{◌≡◌, ◌∙◌, ap, sym, get_or}
use Rattle.termrelay.specs.Hub.{clients_in}
use Rattle.termrelay.specs.Log.{is_of, bytes_taken, grown}
use Rattle.termrelay.proofs.LogLemmas.{none-changed, last-changed, found-passes, of-key, ok-then}
use Rattle.termrelay.proofs.runs.log.pump_kept.Goals as goal

pub returns-in-Some-clause-sessions : goal.returns-in-Some-clause-sessions
returns-in-Some-clause-sessions c =
    let h = c.args.hub.now in
    let key = c.args.client in
    let takes = c.args.takes.now in
    let ss = c.args.sessions.now in
    let at = c.in-Some.at in
    let d = c.index-sessions-at.result in
    let s = get_or ss at d in
    let is_key : s.client ≡ key = of-key key s (found-passes (is_of key) ss at d c.in-Some.ensures) in
    ok-then c.pump.result _ _ c.pump.ensures.grown (λ is. last-changed (is_of key)
    (grown (bytes_taken takes (clients_in h key))) ss at d c.pump.new.self c.in-Some.ensures
    (is ∙ ap (λ k. grown (bytes_taken takes (clients_in h k)) s) is_key))

pub returns-in-None-clause-sessions : goal.returns-in-None-clause-sessions
returns-in-None-clause-sessions c =
    sym (none-changed (is_of c.args.client)
    (grown (bytes_taken c.args.takes.now (clients_in c.args.hub.now c.args.client))) c.args.sessions.now
    c.in-None.ensures)
