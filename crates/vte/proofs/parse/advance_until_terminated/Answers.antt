use Rattle.std.proofs.Common.{◌≡◌, ◌∙◌, ◌<◌, ap, sym, [], ℕ, take, true, false, refl, arith}
use Rattle.vte_core.proofs.AddedLemmas.{added-fits, added-is}
use Rattle.vte_core.proofs.Telling.{same_events}
use Rattle.vte.specs.Stretch.{added}
use Rattle.vte.proofs.RunLemmas.{performs_all, keeps_all}
use Rattle.vte.proofs.parse.advance_until_terminated.Goals as goal

pub returns-clause-same_handler : goal.returns-clause-same_handler
returns-clause-same_handler g c = keeps_all (λ p. p.handler.ghost_name) _ (λ p e q s. s.1) _ _ _
    c.advance_until_terminated.ensures.reported.performed

pub returns-clause-same_state : goal.returns-clause-same_state
returns-clause-same_state g c = keeps_all (λ p. p.state.ghost_name) _ (λ p e q s. s.2) _ _ _
    c.advance_until_terminated.ensures.reported.performed

pub returns-clause-performed : goal.returns-clause-performed
returns-clause-performed g c past state_after =
    let reported = c.advance_until_terminated.ensures.reported in
    let bytes = take c.advance_until_terminated.result c.args.bytes.now in
    let is = added-is 1024 past bytes reported.reported (reported.added past state_after) in
    performs_all g.H.Handler.step g.T.Timeout.ticking (λ p. p.handler.now) (λ p. p.state.now)
    (λ p. p.terminated) _ (λ p e q s. s.0) _
    (added past bytes) _ (added-fits 1024 past bytes)
    (same_events _ _ _ reported.reported (added past bytes) is reported.performed)

positive : (n : ℕ) → (n ≡ 0 → ⊥) → 0 < n
positive n h = omega (arith, h)

pub returns-clause-some : goal.returns-clause-some
returns-clause-some g c fresh ended =
    let reported = c.advance_until_terminated.ensures.reported in
    positive c.advance_until_terminated.result (λ z.
    let none : reported.reported ≡ [] = reported.none (rw z refl) in
    let same = same_events _ _ _ reported.reported [] none reported.performed in
    let still = ap (λ p. p.terminated) same ∙ fresh in
    let no : true ≡ false = sym ended ∙ still in
    cc)

pub returns-clause-first : goal.returns-clause-first
returns-clause-first g c past state_after fresh m below asks =
    let by = (c.advance_until_terminated.ensures.stops past state_after).passed m below asks in
    let run = performs_all g.H.Handler.step g.T.Timeout.ticking (λ p. p.handler.now) (λ p. p.state.now)
    (λ p. p.terminated) _ (λ p e q s. s.0) _
    (added past (take m c.args.bytes.now)) _ (added-fits 1024 past (take m c.args.bytes.now)) by.before in
    let ends = run.ends in
    rw fresh at (sym ends ∙ by.goes_on)
