use Rattle.std.proofs.Common.{◌≡◌, ap, sym, ◌∙◌, false}
use Rattle.std.specs.Option.{option_copied}
use Rattle.termrelay.specs.Hub.{HubState, as_kept}
use Rattle.termrelay.proofs.HubLemmas.{found-served}
use Rattle.termrelay.proofs.hub.Hub.owed.Goals as goal

pub returns-in-Some-clause-short : goal.returns-in-Some-clause-short
returns-in-Some-clause-short c alive =
    let p = c.self.inside.parser in
    let r = c.in-Some.record.now in
    let live : p.screen.failed ≡ false = ap (λ (v : HubState as_kept). v.parser.screen.failed) c.self.view_is ∙ alive in
    let found = sym c.get.ensures ∙ ap option_copied c.in-Some.is in
    let served = found-served c.self.inside.clients c.key.result r p.screen found (c.self.invariant.served live) in
    rw (← c.self.view_is, c.owed.ensures) served.short
