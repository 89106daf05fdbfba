use Rattle.std.proofs.Common.{ap, rules}
use Rattle.screen_model.specs.Sgr.{Read}
use Rattle.screen_model.proofs.ProperLemmas.{sgr_read-proper}
use Rattle.vt100.proofs.screen.wrapped.WrappedScreen.sgr.Goals as goal

pub invariant_of-self : goal.invariant_of-self
invariant_of-self g c =
    let attrs = rw (← ap (λ (x : Read). x.attrs) c.read_sgr.ensures) at
    (sgr_read-proper c.args.params.now c.self.inside.0.0.attrs c.self.invariant.attrs) in
    search rules
