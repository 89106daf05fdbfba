use Rattle.std.proofs.Common.{ℕ, [], ◌∷◌, nat_eq, cond, ap, sym}
use Rattle.screen_model.specs.Effect.{number_or, styled, partly, calling, csi_call}
use Rattle.vt100.proofs.EventLemmas.{does_as, does_counts}
use Rattle.vt100.proofs.screen.wrapped.WrappedScreen.space_csi.Goals as goal

pub returns-in-q : goal.returns-in-q
returns-in-q g c =
    let gs = c.args.params.now in
    let s = c.args.self.now.screen.state in
    let k = csi_call c.args.intermediates.now gs c.args.action in
    does_as (λ t. partly (styled (number_or 0 gs) t) k)
    (ap (λ (a : ℕ). cond (nat_eq a 113) (partly (styled (number_or 0 gs) s) k)
    (calling (csi_call [] gs c.args.action ∷ []) s)) (sym c.in-q.is))
    (does_counts _ c.requires
    (rw c.canonicalize_params_1.ensures at c.decscusr-unhandled.ensures) c.unhandled_groups.ensures)
