use Rattle.std.proofs.Common.{◌≡◌, ◌∙◌, ℕ, [], ◌∷◌, nat_eq, cond, ap, sym, arith, unwrap_or}
use Rattle.screen_model.specs.Call as said
use Rattle.screen_model.specs.Effect.{given, later, calling, csi_call}
use Rattle.vt100.proofs.EventLemmas.{does_as, does_call}
use Rattle.vt100.proofs.screen.wrapped.WrappedScreen.window.Goals as goal

pub returns-in-8 : goal.returns-in-8
returns-in-8 g c =
    let gs = c.args.params.now in
    let s = c.args.self.now.screen.state in
    let is : unwrap_or (given gs) 0 ≡ 8 = grind arith in
    let rows : c.requested_size-request.result.0 ≡ unwrap_or (given (later gs)) s.shown.height = grind arith in
    let cols : c.requested_size-request.result.1 ≡ unwrap_or (given (later (later gs))) s.shown.width = grind arith in
    let asked = λ (r : ℕ) (n : ℕ). calling (said.resize r n ∷ []) s in
    does_as (calling (said.resize c.requested_size-request.result.0 c.requested_size-request.result.1 ∷ []))
    (ap (λ (r : ℕ). asked r c.requested_size-request.result.1) rows
    ∙ ap (λ (n : ℕ). asked (unwrap_or (given (later gs)) s.shown.height) n) cols
    ∙ ap (λ (n : ℕ). cond (nat_eq n 8) (asked (unwrap_or (given (later gs)) s.shown.height)
    (unwrap_or (given (later (later gs))) s.shown.width)) (calling (csi_call [] gs c.args.action ∷ []) s)) (sym is))
    (does_call _ c.requires c.resize.ensures)
