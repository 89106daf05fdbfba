use Rattle.std.proofs.Common.{◌≡◌, ◌∙◌, [], ◌∷◌, Bool, true, false, cond, not, ◌&&◌, ap, sym}
use Rattle.screen_model.specs.Call as said
use Rattle.screen_model.specs.Effect.{is_unhandled, calling, steps}
use Rattle.screen_model.specs.Step.{typed}
use Rattle.vt100.specs.Memory.{keeps_row}
use Rattle.vt100.proofs.EventLemmas.{does_as, does_call, does_scroll, does_where}
use Rattle.vt100.proofs.screen.wrapped.WrappedScreen.print_any.Goals as goal

pub returns-then-is_unhandled : goal.returns-then-is_unhandled
returns-then-is_unhandled g c =
    let ch = c.args.c in
    let s = c.args.self.now.screen.state in
    let is : is_unhandled ch ≡ true = sym c.is_unhandled.ensures ∙ c.if-is_unhandled.true in
    does_as (calling (said.unhandled_char ch ∷ []))
    (ap (λ (b : Bool). cond b (calling (said.unhandled_char ch ∷ []) s) (steps (typed ch s))) (sym is))
    (does_call (said.unhandled_char ch) c.requires c.unhandled_char.ensures)

pub returns-else-is_unhandled : goal.returns-else-is_unhandled
returns-else-is_unhandled g c =
    let ch = c.args.c in
    let s = c.args.self.now.screen.state in
    let is : is_unhandled ch ≡ false = sym c.is_unhandled.ensures ∙ c.if-is_unhandled.false in
    does_where (ap (λ (b : Bool). not b && keeps_row s (typed ch s).state) (sym is)) (does_as (λ t. steps (typed ch t))
    (ap (λ (b : Bool). cond b (calling (said.unhandled_char ch ∷ []) s) (steps (typed ch s))) (sym is))
    (does_scroll c.text.ensures))
