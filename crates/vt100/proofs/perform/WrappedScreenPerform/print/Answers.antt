use Rattle.std.proofs.Common.{◌≡◌, [], ◌∷◌, Bool, false, cond, not, ◌&&◌, ap, sym, rules}
use Rattle.screen_model.specs.Call as said
use Rattle.screen_model.specs.Effect.{is_unhandled, calling, steps}
use Rattle.screen_model.specs.Step.{typed}
use Rattle.vt100.specs.Memory.{keeps_row}
use Rattle.vt100.proofs.EventLemmas.{does_as, does_scroll, does_where}
use Rattle.vt100.proofs.RunLemmas.{printable-handled}
use Rattle.vt100.proofs.perform.WrappedScreenPerform.print.Goals as goal

pub returns-then-has_room : goal.returns-then-has_room
returns-then-has_room g c =
    let ch = c.args.c in
    let s = c.args.self.now.screen.state in
    let is : is_unhandled ch ≡ false = printable-handled ch (c.is_printable.ensures.0 (search rules)) in
    does_where (ap (λ (b : Bool). not b && keeps_row s (typed ch s).state) (sym is)) (does_as (λ t. steps (typed ch t))
    (ap (λ (b : Bool). cond b (calling (said.unhandled_char ch ∷ []) s) (steps (typed ch s))) (sym is))
    (does_scroll c.text.ensures))
