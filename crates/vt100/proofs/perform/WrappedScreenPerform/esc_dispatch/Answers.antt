use Rattle.std.proofs.Common.{◌∙◌, ◌<◌, [], ◌∷◌, length, sym, arith}
use Rattle.screen_model.specs.Call as said
use Rattle.screen_model.specs.Effect.{first, second, calling}
use Rattle.vt100.proofs.EventLemmas.{does_as, does_call, escape_more}
use Rattle.vt100.proofs.perform.WrappedScreenPerform.esc_dispatch.Goals as goal

pub returns-in_default : goal.returns-in_default
returns-in_default g c =
    let ms = c.args.intermediates.now in
    let some : 0 < length ms = omega arith in
    let one = rw c.first_two-marks.ensures.first at c.unhandled_escape.ensures in
    let two = rw c.first_two-marks.ensures.second at one in
    does_as (calling (said.unhandled_escape (first ms) (second ms) c.args.byte ∷ []))
    (escape_more ms c.args.byte c.args.self.now.screen.state some)
    (does_call _ (sym c.failed.ensures ∙ c.if-failed.false) two)
