use Rattle.std.proofs.Common.{◌≡◌, ◌∙◌, sym, ap, arith, None, [], ◌∷◌}
use Rattle.std.proofs.lemmas.Bool.Decides.{nat_tests}
use Rattle.screen_model.specs.Lookup.{lookup}
use Rattle.screen_model.specs.Call as said
use Rattle.screen_model.specs.Effect.{control_rows, calling, effect_or}
use Rattle.vt100.proofs.EventLemmas.{does_as, does_change, does_scroll, does_call}
use Rattle.vt100.proofs.perform.WrappedScreenPerform.execute.Goals as goal

pub returns-in-8 : goal.returns-in-8
returns-in-8 g c = rw c.in-8.is (does_change c.bs.ensures)

pub returns-in-10 : goal.returns-in-10
returns-in-10 g c = rw c.in-10.is (does_scroll c.lf.ensures)

pub returns-in-13 : goal.returns-in-13
returns-in-13 g c = rw c.in-13.is (does_change c.cr.ensures)

pub returns-then-byte-gt15 : goal.returns-then-byte-gt15
returns-then-byte-gt15 g c =
    let none : lookup c.args.byte control_rows ≡ None = grind (arith, nat_tests) in
    does_as (calling (said.unhandled_control c.args.byte ∷ []))
    (ap (λ o. effect_or o (said.unhandled_control c.args.byte) c.args.self.now.screen.state) (sym none))
    (does_call (said.unhandled_control c.args.byte)
    (sym c.failed.ensures ∙ c.if-failed.false) c.unhandled_control.ensures)
