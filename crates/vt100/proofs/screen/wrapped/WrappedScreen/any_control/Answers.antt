use Rattle.std.proofs.Common.{◌≡◌, ◌⊎◌, inl, inr, sym, ap, arith, None, [], ◌∷◌}
use Rattle.std.proofs.lemmas.Bool.Decides.{nat_tests}
use Rattle.screen_model.specs.Lookup.{lookup}
use Rattle.screen_model.specs.Call as said
use Rattle.screen_model.specs.Effect.{control_rows, calling, effect_or}
use Rattle.vt100.proofs.EventLemmas.{does_as, does_change, does_nothing, does_scroll, does_call}
use Rattle.vt100.proofs.screen.wrapped.WrappedScreen.any_control.Goals as goal

pub returns-in-7 : goal.returns-in-7
returns-in-7 g c = rw c.in-7.is (does_call said.audible_bell c.requires c.audible_bell.ensures)

pub returns-in-8 : goal.returns-in-8
returns-in-8 g c = rw c.in-8.is (does_change c.bs.ensures)

pub returns-in-9 : goal.returns-in-9
returns-in-9 g c = rw c.in-9.is (does_change c.tab.ensures)

pub returns-in-10 : goal.returns-in-10
returns-in-10 g c = rw c.in-10.is (does_scroll c.lf.ensures)

pub returns-in-11 : goal.returns-in-11
returns-in-11 g c = rw c.in-11.is (does_scroll c.vt.ensures)

pub returns-in-12 : goal.returns-in-12
returns-in-12 g c = rw c.in-12.is (does_scroll c.ff.ensures)

pub returns-in-13 : goal.returns-in-13
returns-in-13 g c = rw c.in-13.is (does_change c.cr.ensures)

pub returns-in-14 : goal.returns-in-14
returns-in-14 g c =
    let is : (c.args.byte ≡ 14) ⊎ (c.args.byte ≡ 15) = grind arith in
    elim is [
      | inl e ↦ rw e does_nothing
      | inr e ↦ rw e does_nothing
    ]

pub returns-in_default : goal.returns-in_default
returns-in_default g c =
    let none : lookup c.args.byte control_rows ≡ None = grind (arith, nat_tests) in
    does_as (calling (said.unhandled_control c.args.byte ∷ []))
    (ap (λ o. effect_or o (said.unhandled_control c.args.byte) c.args.self.now.screen.state) (sym none))
    (does_call (said.unhandled_control c.args.byte) c.requires c.unhandled_control.ensures)
