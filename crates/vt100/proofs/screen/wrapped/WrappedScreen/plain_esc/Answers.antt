use Rattle.std.proofs.Common.{◌≡◌, [], ◌∷◌, Result, IsOk, sym, ap, subst, arith, None}
use Rattle.std.proofs.lemmas.Bool.{false≢true}
use Rattle.std.proofs.lemmas.Bool.Decides.{nat_tests}
use Rattle.screen_model.specs.Lookup.{lookup}
use Rattle.screen_model.specs.Call as said
use Rattle.screen_model.specs.Step.{quietly, made_anew}
use Rattle.screen_model.specs.Effect.{escape_rows, effect_or, calling}
use Rattle.vt100.proofs.EventLemmas.{does_as, does_change, does_steps, does_call}
use Rattle.vt100.specs.declared.error.ScreenError.{ScreenError}
use Rattle.vt100.proofs.screen.wrapped.WrappedScreen.plain_esc.Goals as goal

pub returns-in-55 : goal.returns-in-55
returns-in-55 g c = rw c.in-55.is (does_change c.decsc.ensures)

pub returns-in-56 : goal.returns-in-56
returns-in-56 g c = rw c.in-56.is (does_change c.decrc.ensures)

pub returns-in-61 : goal.returns-in-61
returns-in-61 g c = rw c.in-61.is (does_change c.deckpam.ensures)

pub returns-in-62 : goal.returns-in-62
returns-in-62 g c = rw c.in-62.is (does_change c.deckpnm.ensures)

pub returns-in-77 : goal.returns-in-77
returns-in-77 g c = rw c.in-77.is (does_change c.ri.ensures)

pub returns-in-99 : goal.returns-in-99
returns-in-99 g c =
    let is_ok = λ (r : Result (Unit {0}) ScreenError). IsOk r in
    rw c.in-99.is (does_steps (λ s. quietly (made_anew s)) _ c.ris.ensures.tries c.ris.ensures.bounds
    (λ live e. absurd (false≢true (subst is_ok e (c.ris.ensures.live live)))))

pub returns-in-103 : goal.returns-in-103
returns-in-103 g c = rw c.in-103.is (does_call said.visual_bell c.requires c.visual_bell.ensures)

pub returns-in_default : goal.returns-in_default
returns-in_default g c =
    let none : lookup c.args.byte escape_rows ≡ None = grind (arith, nat_tests) in
    let k = said.unhandled_escape None None c.args.byte in
    does_as (calling (k ∷ [])) (ap (λ o. effect_or o k c.args.self.now.screen.state) (sym none)) (does_call k
    c.requires c.unhandled_escape.ensures)
