use Rattle.std.proofs.Common.{◌∙◌, sym}
use Rattle.vt100.proofs.EventLemmas.{does_two_calls, does_first_call}
use Rattle.vt100.proofs.screen.wrapped.WrappedScreen.icon_and_title.Goals as goal

pub returns-then-not-failed : goal.returns-then-not-failed
returns-then-not-failed g c = does_two_calls _ _ _ _ c.requires c.set_window_icon_name.ensures
    (sym c.failed.ensures ∙ c.if-not-failed.true) c.set_window_title.ensures

pub returns-else-not-failed : goal.returns-else-not-failed
returns-else-not-failed g c = does_first_call _ _ c.requires c.set_window_icon_name.ensures
    (sym c.failed.ensures ∙ c.if-not-failed.false)
