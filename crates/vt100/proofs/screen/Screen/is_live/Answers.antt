use Rattle.vt100.specs.ScreenFields.{screen_inside}
use Rattle.screen_model.proofs.StateLemmas.{state_whole}
use Rattle.vt100.proofs.screen.Screen.is_live.Goals as goal

pub returns-clause-live : goal.returns-clause-live
returns-clause-live c = rw (← c.self.view_is)
    (λ live. state_whole (screen_inside c.self.inside).state c.self.invariant.shown c.self.invariant.main
    (c.self.invariant.height live) (c.self.invariant.width live) c.self.invariant.shown_keeps
    c.self.invariant.other_keeps c.self.invariant.attrs c.self.invariant.saved_attrs (c.self.invariant.proper live)
    (c.self.invariant.other_proper live) c.is_allocated.ensures.valid c.is_allocated-2.ensures.valid)

pub returns-clause-sheets : goal.returns-clause-sheets
returns-clause-sheets c = rw (← c.self.view_is) (c.is_allocated.ensures.valid, c.is_allocated-2.ensures.valid)
