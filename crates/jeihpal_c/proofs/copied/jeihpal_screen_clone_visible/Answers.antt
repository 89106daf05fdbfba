use Rattle.std.proofs.Common.{inl, refl}
use Rattle.jeihpal_c.proofs.copied.jeihpal_screen_clone_visible.Goals as goal

pub returns-in-Ok-clause-says : goal.returns-in-Ok-clause-says
returns-in-Ok-clause-says c = inl (refl, c.in-Ok.object.value, c.put.ensures, c.in-Ok.ensures.copied)
