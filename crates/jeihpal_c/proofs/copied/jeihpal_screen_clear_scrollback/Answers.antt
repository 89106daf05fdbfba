use Rattle.jeihpal_c.proofs.Words.{on_some}
use Rattle.jeihpal_c.proofs.copied.jeihpal_screen_clear_scrollback.Goals as goal

pub returns-in-Some : goal.returns-in-Some
returns-in-Some c =
    on_some _ _ _ _ _ _ c.clear_scrollback.type_inv c.get_mut.ensures.held c.in-Some.is c.clear_scrollback.ensures
