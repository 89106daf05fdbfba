use Rattle.c_objects.proofs.Did.{screen_did}
use Rattle.c_objects.specs.Screens.{ScrollsMarked}
use Rattle.c_objects.proofs.screen.scroll.Goals as goal

pub returns-in-Screen : goal.returns-in-Screen
returns-in-Screen c =
    screen_did (ScrollsMarked c.args.rows) _ _ _ _ c.scroll_marked.type_inv c.in-Screen.is c.scroll_marked.ensures
