use Rattle.c_objects.proofs.Did.{screen_did}
use Rattle.c_objects.specs.Copied.{ClearsKept}
use Rattle.c_objects.proofs.copied.clear_scrollback.Goals as goal

pub returns-in-Screen : goal.returns-in-Screen
returns-in-Screen c = screen_did ClearsKept _ _ _ _ c.clear_kept.type_inv c.in-Screen.is c.clear_kept.ensures
