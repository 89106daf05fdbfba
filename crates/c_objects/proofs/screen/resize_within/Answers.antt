use Rattle.c_objects.proofs.Did.{screen_did}
use Rattle.c_objects.specs.Limits.{Within}
use Rattle.c_objects.specs.Screens.{ResizesMarked}
use Rattle.c_objects.proofs.screen.resize_within.Goals as goal

pub returns-in-Screen : goal.returns-in-Screen
returns-in-Screen c =
    screen_did (Within c.args.most_cells c.args.rows c.args.cols (ResizesMarked c.args.rows c.args.cols)) _ _ _ _
    c.resize_marked_within.type_inv c.in-Screen.is c.resize_marked_within.ensures
