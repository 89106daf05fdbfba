use Rattle.c_objects.proofs.Did.{hub_did}
use Rattle.c_objects.specs.Hubs.{Resizes}
use Rattle.c_objects.specs.Limits.{Within}
use Rattle.c_objects.proofs.hub.resize_within.Goals as goal

pub returns-in-Hub : goal.returns-in-Hub
returns-in-Hub c =
    hub_did (Within c.args.most_cells c.args.rows c.args.cols (Resizes c.args.rows c.args.cols)) _ _ _ _
    c.resize_hub_within.type_inv c.in-Hub.is c.resize_hub_within.ensures
