use Rattle.c_objects.proofs.Did.{hub_did}
use Rattle.c_objects.specs.Hubs.{Resizes}
use Rattle.c_objects.proofs.hub.resize.Goals as goal

pub returns-in-Hub : goal.returns-in-Hub
returns-in-Hub c =
    hub_did (Resizes c.args.rows c.args.cols) _ _ _ _ c.resize_hub.type_inv c.in-Hub.is c.resize_hub.ensures
