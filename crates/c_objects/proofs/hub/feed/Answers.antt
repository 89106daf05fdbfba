use Rattle.c_objects.proofs.Did.{hub_did}
use Rattle.c_objects.specs.Hubs.{Feeds}
use Rattle.c_objects.proofs.hub.feed.Goals as goal

pub returns-in-Hub : goal.returns-in-Hub
returns-in-Hub c =
    hub_did (Feeds c.args.bytes.now) _ _ _ _ c.code_of.type_inv c.in-Hub.is
    (c.feed.result, c.feed.ensures, c.code_of.ensures)
