use Rattle.c_objects.proofs.Did.{hub_did}
use Rattle.c_objects.specs.Hubs.{Attaches}
use Rattle.c_objects.proofs.hub.attach.Goals as goal

pub returns-in-Hub-clause-attached : goal.returns-in-Hub-clause-attached
returns-in-Hub-clause-attached c =
    hub_did (Attaches c.args.client.now c.attach_to.new.client) _ _ _ _ c.attach_to.type_inv c.in-Hub.is
    c.attach_to.ensures.attached
