use Rattle.std.proofs.Common.{sym}
use Rattle.c_objects.proofs.Did.{hub_did}
use Rattle.c_objects.specs.Hubs.{Detaches}
use Rattle.c_objects.proofs.hub.detach.Goals as goal

pub returns-in-Hub : goal.returns-in-Hub
returns-in-Hub c =
    hub_did (Detaches c.args.client) _ c.in-Hub.hub c.detach.new.self c.code_of.result c.code_of.type_inv c.in-Hub.is
    (rw (sym c.from_key.ensures) (c.detach.result, c.detach.ensures, c.code_of.ensures))
