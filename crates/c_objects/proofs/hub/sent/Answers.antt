use Rattle.std.proofs.Common.{sym}
use Rattle.c_objects.proofs.Did.{hub_did}
use Rattle.c_objects.specs.Hubs.{Sends}
use Rattle.c_objects.proofs.hub.sent.Goals as goal

pub returns-in-Hub : goal.returns-in-Hub
returns-in-Hub c =
    hub_did (Sends c.args.client c.args.count) _ c.in-Hub.hub c.tell_sent.new.hub c.tell_sent.result
    c.tell_sent.type_inv
    c.in-Hub.is (rw (sym c.from_key.ensures) c.tell_sent.ensures)
