use Rattle.std.proofs.Common.{sym}
use Rattle.c_objects.proofs.Did.{hub_did}
use Rattle.c_objects.specs.Hubs.{Forks}
use Rattle.c_objects.proofs.hub.fork.Goals as goal

pub returns-in-Hub-clause-forked : goal.returns-in-Hub-clause-forked
returns-in-Hub-clause-forked c =
    hub_did (Forks c.args.client c.args.fork.now c.fork_in.new.fork) _ c.in-Hub.hub c.fork_in.new.hub c.fork_in.result
    c.fork_in.type_inv c.in-Hub.is (rw (sym c.from_key.ensures) c.fork_in.ensures.forked)
