use Rattle.std.proofs.Common.{refl}
use Rattle.vte_core.specs.Event.{Execute}
use Rattle.relay_streams.proofs.UpdateLemmas.{silent-performed}
use Rattle.relay_streams.proofs.updates.EndSeenPerform.execute_all.Goals as goal

pub returns : goal.returns
returns c = silent-performed c.args.self.now Execute (λ _. refl) c.args._controls.now
