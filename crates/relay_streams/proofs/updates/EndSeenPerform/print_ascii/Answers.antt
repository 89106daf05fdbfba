use Rattle.std.proofs.Common.{refl}
use Rattle.std.specs.Str.{chars}
use Rattle.vte_core.specs.Event.{Print}
use Rattle.relay_streams.proofs.UpdateLemmas.{silent-performed}
use Rattle.relay_streams.proofs.updates.EndSeenPerform.print_ascii.Goals as goal

pub returns : goal.returns
returns c = silent-performed c.args.self.now Print (λ _. refl) (chars c.args._text.now)
