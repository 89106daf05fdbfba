-- What is reported of arguments that aren't understood.
use Rattle.std.proofs.Common.{◌≡◌, subst, ℕ, List, Result}
use Rattle.std.specs.declared.io.Error.{Error}
use Rattle.clap.specs.Words.{Row}
use Rattle.screentext_command.specs.Command.{TellsInParts}
use Rattle.screentext_command.specs.Misuse.{TellsWrong, usage}
use Rattle.screentext_command.specs.declared.help.TheConstants.{USAGE}

-- the usage may be reported for all arguments
pub usage_told : {V : Type 0} (takes : V → List ℕ → Result ℕ Error → V → Type 0) (rows : List Row) (old new : V)
    → TellsInParts takes old USAGE.now new → TellsWrong takes rows old new
usage_told takes rows old new told = (USAGE.now, usage, told)

-- what is reported of values is reported of the same ones
pub told_of_same : {V : Type 0} (takes : V → List ℕ → Result ℕ Error → V → Type 0) (rows same : List Row) (old new : V)
    → rows ≡ same → TellsWrong takes rows old new → TellsWrong takes same old new
told_of_same takes rows same old new is told = subst (λ (x : List Row). TellsWrong takes x old new) is told
