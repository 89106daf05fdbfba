use Rattle.std.proofs.Common.{map}
use Rattle.std.specs.Prelude.{⊤}
use Rattle.vte_core.specs.Event.{Print, Performs}
use Rattle.library_steps.proofs.streams.log.Log.run.Given as goal

abbrev pub invariant-loop-c : goal.invariant-loop-c
invariant-loop-c l = Performs (λ _ _ _. ⊤) l.initial.self (map Print l.yielded) l.self
