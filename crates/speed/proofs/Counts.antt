-- What is seen as nothing goes through any events, and any calls.
use Rattle.std.proofs.Common.{List, [], ◌∷◌, refl}
use Rattle.std.specs.Prelude.{⊤}
use Rattle.vte_core.specs.Event.{Event, Performs}
use Rattle.vte_types.specs.Call.{Call, Calls}

pub counts_all : (a : ⊤) (es : List Event) (b : ⊤) → Performs (λ (_ : ⊤) (_ : Event) (_ : ⊤). ⊤) a es b
counts_all a [] b = refl
counts_all a (e ∷ es) b = (tt, tt, counts_all tt es b)

pub counts_calls : (a : ⊤) (cs : List Call) (b : ⊤) → Calls (λ (_ : ⊤) (_ : Call) (_ : ⊤). ⊤) a cs b
counts_calls a [] b = refl
counts_calls a (c ∷ cs) b = (tt, tt, counts_calls tt cs b)
