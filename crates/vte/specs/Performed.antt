-- What events do to a handler, and to the timeout and the last character that are kept beside it.
use Rattle.std.specs.Prelude.{ℕ, Bool, List, [], ◌∷◌, ◌++◌, ◌≡◌, Option, ◌||◌}
use Rattle.std.specs.List.{list_any}
use Rattle.vte_core.specs.Event.{Event}
use Rattle.vte_core.specs.Laws.{Fits}
use Rattle.vte_types.specs.Call.{Call, Calls}
use Rattle.vte.specs.Table.{calls_of, last_after, openers, opens}
use Rattle.vte.specs.Timeout.{Ticking, Ticked, sets_of}
use Rattle.vte.specs.declared.performer.ProcessorState.{ProcessorState}

-- One event. The calls are left open for an operating system command that no parser gives.
pub record Performed {H T : Type 0} (step : H → Call → H → Type 0) (ticking : Ticking T) (e : Event)
    (h : H) (s : ProcessorState T) (terminated : Bool) (h' : H) (s' : ProcessorState T) (terminated' : Bool)
    : Type 0 where
  pub calls : Fits 1024 e → Calls step h (calls_of s.preceding_char e) h'
  pub printed : s'.preceding_char ≡ last_after s.preceding_char e
  pub ticked : Ticked ticking s.timeout (sets_of (openers e)) s'.timeout
  pub ends : terminated' ≡ (terminated || opens e)

abbrev pub last_after_all : Option ℕ → List Event → Option ℕ
last_after_all last [] = last
last_after_all last (e ∷ es) = last_after_all (last_after last e) es

-- the calls of events, in order
abbrev pub calls_of_all : Option ℕ → List Event → List Call
calls_of_all last [] = []
calls_of_all last (e ∷ es) = calls_of last e ++ calls_of_all (last_after last e) es

abbrev pub openers_of_all : List Event → List (List ℕ)
openers_of_all [] = []
openers_of_all (e ∷ es) = openers e ++ openers_of_all es

-- several events, in order
pub record PerformedAll {H T : Type 0} (step : H → Call → H → Type 0) (ticking : Ticking T) (es : List Event)
    (h : H) (s : ProcessorState T) (terminated : Bool) (h' : H) (s' : ProcessorState T) (terminated' : Bool)
    : Type 0 where
  pub calls : Calls step h (calls_of_all s.preceding_char es) h'
  pub printed : s'.preceding_char ≡ last_after_all s.preceding_char es
  pub ticked : Ticked ticking s.timeout (sets_of (openers_of_all es)) s'.timeout
  pub ends : terminated' ≡ (terminated || list_any opens es)
