-- The table: the calls of a handler for each event.
use Rattle.std.specs.Prelude.{ℕ, Bool, true, false, List, [], ◌∷◌, Option, Some, if◌then◌else◌}
use Rattle.std.specs.List.{list_any}
use Rattle.vte_core.specs.Event.{Event, Print, Execute, Hook, Put, Unhook, Osc, Csi, Esc}
use Rattle.vte_types.specs.Call as call
use Rattle.vte_types.specs.Call.{Call}
use Rattle.vte_types.specs.declared.mode.PrivateMode.TheVariants.{Named}
use Rattle.vte_types.specs.declared.mode.NamedPrivateMode.TheVariants.{SyncUpdate}
use Rattle.vte.specs.Escape.{execute_calls, escape_calls}
use Rattle.vte.specs.Csi.{csi_calls, opens_group, opening_groups}
use Rattle.vte.specs.Osc.{osc_calls}

-- the calls of an event, with the last printed character
abbrev pub calls_of : Option ℕ → Event → List Call
calls_of last (Print x) = call.input x ∷ []
calls_of last (Execute b) = execute_calls b
calls_of last (Csi gs ms ignore f) = if ignore then [] else csi_calls last gs ms f
calls_of last (Esc ms ignore b) = escape_calls ms b
calls_of last (Osc ps bell) = osc_calls ps bell
calls_of last (Hook gs ms ignore f) = []
calls_of last (Put b) = []
calls_of last Unhook = []

-- the last printed character after an event
abbrev pub last_after : Option ℕ → Event → Option ℕ
last_after last (Print x) = Some x
last_after last _ = last

-- those groups of an event that may open an update; they do if they begin with 2026
abbrev pub openers : Event → List (List ℕ)
openers (Csi gs ms ignore f) = if ignore then [] else opening_groups gs ms f
openers _ = []

-- whether an event opens an update
abbrev pub opens : Event → Bool
opens e = list_any opens_group (openers e)

-- the call that says that an update was opened
abbrev pub is_opening : Call → Bool
is_opening (call.set_private_mode (Named SyncUpdate)) = true
is_opening _ = false
