-- The events of a byte, by the parser's fields before it (old) and after it (new).
use Rattle.std.specs.Prelude.{ℕ, Bool, false, ◌||◌, ◌&&◌, List, [], ◌∷◌, length, ◌==◌, if◌then◌else◌}
use Rattle.vte_core.specs.Event.{Event, Print, Execute, Hook, Unhook, Osc, Csi, Esc}
use Rattle.vte_core.specs.Bytes.{is_esc, is_abort, is_control, ends_header, ends_escape, ends_osc}
use Rattle.vte_core.specs.Pending.{InDevice, InSwallowed, byte_reported, text_reported, reported}
use Rattle.vte_core.specs.Phases.{is_kept}
use Rattle.vte_core.specs.Store.{cut_at}
use Rattle.vte_core.specs.declared.header.Header.{Header}
use Rattle.vte_core.specs.declared.intermediates.Intermediates.{Intermediates}
use Rattle.vte_core.specs.declared.parser.Parser.{Parser}
use Rattle.vte_core.specs.declared.parser.State.{State}
use Rattle.vte_core.specs.declared.parser.State.TheVariants as s

-- of a header that has ended
abbrev pub csi_event : Header → ℕ → Event
csi_event x b = Csi x.numbers.params x.intermediates.kept.items (x.numbers.many || x.intermediates.many) b

abbrev pub hook_event : Header → ℕ → Event
hook_event x b = Hook x.numbers.params x.intermediates.kept.items (x.numbers.many || x.intermediates.many) b

-- of the data of an OSC that has ended
abbrev pub osc_event : List ℕ × List ℕ → Bool → Event
osc_event x bell = Osc (cut_at 0 x.1 x.0) bell

abbrev pub final_events : Intermediates → ℕ → List Event
final_events x b =
    if length x.kept.items == 0 && b == 0x5B then []
    else (if length x.kept.items == 0 && b == 0x5D then []
    else (if length x.kept.items == 0 && b == 0x50 then []
    else (if length x.kept.items == 0 && (b == 0x58 || (b == 0x5E || b == 0x5F)) then []
    else Esc x.kept.items x.many b ∷ [])))

abbrev pub text_closed : List ℕ → List Event
text_closed [] = []
text_closed (a ∷ t) = Print 0xFFFD ∷ []

abbrev pub escape_events : (n : ℕ) → State → Parser n → Parser n → List Event
escape_events n s.Ground old new = text_closed old.unfinished
escape_events n s.Escape old new = []
escape_events n s.Csi old new = []
escape_events n s.OscString old new = osc_event new.osc false ∷ []
escape_events n s.DcsHeader old new = []
escape_events n s.DcsPassthrough old new = Unhook ∷ []
escape_events n s.SosPmApcString old new = []

abbrev pub byte_events : (n : ℕ) → State → Parser n → Parser n → ℕ → List Event
byte_events n s.Ground old new b = text_reported old.unfinished b
byte_events n s.Escape old new b =
    if ends_escape b then (if is_abort b then Execute b ∷ [] else final_events old.intermediates b)
    else reported is_control Execute b
byte_events n s.Csi old new b =
    if ends_header b then (if is_abort b then Execute b ∷ []
    else (if is_kept old.header.phase then csi_event new.header b ∷ [] else []))
    else reported is_control Execute b
byte_events n s.OscString old new b = if ends_osc b then osc_event new.osc
    (b == 0x07) ∷ reported is_abort Execute b else []
byte_events n s.DcsHeader old new b =
    if ends_header b then (if is_abort b then Execute b ∷ []
    else (if is_kept old.header.phase then hook_event new.header b ∷ [] else []))
    else []
byte_events n s.DcsPassthrough old new b = byte_reported n InDevice b
byte_events n s.SosPmApcString old new b = byte_reported n InSwallowed b

abbrev pub step_events : (n : ℕ) → Parser n → Parser n → ℕ → List Event
step_events n old new b = if is_esc b then escape_events n old.state old new else byte_events n old.state old new b
