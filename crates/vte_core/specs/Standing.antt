-- A parser's state after some bytes. A caller carries `IsAfter` from one call to the next, and needs nothing of what it
-- says: the events of a call are said of the bytes alone (Shapes, Added).
use Rattle.std.specs.Prelude.{◌≡◌, ℕ, Bool, true, false, List, []}
use Rattle.vte_core.specs.declared.parser.State.{State}
use Rattle.vte_core.specs.Pending.{Pending, InText, InEscape, InCsi, InOsc, InHook, InDevice, InSwallowed, pending}
use Rattle.vte_core.specs.Store.{ReadsOsc}
use Rattle.vte_core.specs.Reading.{KeepsTwo}
use Rattle.vte_core.specs.Phases.{ReadsHeader}
use Rattle.vte_core.specs.declared.parser.Parser.{Parser}
use Rattle.vte_core.specs.declared.parser.State.TheVariants.{Ground, Escape, Csi, OscString, DcsHeader, DcsPassthrough}
use Rattle.vte_core.specs.declared.parser.State.TheVariants.{SosPmApcString}

-- the parser's fields hold what is pending
abbrev pub IsAt : (n : ℕ) → Parser n → Pending → Type 0
IsAt n p (InText u) = (p.state ≡ Ground) × (p.unfinished ≡ u)
IsAt n p (InEscape is) = (p.state ≡ Escape) × (p.unfinished ≡ []) × KeepsTwo p.intermediates is
IsAt n p (InCsi h) = (p.state ≡ Csi) × (p.unfinished ≡ []) × ReadsHeader p.header h
IsAt n p (InOsc s) = (p.state ≡ OscString) × (p.unfinished ≡ []) × ReadsOsc n p.osc s
IsAt n p (InHook h) = (p.state ≡ DcsHeader) × (p.unfinished ≡ []) × ReadsHeader p.header h
IsAt n p InDevice = (p.state ≡ DcsPassthrough) × (p.unfinished ≡ [])
IsAt n p InSwallowed = (p.state ≡ SosPmApcString) × (p.unfinished ≡ [])

-- the parser has read these bytes
abbrev pub IsAfter : (n : ℕ) → Parser n → List ℕ → Type 0
IsAfter n p past = IsAt n p (pending past)

abbrev pub state_is_text : State → Bool
state_is_text Ground = true
state_is_text Escape = false
state_is_text Csi = false
state_is_text OscString = false
state_is_text DcsHeader = false
state_is_text DcsPassthrough = false
state_is_text SosPmApcString = false
