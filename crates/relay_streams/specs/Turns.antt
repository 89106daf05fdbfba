-- A turn of `relay`: a piece is fed, a frame is asked for, and the pending bytes are pumped.
use Rattle.std.specs.Prelude.{◌≡◌, ◌⊎◌, ℕ, true, false, List, [], ◌∷◌, ◌++◌, map, Option, Some, Ok, Err, Result}
use Rattle.std.specs.List.{concat}
use Rattle.std.specs.declared.io.Error.{Error}
use Rattle.screen_model.specs.Made.{Fed, events_added}
use Rattle.screen_model.specs.Holds.{IsSide}
use Rattle.terminal_model.specs.Term.{Shown}
use Rattle.vt100.specs.Memory.{some_may_allocate}
use Rattle.vt100.specs.Parsing.{ParserIsAfter}
use Rattle.termrelay.specs.Answers.{may_allocate}
use Rattle.termrelay.specs.Hub.{HubState, as_kept, clients_in}
use Rattle.byte_streams.specs.Pump.{Pumps}
use Rattle.termrelay.specs.declared.error.HubError.{HubError}
use Rattle.termrelay.specs.declared.error.HubError.TheVariants as hub
use Rattle.relay_streams.specs.declared.error.RelayError.{RelayError}
use Rattle.relay_streams.specs.declared.error.RelayError.TheVariants.{Read, Write, Memory, TooManyReads, FrameTooLong}
use Rattle.relay_streams.specs.declared.relaying.OneClientHub.{OneClientHub}
use Rattle.relay_streams.specs.Frames.{idle, asked, answered, is_overlong, state_after}

-- these pieces were fed to a new hub of this size; no bytes wait for the client at the key, which has this base
pub record Relaying (rows cols : ℕ) (pieces : List (List ℕ)) (base : Option Shown) (h : HubState as_kept)
    (key : ℕ)
    : Type 0 where
  pub height : IsSide rows
  pub width : IsSide cols
  pub parser : ParserIsAfter h.parser rows cols 0 (map Fed pieces)
  pub client : clients_in h key ≡ Some (idle base)

-- a hub's refusal, as a fault of the program: all but those of a writer are for want of memory
abbrev pub fault_of : HubError → RelayError
fault_of hub.Memory = Memory
fault_of hub.Failed = Memory
fault_of hub.UnknownClient = Memory
fault_of (hub.Write e) = Write

-- A turn with this piece may need memory: one of its events may allocate, or a frame is made after it.
abbrev pub MayWantMemory : ℕ → ℕ → List (List ℕ) → List ℕ → Option Shown → Type 0
MayWantMemory rows cols past piece base =
    (some_may_allocate (events_added (concat past) piece) (state_after rows cols (concat past)) ≡ true)
    ⊎ (may_allocate (answered rows cols (concat (past ++ piece ∷ [])) base) ≡ true)

-- A turn feeds this piece after these other pieces, where the client has this base and its writer is w. The turn has
-- this result; the writer is then v, and the hub g. Nothing is pumped where the frame would be too long. Then, and
-- only then, the fault is `FrameTooLong`.
abbrev pub Turned : {W : Type 0} → (W → List ℕ → Result ℕ Error → W → Type 0) → ℕ → ℕ → List (List ℕ) → List ℕ
    → Option Shown → ℕ → W → Result (Unit {0}) RelayError → W → HubState as_kept → Type 0
Turned takes rows cols past piece base key w (Ok u) v g =
    (is_overlong (answered rows cols (concat (past ++ piece ∷ [])) base) ≡ false)
    × ((n : ℕ) × Pumps takes w (asked rows cols (concat (past ++ piece ∷ [])) base).owed (Ok tt) n v)
    × Relaying rows cols (past ++ piece ∷ []) (asked rows cols (concat (past ++ piece ∷ [])) base).base g key
Turned takes rows cols past piece base key w (Err Memory) v g =
    MayWantMemory rows cols past piece base × (v ≡ w)
Turned takes rows cols past piece base key w (Err FrameTooLong) v g =
    (is_overlong (answered rows cols (concat (past ++ piece ∷ [])) base) ≡ true) × (v ≡ w)
Turned takes rows cols past piece base key w (Err Write) v g =
    (is_overlong (answered rows cols (concat (past ++ piece ∷ [])) base) ≡ false)
    × (e : Error) × (n : ℕ) × Pumps takes w (asked rows cols (concat (past ++ piece ∷ [])) base).owed (Err e) n v
Turned takes rows cols past piece base key w (Err Read) v g = ⊥
Turned takes rows cols past piece base key w (Err TooManyReads) v g = ⊥

-- a hub with one client, and the client's writer, before and after a turn with this piece
abbrev pub TakesTurn : {W : Type 0} → (W → List ℕ → Result ℕ Error → W → Type 0) → OneClientHub → W → List ℕ
    → Result (Unit {0}) RelayError → OneClientHub → W → Type 0
TakesTurn takes p w piece answer q v = (q.client ≡ p.client)
    × ((rows cols : ℕ) (past : List (List ℕ)) (base : Option Shown) → Relaying rows cols past base p.hub p.client
    → Turned takes rows cols past piece base p.client w answer v q.hub)
