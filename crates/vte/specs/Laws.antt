-- Laws of the table and of the hold.
use Rattle.std.specs.Prelude.{ℕ, ◌||◌, ◌≡◌, ◌<◌, ◌+◌, ◌↔◌, true, false, List, [], ◌∷◌, ◌++◌, Option, None, Some, length}
use Rattle.std.specs.List.{list_any}
use Rattle.vte_core.specs.Event.{Event, Csi}
use Rattle.vte_core.specs.Stopping.{asks_after}
use Rattle.vte_core.specs.Shapes.{events}
use Rattle.vte_types.specs.Call.{Call, Calls, unset_private_mode}
use Rattle.vte_types.specs.declared.mode.PrivateMode.TheVariants.{Named}
use Rattle.vte_types.specs.declared.mode.NamedPrivateMode.TheVariants.{SyncUpdate}
use Rattle.vte.specs.Table.{calls_of, opens, is_opening}
use Rattle.vte.specs.Performed.{last_after_all, calls_of_all}
use Rattle.vte.specs.Stretch.{added, last_of, calls_from, ticks_from, opens_in}
use Rattle.vte.specs.Marks.{end_mark, NoneFrom}
use Rattle.vte.specs.Timeout.{Ticking, Tick, Ticked}
use Rattle.vte.specs.Hold.{Takes, held_of, limit}
use Rattle.vte.specs.Advances.{Advances}
use Rattle.vte.specs.Closings.{without_closings, WithClosings, clearings, Parses}
use Rattle.vte.specs.Moves.{Move, Runs, given}

-- the same text parsed, the same bytes held, the same calls, and the same settings of the timeout
abbrev pub SameOutcome : List ℕ → Option (List ℕ) → List Call → List Tick
    → List ℕ → Option (List ℕ) → List Call → List Tick → Type 0
SameOutcome parsed hold calls ticks parsed' hold' calls' ticks' =
    (parsed ≡ parsed') × (hold ≡ hold') × (calls ≡ calls') × (ticks ≡ ticks')

-- the outcome of a piece is determined by what was parsed and held before it
abbrev pub TakesOneWay : Type 0
TakesOneWay = (parsed : List ℕ) (hold : Option (List ℕ)) (piece p q : List ℕ) (h k : Option (List ℕ)) (c d : List Call)
    (s t : List Tick)
    → Takes parsed hold piece p h c s → Takes parsed hold piece q k d t → SameOutcome p h c s q k d t

-- all bytes given are the parsed ones followed by the held ones
abbrev pub ConservesBytes : Type 0
ConservesBytes = (parsed : List ℕ) (hold : Option (List ℕ)) (piece parsed' : List ℕ) (hold' : Option (List ℕ))
    (calls : List Call) (ticks : List Tick)
    → Takes parsed hold piece parsed' hold' calls ticks → parsed ++ (held_of hold ++ piece) ≡ parsed' ++ held_of hold'

-- the bytes given are conserved under any timeout
abbrev pub ConservesUnderAny : {T : Type 0} → Ticking T → Type 0
ConservesUnderAny {T} ticking = (t : T) (parsed held piece : List ℕ) (t' : T) (parsed' held' : List ℕ)
    (calls : List Call)
    → Advances ticking false t parsed held piece t' parsed' held' calls
    → parsed ++ (held ++ piece) ≡ parsed' ++ held'

-- the calls of two pieces, one after the other
abbrev pub JoinsCalls : Type 0
JoinsCalls = (past a b : List ℕ) → calls_from past (a ++ b) ≡ calls_from past a ++ calls_from (past ++ a) b

abbrev pub JoinsPrinted : Type 0
JoinsPrinted = (past bytes : List ℕ) → last_of (past ++ bytes) ≡ last_after_all (last_of past) (added past bytes)

abbrev pub JoinsOpenings : Type 0
JoinsOpenings = (past a b : List ℕ) → opens_in past (a ++ b) ≡ (opens_in past a || opens_in (past ++ a) b)

abbrev pub JoinsTicks : Type 0
JoinsTicks = (past a b : List ℕ) → ticks_from past (a ++ b) ≡ ticks_from past a ++ ticks_from (past ++ a) b

-- the calls of a piece are those of the bytes that are parsed with it, with a closing for each clearing of the timeout
abbrev pub CallsAreOfParsed : Type 0
CallsAreOfParsed = (parsed : List ℕ) (hold : Option (List ℕ)) (piece parsed' : List ℕ) (hold' : Option (List ℕ))
    (calls : List Call) (ticks : List Tick)
    → Takes parsed hold piece parsed' hold' calls ticks → Parses parsed parsed' (clearings ticks) calls

-- the calls are those of what was parsed, under any timeout
abbrev pub CallsAreOfParsedUnderAny : {T : Type 0} → Ticking T → Type 0
CallsAreOfParsedUnderAny {T} ticking =
    (t : T) (parsed held piece : List ℕ) (t' : T) (parsed' held' : List ℕ) (calls : List Call)
    → Advances ticking false t parsed held piece t' parsed' held' calls
    → (ticks : List Tick) × Ticked ticking t ticks t' × Parses parsed parsed' (clearings ticks) calls

-- calls that differ only in closings are the same without them
abbrev pub FiltersClosings : Type 0
FiltersClosings = (cs : List Call) (n : ℕ) (calls : List Call) → WithClosings cs n calls
    → without_closings calls ≡ without_closings cs

-- a handler that ignores closings ends in the state that it has without them
abbrev pub IgnoresClosings : {H : Type 0} → (H → Call → H → Type 0) → Type 0
IgnoresClosings {H} step = ((s t : H) → step s (unset_private_mode (Named SyncUpdate)) t → t ≡ s)
    → (cs : List Call) (n : ℕ) (calls : List Call) (s t : H) → WithClosings cs n calls → Calls step s calls t
    → Calls step s cs t

-- For a new processor, under any timeout: all bytes given are the parsed ones followed by the held ones. All calls are
-- those of the table for the events of the parsed bytes, with a closing for each clearing of the timeout.
abbrev pub MakesTableCalls : {T : Type 0} → Ticking T → Type 0
MakesTableCalls {T} ticking = (moves : List Move) (t t' : T) (parsed held : List ℕ) (calls : List Call)
    → Runs ticking moves t [] [] t' parsed held calls → (given moves ≡ parsed ++ held)
    × (ticks : List Tick) × Ticked ticking t ticks t'
    × WithClosings (calls_of_all None (events 1024 parsed)) (clearings ticks) calls

-- while an update is open, the bytes fit and no end mark has come whole, nothing is parsed and no call is made
abbrev pub NeverTears : Type 0
NeverTears = (parsed held piece parsed' : List ℕ) (hold' : Option (List ℕ)) (calls : List Call) (ticks : List Tick)
    → Takes parsed (Some held) piece parsed' hold' calls ticks → length (held ++ piece) < limit
    → NoneFrom end_mark (held ++ piece) 0
    → (parsed' ≡ parsed) × (hold' ≡ Some (held ++ piece)) × (calls ≡ [])

-- an event's calls contain `set_private_mode(SyncUpdate)` exactly when it opens an update
abbrev pub OpensAsCalled : Type 0
OpensAsCalled = (last : Option ℕ) (e : Event) → list_any is_opening (calls_of last e) ≡ opens e

-- several events' calls contain it exactly when one of the events opens an update
abbrev pub OpensAsAllCalled : Type 0
OpensAsAllCalled = (last : Option ℕ) (es : List Event) → list_any is_opening (calls_of_all last es) ≡ list_any opens es

-- CSI ? .. h of which nothing was left out, with a group that begins with 2026
pub record IsStart (e : Event) : Type 0 where
  pub before : List (List ℕ)
  pub more : List ℕ
  pub after : List (List ℕ)
  pub is : e ≡ Csi (before ++ (2026 ∷ more) ∷ after) (63 ∷ []) false 104

abbrev pub OpensByStarts : Type 0
OpensByStarts = (e : Event) → (opens e ≡ true) ↔ IsStart e

-- the parser asks whether it is to stop after each byte that completes an event which opens an update
abbrev pub AsksWhereOpened : Type 0
AsksWhereOpened = (past bytes : List ℕ) (b : ℕ) (rest : List ℕ)
    → opens_in (past ++ bytes) (b ∷ []) ≡ true → asks_after past (bytes ++ b ∷ rest) (length bytes + 1) ≡ true
