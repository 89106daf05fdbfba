-- The state of a processor: what it has parsed and holds.
use Rattle.std.specs.Prelude.{ℕ, Bool, false, List, [], ◌∷◌, ◌++◌, ◌≡◌, Option, is_some, take}
use Rattle.vte_core.specs.Standing.{IsAfter}
use Rattle.vte_types.specs.Call.{Call, Calls}
use Rattle.vte.specs.declared.processor.Processor.{Processor}
use Rattle.vte.specs.Marks.{end_mark, NoneFrom}
use Rattle.vte.specs.Timeout.{Ticking, Tick, Clears, Ticked, Awaits}
use Rattle.vte.specs.Stretch.{last_of, calls_from, ticks_from, opens_in, OpensAt}
use Rattle.vte.specs.Hold.{closing, held_of, Takes, Settles}
use Rattle.vte.specs.Advances.{Advances}

-- the processor's timeout
abbrev pub timeout_of : {T A : Type 0} → Processor T A → T
timeout_of p = p.state.timeout

-- the processor has parsed these bytes, and holds those, among which there is no whole end mark
pub record IsStateAfter {T A : Type 0} (p : Processor T A) (parsed held : List ℕ) : Type 0 where
  pub has_read : IsAfter 1024 p.parser parsed
  pub printed : p.state.preceding_char ≡ last_of parsed
  pub holds : p.held.items ≡ held
  pub no_end : NoneFrom end_mark held 0

-- the processor is in such a state, and the timeout says whether an update is open
pub record HoldsAt {T A : Type 0} (ticking : Ticking T) (p : Processor T A) (parsed : List ℕ) (hold : Option (List ℕ))
    : Type 0 where
  pub state_after : IsStateAfter p parsed (held_of hold)
  pub awaits : Awaits ticking (timeout_of p) (is_some hold)

-- what a piece has done
pub record Advanced {T A H : Type 0} (ticking : Ticking T) (step : H → Call → H → Type 0) (closed : Bool)
    (old : Processor T A) (parsed held piece : List ℕ) (h : H) (new : Processor T A) (h' : H) : Type 0 where
  pub parsed' : List ℕ
  pub held' : List ℕ
  pub calls : List Call
  pub advances : Advances ticking closed (timeout_of old) parsed held piece (timeout_of new) parsed' held' calls
  pub state_after : IsStateAfter new parsed' held'
  pub goes : Calls step h calls h'

-- what a piece does: what is parsed and held then, the calls, and how the timeout is set and cleared, from t to t'
pub record TakesPiece {T : Type 0} (ticking : Ticking T) (t : T) (parsed : List ℕ) (hold : Option (List ℕ))
    (piece : List ℕ) (t' : T) : Type 0 where
  pub parsed' : List ℕ
  pub hold' : Option (List ℕ)
  pub calls : List Call
  pub ticks : List Tick
  pub takes : Takes parsed hold piece parsed' hold' calls ticks
  pub ticked : Ticked ticking t ticks t'

-- what a piece has done, under a timeout that is pending exactly from setting to clearing
pub record Taken {T A H : Type 0} (ticking : Ticking T) (step : H → Call → H → Type 0)
    (old : Processor T A) (parsed : List ℕ) (hold : Option (List ℕ)) (piece : List ℕ) (h : H) (new : Processor T A)
    (h' : H) : Type 0 where
  pub leads : TakesPiece ticking (timeout_of old) parsed hold piece (timeout_of new)
  pub state_after : HoldsAt ticking new leads.parsed' leads.hold'
  pub goes : Calls step h leads.calls h'

-- these bytes were parsed, and then those are held
pub record Parsed {T A H : Type 0} (ticking : Ticking T) (step : H → Call → H → Type 0)
    (old : Processor T A) (parsed bytes held : List ℕ) (h : H) (new : Processor T A) (h' : H) : Type 0 where
  pub state_after : IsStateAfter new (parsed ++ bytes) held
  pub ticked : Ticked ticking (timeout_of old) (ticks_from parsed bytes) (timeout_of new)
  pub goes : Calls step h (calls_from parsed bytes) h'

-- all held bytes were parsed, and the update was closed
pub record Emptied {T A H : Type 0} (ticking : Ticking T) (step : H → Call → H → Type 0)
    (old : Processor T A) (parsed held : List ℕ) (h : H) (new : Processor T A) (h' : H) : Type 0 where
  pub state_after : IsStateAfter new (parsed ++ held) []
  pub ticked : Ticked ticking (timeout_of old) (ticks_from parsed held ++ Clears ∷ []) (timeout_of new)
  pub goes : Calls step h (calls_from parsed held ++ closing) h'

-- a piece that fits was read, while an update was open
pub record Held {T A H : Type 0} (ticking : Ticking T) (step : H → Call → H → Type 0)
    (old : Processor T A) (parsed held piece : List ℕ) (h : H) (new : Processor T A) (h' : H) : Type 0 where
  pub parsed' : List ℕ
  pub hold' : Option (List ℕ)
  pub calls : List Call
  pub ticks : List Tick
  pub settles : Settles parsed held piece parsed' hold' calls ticks
  pub state_after : IsStateAfter new parsed' (held_of hold')
  pub ticked : Ticked ticking (timeout_of old) ticks (timeout_of new)
  pub goes : Calls step h calls h'

-- a byte of the piece opened an update
pub record Begun {T A H : Type 0} (ticking : Ticking T) (step : H → Call → H → Type 0)
    (old : Processor T A) (parsed held piece : List ℕ) (n : ℕ) (h : H) (new : Processor T A) (h' : H) : Type 0 where
  pub opens : OpensAt parsed piece n
  pub parsed_so : Parsed ticking step old parsed (take n piece) held h new h'

-- nothing in the piece opened an update
pub record Unopened {T A H : Type 0} (ticking : Ticking T) (step : H → Call → H → Type 0)
    (old : Processor T A) (parsed held piece : List ℕ) (h : H) (new : Processor T A) (h' : H) : Type 0 where
  pub none : opens_in parsed piece ≡ false
  pub same : timeout_of new ≡ timeout_of old
  pub state_after : IsStateAfter new (parsed ++ piece) held
  pub goes : Calls step h (calls_from parsed piece) h'

-- what a prefix of a piece has done, after which the rest is read
pub record GoesOn {T A H : Type 0} (ticking : Ticking T) (step : H → Call → H → Type 0)
    (old : Processor T A) (parsed held piece rest : List ℕ) (h : H) (new : Processor T A) (h' : H) : Type 0 where
  pub parsed' : List ℕ
  pub held' : List ℕ
  pub calls : List Call
  pub state_after : IsStateAfter new parsed' held'
  pub goes : Calls step h calls h'
  pub further : (t : T) (q k : List ℕ) (cs : List Call)
      → Advances ticking false (timeout_of new) parsed' held' rest t q k cs
      → Advances ticking false (timeout_of old) parsed held piece t q k (calls ++ cs)
