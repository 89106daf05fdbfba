-- The calls of some bytes of a stream, after those that were parsed before them.
use Rattle.std.specs.Prelude.{ℕ, Bool, true, false, List, ◌≡◌, ◌<◌, ◌≤◌, Option, None, take, length}
use Rattle.std.specs.List.{list_any}
use Rattle.vte_core.specs.Event.{Event}
use Rattle.vte_core.specs.Shapes.{events}
use Rattle.vte_core.specs.Added as core
use Rattle.vte_types.specs.Call.{Call}
use Rattle.vte.specs.Table.{opens}
use Rattle.vte.specs.Timeout.{Tick, sets_of}
use Rattle.vte.specs.Performed.{last_after_all, calls_of_all, openers_of_all}

-- the events of a stream with these bytes, without those of the bytes before
abbrev pub added : List ℕ → List ℕ → List Event
added past bytes = core.added 1024 past bytes

-- the last character that is printed by these bytes
abbrev pub last_of : List ℕ → Option ℕ
last_of past = last_after_all None (events 1024 past)

-- the calls of the next bytes
abbrev pub calls_from : List ℕ → List ℕ → List Call
calls_from past bytes = calls_of_all (last_of past) (added past bytes)

-- how the next bytes set the timeout
abbrev pub ticks_from : List ℕ → List ℕ → List Tick
ticks_from past bytes = sets_of (openers_of_all (added past bytes))

-- one of the next bytes opens an update
abbrev pub opens_in : List ℕ → List ℕ → Bool
opens_in past bytes = list_any opens (added past bytes)

-- an update is opened by the n-th of the bytes, and by none before it
pub record OpensAt (past piece : List ℕ) (n : ℕ) : Type 0 where
  pub within : n ≤ length piece
  pub opened : opens_in past (take n piece) ≡ true
  pub first : (m : ℕ) → m < n → opens_in past (take m piece) ≡ false
