-- What a processor does with a piece, under any timeout. The timeout says whether an update is open.
use Rattle.std.specs.Prelude.{ℕ, Bool, true, false, List, [], ◌∷◌, ◌++◌, ◌≡◌, ◌<◌, ◌≤◌, Option, take, drop, length}
use Rattle.vte_types.specs.Call.{Call}
use Rattle.vte.specs.Timeout.{Ticking, Tick, Clears, Ticked}
use Rattle.vte.specs.Stretch.{calls_from, ticks_from, opens_in, OpensAt}
use Rattle.vte.specs.Hold.{limit, closing, held_of, Settles}

-- no update is open: one was just closed, or the timeout says that none is
abbrev pub IsIdle : {T : Type 0} → Ticking T → Bool → T → Type 0
IsIdle ticking true t = Unit {0}
IsIdle ticking false t = ticking.answers t false

-- All held bytes are parsed before the piece is. So it is if an update is open and the piece doesn't fit, and if bytes
-- are held and the timeout says that no update is open.
abbrev pub IsEmptied : Bool → List ℕ → List ℕ → Type 0
IsEmptied true held piece = limit ≤ length (held ++ piece)
IsEmptied false held piece = 0 < length held

-- A piece takes a timeout, parsed bytes and held bytes to others, and makes these calls. If an update was just closed
-- (the first argument), the timeout isn't asked.
pub data Advances {T : Type 0} (ticking : Ticking T)
    : Bool → T → List ℕ → List ℕ → List ℕ → T → List ℕ → List ℕ → List Call → Type 0 where
  -- nothing is held, and nothing in the piece opens an update
  parses : (closed : Bool) (t : T) (parsed piece : List ℕ) → IsIdle ticking closed t → opens_in parsed piece ≡ false
      → Advances ticking closed t parsed [] piece t (parsed ++ piece) [] (calls_from parsed piece)
  -- nothing is held, a byte opens an update, and the rest is read as a piece
  begins : (closed : Bool) (t : T) (parsed piece : List ℕ) (n : ℕ) (u : T) (t' : T) (parsed' held' : List ℕ)
      (calls : List Call)
      → IsIdle ticking closed t → OpensAt parsed piece n → Ticked ticking t (ticks_from parsed (take n piece)) u
      → Advances ticking false u (parsed ++ take n piece) [] (drop n piece) t' parsed' held' calls
      → Advances ticking closed t parsed [] piece t' parsed' held' (calls_from parsed (take n piece)
      ++ calls)
  -- an update is open, and the piece fits
  settles : (t : T) (parsed held piece : List ℕ) (t' : T) (parsed' : List ℕ) (hold' : Option (List ℕ))
      (calls : List Call) (ticks : List Tick)
      → ticking.answers t true → length (held ++ piece) < limit → Settles parsed held piece parsed' hold' calls ticks
      → Ticked ticking t ticks t'
      → Advances ticking false t parsed held piece t' parsed' (held_of hold') calls
  -- all held bytes are parsed first
  empties : (t : T) (parsed held piece : List ℕ) (is_open : Bool) (u : T) (t' : T) (parsed' held' : List ℕ)
      (calls : List Call)
      → ticking.answers t is_open → IsEmptied is_open held piece
      → Ticked ticking t (ticks_from parsed held ++ Clears ∷ []) u
      → Advances ticking true u (parsed ++ held) [] piece t' parsed' held' calls
      → Advances ticking false t parsed held piece t' parsed' held' ((calls_from parsed held ++ closing)
      ++ calls)
