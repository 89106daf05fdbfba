-- The hold of synchronized updates (private mode 2026): which of the given bytes are parsed, and which are held.
use Rattle.std.specs.Prelude.{ℕ, ◌-◌, true, false, List, [], ◌∷◌, ◌++◌, ◌≡◌, ◌<◌, ◌≤◌, ◌+◌, Option, None, Some, take}
use Rattle.std.specs.Prelude.{drop, length}
use Rattle.vte_types.specs.Call.{Call, unset_private_mode}
use Rattle.vte_types.specs.declared.mode.PrivateMode.TheVariants.{Named}
use Rattle.vte_types.specs.declared.mode.NamedPrivateMode.TheVariants.{SyncUpdate}
use Rattle.vte.specs.Marks.{start_mark, end_mark, is_found_at, NoneFrom, IsLast, IsFirstFrom}
use Rattle.vte.specs.Timeout.{Ticking, Tick, Sets, Clears, Ticked}
use Rattle.vte.specs.Stretch.{calls_from, ticks_from, opens_in, OpensAt}

-- held and new bytes together must be fewer than this, or all held ones are parsed first
abbrev pub limit : ℕ
limit = 2097151

-- the call that says that an update was closed
abbrev pub closing : List Call
closing = unset_private_mode (Named SyncUpdate) ∷ []

-- the held bytes are parsed up to here: the first start mark after the last end mark
abbrev pub IsCut : List ℕ → ℕ → Type 0
IsCut text n = (e : ℕ) × IsLast end_mark text e × IsFirstFrom start_mark text (e + 1) n

-- there is an end mark, and no start mark after the last one
abbrev pub Closes : List ℕ → Type 0
Closes text = (e : ℕ) × IsLast end_mark text e × NoneFrom start_mark text (e + 1)

-- a mark that begins here or later wasn't whole in the held bytes
abbrev pub unseen : List ℕ → ℕ
unseen held = length held - 7

-- the timeout is set again if the piece completes a start mark
pub data Renews (text : List ℕ) (from : ℕ) : List Tick → Type 0 where
  again : (k : ℕ) → from ≤ k → is_found_at start_mark text k ≡ true → Renews text from (Sets ∷ [])
  quiet : NoneFrom start_mark text from → Renews text from []

pub record Renewed {T : Type 0} (ticking : Ticking T) (old : T) (text : List ℕ) (from : ℕ) (new : T) : Type 0 where
  pub ticks : List Tick
  pub renews : Renews text from ticks
  pub ticked : Ticked ticking old ticks new

-- A piece that fits, while an update is open. It takes parsed and held bytes to these (the held ones are `None` if the
-- update is closed), makes these calls, and sets and clears the timeout so.
pub data Settles : List ℕ → List ℕ → List ℕ → List ℕ → Option (List ℕ) → List Call → List Tick → Type 0 where
  -- no end mark: all is held
  keeps : (parsed held piece : List ℕ) (ticks : List Tick) → Renews (held ++ piece) (unseen held) ticks
      → NoneFrom end_mark (held ++ piece) 0 → Settles parsed held piece parsed (Some (held ++ piece)) [] ticks
  -- an end mark, and a start mark after it: the start mark and what follows it stay held
  replays : (parsed held piece : List ℕ) (ticks : List Tick) → Renews (held ++ piece) (unseen held) ticks → (n : ℕ)
      → IsCut (held ++ piece) n
      → Settles parsed held piece (parsed ++ take n (held ++ piece)) (Some (drop n (held ++ piece)))
      (calls_from parsed (take n (held ++ piece))) (ticks ++ ticks_from parsed (take n (held ++ piece)))
  -- an end mark, and no start mark after it: all is parsed, and the update is closed
  closes : (parsed held piece : List ℕ) (ticks : List Tick) → Renews (held ++ piece) (unseen held) ticks
      → Closes (held ++ piece)
      → Settles parsed held piece (parsed ++ (held ++ piece)) None
      (calls_from parsed (held ++ piece) ++ closing) (ticks ++ (ticks_from parsed (held ++ piece) ++ Clears ∷ []))

-- A piece, after `parsed` bytes, with no update open (`None`) or with the bytes held that came since one was opened. It
-- takes parsed and held bytes to these, makes these calls, and sets and clears the timeout so.
pub data Takes : List ℕ → Option (List ℕ) → List ℕ → List ℕ → Option (List ℕ) → List Call → List Tick → Type 0 where
  -- nothing in the piece opens an update
  parses : (parsed piece : List ℕ) → opens_in parsed piece ≡ false
      → Takes parsed None piece (parsed ++ piece) None (calls_from parsed piece) []
  -- a byte opens an update, and the rest is read as a piece
  begins : (parsed piece : List ℕ) (n : ℕ) (parsed' : List ℕ) (hold' : Option (List ℕ)) (calls : List Call)
      (ticks : List Tick)
      → OpensAt parsed piece n → Takes (parsed ++ take n piece) (Some []) (drop n piece) parsed' hold' calls ticks
      → Takes parsed None piece parsed' hold' (calls_from parsed (take n piece)
      ++ calls) (ticks_from parsed (take n piece) ++ ticks)
  -- an update is open, and the piece fits
  settles : (parsed held piece parsed' : List ℕ) (hold' : Option (List ℕ)) (calls : List Call) (ticks : List Tick)
      → length (held ++ piece) < limit → Settles parsed held piece parsed' hold' calls ticks
      → Takes parsed (Some held) piece parsed' hold' calls ticks
  -- an update is open, and the piece doesn't fit: all held bytes are parsed, and then the piece
  overflows : (parsed held piece parsed' : List ℕ) (hold' : Option (List ℕ)) (calls : List Call) (ticks : List Tick)
      → limit ≤ length (held ++ piece) → Takes (parsed ++ held) None piece parsed' hold' calls ticks
      → Takes parsed (Some held) piece parsed' hold' ((calls_from parsed held ++ closing)
      ++ calls) ((ticks_from parsed held ++ Clears ∷ []) ++ ticks)

abbrev pub held_of : Option (List ℕ) → List ℕ
held_of None = []
held_of (Some held) = held
