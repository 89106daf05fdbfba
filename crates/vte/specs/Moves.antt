-- What a processor is given, one after another: pieces of the stream, and stops by hand.
use Rattle.std.specs.Prelude.{ℕ, false, List, [], ◌∷◌, ◌++◌}
use Rattle.vte_types.specs.Call.{Call}
use Rattle.vte.specs.Timeout.{Ticking, Clears, Ticked}
use Rattle.vte.specs.Stretch.{calls_from, ticks_from}
use Rattle.vte.specs.Hold.{closing}
use Rattle.vte.specs.Advances.{Advances}

-- a piece is given, or the update is stopped by hand
pub data Move : Type 0 where
  Gives : List ℕ → Move
  Stops : Move

-- the bytes that the moves give
abbrev pub given : List Move → List ℕ
given [] = []
given (Gives piece ∷ moves) = piece ++ given moves
given (Stops ∷ moves) = given moves

-- the moves take a timeout, parsed bytes and held bytes to others, and make these calls, under any timeout
pub data Runs {T : Type 0} (ticking : Ticking T)
    : List Move → T → List ℕ → List ℕ → T → List ℕ → List ℕ → List Call → Type 0 where
  ends : (t : T) (parsed held : List ℕ) → Runs ticking [] t parsed held t parsed held []
  gives : (piece : List ℕ) (moves : List Move) (t : T) (parsed held : List ℕ) (mid : T) (mid_parsed mid_held : List ℕ)
      (calls : List Call)
      (t' : T) (parsed' held' : List ℕ) (more : List Call)
      → Advances ticking false t parsed held piece mid mid_parsed mid_held calls
      → Runs ticking moves mid mid_parsed mid_held t' parsed' held' more
      → Runs ticking (Gives piece ∷ moves) t parsed held t' parsed' held' (calls ++ more)
  -- all held bytes are parsed, and the update is closed
  stops : (moves : List Move) (t : T) (parsed held : List ℕ) (mid : T) (t' : T) (parsed' held' : List ℕ)
      (more : List Call)
      → Ticked ticking t (ticks_from parsed held ++ Clears ∷ []) mid
      → Runs ticking moves mid (parsed ++ held) [] t' parsed' held' more
      → Runs ticking (Stops ∷ moves) t parsed held t' parsed' held' ((calls_from parsed held ++ closing)
      ++ more)
