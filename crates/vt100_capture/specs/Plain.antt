-- The plain pieces of a capture: the text outside its control sequences, each of which goes from ESC to the next m.
use Rattle.std.specs.Prelude.{ℕ, ◌+◌, ◌==◌, Bool, true, false, not, List, [], ◌∷◌, ◌++◌, length, if◌then◌else◌}

-- a piece and its index, unless it is empty
abbrev pub some_piece : ℕ → List ℕ → List (ℕ × List ℕ)
some_piece i piece = if length piece == 0 then [] else (i, piece) ∷ []

-- The pieces of some bytes with their indices. If a control sequence is open before the bytes, they begin at index i;
-- else the piece that was begun before them does.
abbrev pub pieces_from : Bool → ℕ → List ℕ → List ℕ → List (ℕ × List ℕ)
pieces_from true i piece [] = []
pieces_from true i piece (b ∷ bs) = pieces_from (not (b == 109)) (i + 1) [] bs
pieces_from false i piece [] = some_piece i piece
pieces_from false i piece (b ∷ bs) =
    if b == 27 then some_piece i piece ++ pieces_from true (i + length piece + 1) [] bs
    else pieces_from false i (piece ++ b ∷ []) bs

-- the pieces of a text whose first byte has index i
abbrev pub plain_pieces : ℕ → List ℕ → List (ℕ × List ℕ)
plain_pieces i bs = pieces_from false i [] bs
