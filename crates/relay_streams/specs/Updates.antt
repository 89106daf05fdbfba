-- Where a program's synchronized updates end, and where pieces of its output are cut.
use Rattle.std.specs.Prelude.{ℕ, ◌+◌, ◌==◌, Bool, false, ◌&&◌, List, [], ◌∷◌, ◌++◌, take, drop, if◌then◌else◌}
use Rattle.std.specs.List.{list_any}
use Rattle.vte_core.specs.Event.{Event, Csi, Esc}
use Rattle.vte_core.specs.Added.{added}
use Rattle.vte_core.specs.Standing.{IsAfter}
use Rattle.relay_streams.specs.declared.updates.UpdateEnds.{UpdateEnds}

-- private mode 2026
abbrev pub is_update_mode : List ℕ → Bool
is_update_mode (n ∷ []) = n == 2026
is_update_mode ns = false

-- an event that ends an update on any screen: the mode is reset, or the whole terminal is (RIS)
abbrev pub ends_update : Event → Bool
ends_update (Csi gs (i ∷ is) many f) = (i == 0x3F && f == 0x6C) && list_any is_update_mode gs
ends_update (Esc [] many f) = f == 0x63
ends_update e = false

-- an update ends in `bytes`, which follow `past`
abbrev pub ends_in : List ℕ → List ℕ → Bool
ends_in past bytes = list_any ends_update (added 1024 past bytes)

-- the number of bytes up to the last end of an update in them; 0 where no update ends in them
abbrev pub last_end : List ℕ → List ℕ → ℕ
last_end past [] = 0
last_end past (b ∷ bs) = if ends_in past (b ∷ bs) then 1 + last_end (past ++ b ∷ []) bs else 0

-- the bytes as one piece, or no piece if there are none
abbrev pub unless_empty : List ℕ → List (List ℕ)
unless_empty [] = []
unless_empty (b ∷ bs) = (b ∷ bs) ∷ []

-- a piece that is cut at the last end of an update in it: the bytes up to that end, and the rest
abbrev pub cut_piece : List ℕ → List ℕ → List (List ℕ)
cut_piece past piece =
    unless_empty (take (last_end past piece) piece) ++ unless_empty (drop (last_end past piece) piece)

-- pieces that follow other bytes, each cut like this
abbrev pub cut_after : List ℕ → List (List ℕ) → List (List ℕ)
cut_after past [] = []
cut_after past (piece ∷ pieces) = cut_piece past piece ++ cut_after (past ++ piece) pieces

abbrev pub cut_pieces : List (List ℕ) → List (List ℕ)
cut_pieces pieces = cut_after [] pieces

-- these bytes were searched for ends
abbrev pub HasSearched : UpdateEnds → List ℕ → Type 0
HasSearched ends past = IsAfter 1024 ends.parser past
