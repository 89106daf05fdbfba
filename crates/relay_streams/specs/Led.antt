-- Pieces that are given to a view one after another.
use Rattle.std.specs.Prelude.{◌≡◌, ℕ, List, [], ◌∷◌, Option, map, Ok, Result}
use Rattle.vte.specs.Moves.{Gives}
use Rattle.vte.specs.Frames.{Drives}
use Rattle.termview.specs.declared.view.View.{View}
use Rattle.termview.specs.declared.until_cleared.UntilCleared.{UntilCleared}
use Rattle.termview.specs.Timeout.{until_cleared}
use Rattle.termview.specs.Standing.{HoldsAt, view_size}
use Rattle.relay_streams.specs.declared.error.RelayError.{RelayError}

-- the state in which the pieces leave a view that has a parsed text and a hold
pub record LedTo (old : View UntilCleared) (parsed : List ℕ) (hold : Option (List ℕ)) (pieces : List (List ℕ))
    (new : View UntilCleared) : Type 0 where
  pub parsed' : List ℕ
  pub hold' : Option (List ℕ)
  pub leads : Drives (map Gives pieces) parsed hold parsed' hold'
  pub holds : HoldsAt until_cleared new parsed' hold'
  pub size : view_size new ≡ view_size old

-- the pieces lead the view on, whichever parsed text and hold it has
pub record Led (old : View UntilCleared) (pieces : List (List ℕ)) (new : View UntilCleared) : Type 0 where
  pub goes : (parsed : List ℕ) (hold : Option (List ℕ)) → HoldsAt until_cleared old parsed hold
      → LedTo old parsed hold pieces new

-- a view is given this piece, which is never refused
abbrev pub GivesPiece : View UntilCleared → List ℕ → Result (Unit {0}) RelayError → View UntilCleared → Type 0
GivesPiece old piece answer new = (answer ≡ Ok tt) × Led old (piece ∷ []) new
