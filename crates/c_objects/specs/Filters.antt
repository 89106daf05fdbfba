-- What each call does to a filter that draws lines, and the number that it returns.
use Rattle.std.specs.Prelude.{◌≡◌, ◌≢◌, ◌⊎◌, ◌<◌, ◌≤◌, ◌+◌, ◌*◌, ℕ, ℤ, List, [], ◌++◌, length}
use Rattle.charset_filter.specs.Given.{given_after}
use Rattle.charset_filter.specs.Lines.{HasPassed, piece_of, room_of}
use Rattle.charset_filter.specs.declared.lines.LineDrawing.TheVariants.{Drawn}
use Rattle.charset_filter.specs.declared.lines.PieceFilter.{PieceFilter}
use Rattle.c_objects.specs.Codes.{ok, memory}
use Rattle.c_objects.specs.Texts.{IsCopied}
use Rattle.c_objects.specs.declared.object.Object.{Object}
use Rattle.c_objects.specs.declared.object.Object.TheVariants.{Hub, View, Screen, Recording, Filter}

-- what the last piece gave
abbrev pub last_given : PieceFilter → List ℕ
last_given f = piece_of f []

-- ---- new

-- a filter that draws lines, through which nothing has passed, and which has given nothing
abbrev pub IsNewFilter : Object → Type 0
IsNewFilter (Hub h) = ⊥
IsNewFilter (View v) = ⊥
IsNewFilter (Screen m) = ⊥
IsNewFilter (Recording r) = ⊥
IsNewFilter (Filter f) = HasPassed f Drawn [] × (last_given f ≡ [])

-- ---- the call that changes it

-- The piece has passed. The filter gives its output for the piece, which follows all that has passed before. From now
-- on it has room for a piece of that length.
pub record HasPassedOn (bytes : List ℕ) (f g : PieceFilter) : Type 0 where
  pub passed : (past : List ℕ) → HasPassed f Drawn past → HasPassed g Drawn (past ++ bytes)
  pub gives : (past : List ℕ) → HasPassed f Drawn past → last_given g ≡ given_after past bytes
  pub short : (past : List ℕ) → HasPassed f Drawn past → length (last_given g) ≤ 8 * length bytes + 512
  pub room : (past : List ℕ) → HasPassed f Drawn past → 0 < length bytes → 8 * length bytes + 512 ≤ room_of g
  pub keeps : room_of f ≤ room_of g

-- The piece has not passed. It isn't empty, and the filter had no room for it.
pub record HasNotPassed (bytes : List ℕ) (f g : PieceFilter) : Type 0 where
  pub some : bytes ≢ []
  pub full : (past : List ℕ) → HasPassed f Drawn past → room_of f < 8 * length bytes + 512
  pub passed : (past : List ℕ) → HasPassed f Drawn past → HasPassed g Drawn past
  pub keeps : room_of f ≤ room_of g

-- the piece passes; or an allocation failed, and it has not passed
abbrev pub Passes : List ℕ → PieceFilter → ℤ → PieceFilter → Type 0
Passes bytes f code g = ((code ≡ ok) × HasPassedOn bytes f g) ⊎ ((code ≡ memory) × HasNotPassed bytes f g)

-- ---- the call that reads it

-- what the last piece gave is copied, as much as fits, and counted
abbrev pub GivesLast : List ℕ → List ℕ → ℕ → PieceFilter → ℤ → Type 0
GivesLast old new count f code = (code ≡ ok) × IsCopied (last_given f) old new count
