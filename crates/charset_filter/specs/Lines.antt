-- A program's output as it passes to a screen: as it is, or with the line drawing set's characters as Unicode.
use Rattle.std.specs.Prelude.{◌≡◌, ℕ, List, [], ◌∷◌, ◌++◌, ⊤, vec_capacity}
use Rattle.charset_filter.specs.Filter.{HasRead}
use Rattle.charset_filter.specs.Given.{given_after}
use Rattle.charset_filter.specs.declared.filter.CharsetFilter.{CharsetFilter}
use Rattle.charset_filter.specs.declared.lines.LineDrawing.{LineDrawing}
use Rattle.charset_filter.specs.declared.lines.LineDrawing.TheVariants.{Kept, Drawn}
use Rattle.charset_filter.specs.declared.lines.PieceFilter.{PieceFilter}

-- what bytes give once others have passed
abbrev pub passed : LineDrawing → List ℕ → List ℕ → List ℕ
passed Kept past bytes = bytes
passed Drawn past bytes = given_after past bytes

-- pieces with their lines drawn, once others have passed
abbrev pub drawn_after : List ℕ → List (List ℕ) → List (List ℕ)
drawn_after past [] = []
drawn_after past (piece ∷ pieces) = given_after past piece ∷ drawn_after (past ++ piece) pieces

-- each of these pieces as it passes, one after another
abbrev pub all_passed : LineDrawing → List (List ℕ) → List (List ℕ)
all_passed Kept pieces = pieces
all_passed Drawn pieces = drawn_after [] pieces

abbrev pub HasReadWhere : LineDrawing → CharsetFilter → List ℕ → Type 0
HasReadWhere Kept filter past = ⊤
HasReadWhere Drawn filter past = HasRead filter past

-- these bytes have passed a filter of this kind
pub record HasPassed (filter : PieceFilter) (lines : LineDrawing) (past : List ℕ) : Type 0 where
  pub kind : filter.lines ≡ lines
  pub reads : HasReadWhere lines filter.filter past

abbrev pub given_where : LineDrawing → List ℕ → List ℕ → List ℕ
given_where Kept drawn piece = piece
given_where Drawn drawn piece = drawn

-- what a filter returns for the piece that passed last
abbrev pub piece_of : PieceFilter → List ℕ → List ℕ
piece_of filter piece = given_where filter.lines filter.drawn.items piece

-- how many bytes a piece may give without an allocation
abbrev pub room_of : PieceFilter → ℕ
room_of filter = vec_capacity filter.drawn
