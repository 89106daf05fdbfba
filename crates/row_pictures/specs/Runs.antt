-- A row of cells as runs of cells that are drawn alike, one after another.
use Rattle.std.specs.Prelude.{◌≡◌, ◌⊎◌, ℕ, ◌+◌, ◌<◌, ◌++◌, ◌&&◌, nat_lt, length, Bool, true, false, List, []}
use Rattle.std.specs.Prelude.{Option, encode_utf8_all}
use Rattle.std.specs.Str.{IsAscii}
use Rattle.vt100_cells.specs.Cell.{CellView}
use Rattle.row_pictures.specs.Drawn.{ink_of, is_drawn}
use Rattle.row_pictures.specs.Paint.{cell_in, style_in}
use Rattle.row_pictures.specs.declared.glyph.Ink.{Ink}

-- The cells of these columns are drawn as the first one, with the same ink, and none but the first is wide; or they are
-- the two columns of a wide character.
abbrev pub AreAlike : List CellView → Option ℕ → ℕ → ℕ → Type 0
AreAlike cells cursor start end = (col : ℕ) → start < col → col < end
    → (((cell_in cells col).wide ≡ false) × (style_in cells cursor col ≡ style_in cells cursor start)
    × (ink_of (cell_in cells col) ≡ ink_of (cell_in cells start)))
    ⊎ (((cell_in cells start).wide ≡ true) × ((cell_in cells col).continuation ≡ true) × (col ≡ start + 1))

-- a cell that has its own width in any font: it is drawn with rectangles, or its text is ASCII
abbrev pub KeepsWidth : CellView → Type 0
KeepsWidth x = (is_drawn x ≡ true) ⊎ IsAscii (encode_utf8_all x.text)

-- The cells of these columns have their own width in any font; or there is one cell alone, with both of its columns if
-- it is wide.
abbrev pub AreInPlace : List CellView → ℕ → ℕ → Type 0
AreInPlace cells start end = (col : ℕ) → start < col → col < end
    → (KeepsWidth (cell_in cells start) × KeepsWidth (cell_in cells col))
    ⊎ ((cell_in cells col).continuation ≡ true)

-- what the first cell of a run is drawn with
abbrev pub first_ink : List CellView → Ink
first_ink run = ink_of (cell_in run 0)

-- all cells of a run are drawn with it, but for the second column of a wide character
abbrev pub ShareInk : List CellView → Type 0
ShareInk run = (n : ℕ) → n < length run
    → (ink_of (cell_in run n) ≡ first_ink run) ⊎ ((cell_in run n).continuation ≡ true)

-- a wide character, with both of its columns
abbrev pub is_wide_run : List CellView → Bool
is_wide_run run = nat_lt 1 (length run) && (cell_in run 0).wide

-- These bytes are such pictures of runs, one after another, of the columns up to this one. A picture has the columns
-- from one up to another.
pub data AreRuns (IsPicture : ℕ → ℕ → List ℕ → Type 0) : ℕ → List ℕ → Type 0 where
  none : AreRuns IsPicture 0 []
  run : {start : ℕ} {before : List ℕ} (end : ℕ) (bytes : List ℕ) → AreRuns IsPicture start before → start < end
      → IsPicture start end bytes → AreRuns IsPicture end (before ++ bytes)

-- pictures of runs are appended, which have this many columns
pub record AddsRuns (IsPicture : ℕ → ℕ → List ℕ → Type 0) (columns : ℕ) (old new : List ℕ) : Type 0 where
  pub more : List ℕ
  pub joined : new ≡ old ++ more
  pub runs : AreRuns IsPicture columns more
