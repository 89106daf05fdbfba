-- What pictures show of a screen.
use Rattle.std.specs.Prelude.{ℕ, zero, suc, ◌+◌, ◌-◌, ◌^◌, ◌==◌, ◌||◌, not, min, List, [], ◌∷◌, ◌++◌, codes, length}
use Rattle.std.specs.Prelude.{take, Option, Some, None, if◌then◌else◌}
use Rattle.std.specs.Option.{option_map_or}
use Rattle.vt100_cells.specs.Cell.{CellView}
use Rattle.vt100_core.specs.Grid.{GridView, visible_row_at}
use Rattle.row_pictures.specs.Drawn.{font_texts}
use Rattle.row_pictures.specs.Text.{row_text}
use Rattle.row_pictures.specs.Unpadded.{unpadded}
use Rattle.row_pictures.specs.declared.look.Look.{Look}
use Rattle.screen_model.specs.State.{State}
use Rattle.screen_model.specs.Step.{kept_shown}

-- the cells of a row that is shown, as far as the screen is wide
abbrev pub cells_shown : GridView → ℕ → List CellView
cells_shown g r = option_map_or (λ v. take g.width v.cells) (visible_row_at g r) []

-- the texts of these cells, and a newline
abbrev pub line_text : GridView → ℕ → List ℕ
line_text g r = row_text (cells_shown g r) ++ 10 ∷ []

-- the column of a row in which the cursor is shown, if it is: one after the last column is shown in that column
abbrev pub cursor_shown : Look → State → ℕ → Option ℕ
cursor_shown look s r =
    if (look.hides_cursor || s.hidden) || not (s.shown.kept.offset + s.shown.row == r) then None
    else Some (min s.shown.col (s.shown.width - 1))

-- in SVG: the cells of a row up to the last one that shows something
abbrev pub cells_written : Look → State → ℕ → List CellView
cells_written look s r = unpadded (cells_shown s.shown r) (cursor_shown look s r)

-- the texts of these cells, and a newline
abbrev pub written_line : Look → State → ℕ → List ℕ
written_line look s r = row_text (cells_written look s r) ++ 10 ∷ []

-- the texts of those that come in a font, and a newline
abbrev pub font_line : Look → State → ℕ → List ℕ
font_line look s r = font_texts (cells_written look s r) ++ 10 ∷ []

-- ---- the rows of a picture

-- how many kept rows come before those of the screen, `history` at most: a picture has at most 65,535 rows
abbrev pub kept_pictured : ℕ → State → ℕ
kept_pictured history s = min history (min (length s.shown.kept.rows) (2 ^ 16 - 1 - s.shown.height))

abbrev pub rows_pictured : ℕ → State → ℕ
rows_pictured history s = kept_pictured history s + s.shown.height

-- the screen that was scrolled back to `count` kept rows, then to one fewer, and so on: n times
abbrev pub scrolled : State → ℕ → ℕ → State
scrolled s count zero = s
scrolled s count (suc n) = kept_shown (count - n) (scrolled s count n)

-- The first n rows, where `count` kept ones come first. Each of these is at the top of the screen that is scrolled back
-- to it, and then come the rows of the screen that isn't scrolled back.
abbrev pub lines_text : State → ℕ → ℕ → List ℕ
lines_text s count zero = []
lines_text s count (suc n) = lines_text s count n ++ line_text (scrolled s count (suc n)).shown (n - count)

abbrev pub screen_text : ℕ → State → List ℕ
screen_text history s = lines_text s (kept_pictured history s) (rows_pictured history s)

-- the same in SVG
abbrev pub written_lines : Look → State → ℕ → ℕ → List ℕ
written_lines look s count zero = []
written_lines look s count (suc n) =
    written_lines look s count n ++ written_line look (scrolled s count (suc n)) (n - count)

abbrev pub written_text : Look → ℕ → State → List ℕ
written_text look history s = written_lines look s (kept_pictured history s) (rows_pictured history s)

-- and of this what comes in a font
abbrev pub font_lines : Look → State → ℕ → ℕ → List ℕ
font_lines look s count zero = []
font_lines look s count (suc n) =
    font_lines look s count n ++ font_line look (scrolled s count (suc n)) (n - count)

abbrev pub font_text : Look → ℕ → State → List ℕ
font_text look history s = font_lines look s (kept_pictured history s) (rows_pictured history s)

-- ---- what is seen

-- what is outside of the tags before the rows: a title between two newlines
abbrev pub front_seen : List ℕ → List ℕ
front_seen title = codes "\n" ++ (title ++ codes "\n")

-- what is outside of the tags of a block in HTML that has these rows: a newline, and then the rows
abbrev pub block_seen : List ℕ → List ℕ
block_seen rows = codes "\n" ++ rows

-- of a page in HTML that has this title: it, and the block
abbrev pub page_seen : List ℕ → List ℕ → List ℕ
page_seen title rows = front_seen title ++ (block_seen rows ++ codes "\n")

-- of a picture in SVG: its title, if it has one, with a newline, and the rows
abbrev pub svg_seen : List ℕ → List ℕ → List ℕ
svg_seen title rows = (front_seen title ++ rows) ++ codes "\n"
