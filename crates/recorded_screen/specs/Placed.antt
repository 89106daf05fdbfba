-- Where the rows of a whole picture are: one below the other, each as its runs of cells.
use Rattle.std.specs.Prelude.{◌≡◌, ℕ, suc, ◌-◌, ◌*◌, List, [], ◌∷◌, ◌++◌, length}
use Rattle.picture_page.specs.Bytes.{numbers_bytes}
use Rattle.picture_page.specs.Tags.{tag_bytes}
use Rattle.picture_page.specs.declared.tag.Tag.TheVariants as tag
use Rattle.row_pictures.specs.Html.{IsHtmlRun}
use Rattle.row_pictures.specs.Runs.{AreRuns}
use Rattle.row_pictures.specs.Svg.{AreSvgRuns}
use Rattle.row_pictures.specs.declared.look.Look.{Look}
use Rattle.screen_model.specs.State.{State}
use Rattle.recorded_screen.specs.Heads.{block_head, svg_head}
use Rattle.recorded_screen.specs.Picture.{cells_shown, cursor_shown, kept_pictured, rows_pictured, scrolled}

-- the runs of a row that is shown, with the cursor, in HTML and in SVG; in SVG up to the last cell that shows something
abbrev pub IsHtmlRow : Look → State → ℕ → List ℕ → Type 0
IsHtmlRow look s r runs = let cells = cells_shown s.shown r in
    AreRuns (IsHtmlRun look cells (cursor_shown look s r)) (length cells) runs

abbrev pub IsSvgRow : Look → State → ℕ → List ℕ → Type 0
IsSvgRow look s r runs = AreSvgRuns look (cells_shown s.shown r) (cursor_shown look s r) runs

-- a line of a block in HTML: the runs of this row, and a newline
pub record IsHtmlLine (look : Look) (s : State) (r : ℕ) (bytes : List ℕ) : Type 0 where
  pub runs : List ℕ
  pub is : bytes ≡ runs ++ 10 ∷ []
  pub row : IsHtmlRow look s r runs

-- row n of a picture in SVG: the runs of this row, 18 pixels a row from the top
pub record IsSvgLine (look : Look) (s : State) (r n : ℕ) (bytes : List ℕ) : Type 0 where
  pub runs : List ℕ
  pub is : bytes ≡ numbers_bytes ((tag.Row, n * 18) ∷ []) ++ (tag_bytes tag.RowCells ++ (runs ++ (tag_bytes tag.RowEnd
      ++ 10 ∷ [])))
  pub row : IsSvgRow look s r runs

-- the first rows from the top, one after another, as many as this
pub data AreLines (IsLine : ℕ → List ℕ → Type 0) : ℕ → List ℕ → Type 0 where
  none : AreLines IsLine 0 []
  line : {r : ℕ} {before : List ℕ} (bytes : List ℕ) → AreLines IsLine r before → IsLine r bytes
      → AreLines IsLine (suc r) (before ++ bytes)

-- row n of a picture of this screen, where `count` kept rows come first
abbrev pub IsHtmlLineOf : Look → State → ℕ → ℕ → List ℕ → Type 0
IsHtmlLineOf look s count n bytes = IsHtmlLine look (scrolled s count (suc n)) (n - count) bytes

abbrev pub IsSvgLineOf : Look → State → ℕ → ℕ → List ℕ → Type 0
IsSvgLineOf look s count n bytes = IsSvgLine look (scrolled s count (suc n)) (n - count) n bytes

-- ---- pictures

-- a block in HTML that has the newest kept rows, `history` at most, and then the rows of a screen, one line each
pub record IsBlock (look : Look) (history : ℕ) (s : State) (bytes : List ℕ) : Type 0 where
  pub lines : List ℕ
  pub is : bytes ≡ block_head look ++ (lines ++ tag_bytes tag.BlockEnd)
  pub placed : AreLines (IsHtmlLineOf look s (kept_pictured history s)) (rows_pictured history s) lines

-- such a block between a head and a foot
pub record IsAround (before after : List ℕ) (look : Look) (history : ℕ) (s : State) (bytes : List ℕ) : Type 0 where
  pub block : List ℕ
  pub is : bytes ≡ before ++ (block ++ after)
  pub placed : IsBlock look history s block

-- a picture in SVG that has the newest kept rows, `history` at most, and then those of a screen, each at its place
pub record IsSvg (look : Look) (history : ℕ) (s : State) (bytes : List ℕ) : Type 0 where
  pub lines : List ℕ
  pub is : bytes ≡ svg_head look (rows_pictured history s) s.shown.width ++ (lines ++ tag_bytes tag.SvgFoot)
  pub placed : AreLines (IsSvgLineOf look s (kept_pictured history s)) (rows_pictured history s) lines
