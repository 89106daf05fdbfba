-- The elements of a row in SVG, and the runs that they show.
use Rattle.std.specs.Prelude.{◌≡◌, ℕ, zero, suc, ◌+◌, ◌-◌, ◌*◌, ◌^◌, ◌==◌, ◌&&◌, min, Bool, List, [], ◌∷◌, ◌++◌, take, drop}
use Rattle.std.specs.Prelude.{length, Option, if◌then◌else◌}
use Rattle.std.specs.List.{flat_map}
use Rattle.picture_page.specs.Bytes.{numbers_bytes}
use Rattle.picture_page.specs.Page.{escaped}
use Rattle.picture_page.specs.Tags.{tag_bytes}
use Rattle.picture_page.specs.declared.page.Rgb.{Rgb}
use Rattle.picture_page.specs.declared.tag.Tag.TheVariants as tag
use Rattle.vt100_cells.specs.Cell.{CellView}
use Rattle.row_pictures.specs.Drawn.{areas_of}
use Rattle.row_pictures.specs.Elements.{filled, tag_if}
use Rattle.row_pictures.specs.Paint.{back_color, cell_in, style_in, text_color}
use Rattle.row_pictures.specs.Runs.{AreAlike, AreInPlace, AreRuns, first_ink, is_wide_run}
use Rattle.row_pictures.specs.Text.{row_text}
use Rattle.row_pictures.specs.Unpadded.{unpadded}
use Rattle.row_pictures.specs.declared.glyph.Ink.{Ink}
use Rattle.row_pictures.specs.declared.glyph.Ink.TheVariants.{Font, Shade, Solid}
use Rattle.row_pictures.specs.declared.look.Look.{Look}
use Rattle.row_pictures.specs.declared.style.Style.{Style}

-- limited to the largest number of 32 bits
abbrev pub in_32_bits : ℕ → ℕ
in_32_bits n = min n (2 ^ 32 - 1)

-- the pixels of this many columns
abbrev pub pixels : ℕ → ℕ
pixels columns = in_32_bits (columns * 9)

abbrev pub same_color : Rgb → Rgb → Bool
same_color a b = (a.red == b.red) && ((a.green == b.green) && (a.blue == b.blue))

-- a rectangle whose top is at 0
abbrev pub rectangle : ℕ → ℕ → ℕ → Rgb → List ℕ
rectangle x width height color =
    numbers_bytes ((tag.Rect, x) ∷ (tag.Width, width) ∷ (tag.Height, height) ∷ [])
    ++ (filled tag.Fill color ++ tag_bytes tag.Close)

-- the background of a run: a rectangle as high as a row, unless it is the background of the picture
abbrev pub behind : Look → ℕ → ℕ → Rgb → List ℕ
behind look x width color = if same_color color look.theme.bgcolor then [] else rectangle x width 18 color

-- A text: where it begins, how far down its line is, how wide it is, its colour, and how it is written. That of a wide
-- character is stretched to its width.
abbrev pub letters : ℕ → Rgb → Style → List CellView → List ℕ
letters col color s run =
    numbers_bytes ((tag.Text, pixels col) ∷ (tag.Y, 14) ∷ (tag.Length, pixels (length run)) ∷ [])
    ++ (filled tag.Fill color
    ++ (tag_if s.bold tag.TextBold ++ (tag_if s.italic tag.TextItalic ++ (tag_if s.underline tag.TextUnderline
    ++ (tag_if (is_wide_run run) tag.Stretched
    ++ (tag_bytes tag.TextStart ++ (escaped (row_text run) ++ tag_bytes tag.TextEnd)))))))

-- a rectangle of a cell whose left is at x, as a part of a path
abbrev pub area_data : ℕ → ℕ × ℕ × ℕ × ℕ → List ℕ
area_data x a =
    numbers_bytes ((tag.MoveTo, in_32_bits (x + a.0)) ∷ (tag.Space, a.1) ∷ (tag.Right, a.2) ∷ (tag.Down, a.3)
    ∷ (tag.Left, a.2) ∷ []) ++ tag_bytes tag.Shut

-- the rectangles of such a cell
abbrev pub glyph : ℕ → CellView → List ℕ
glyph x cell = flat_map (area_data x) (areas_of cell)

-- those of the first n cells of a run that begins in this column, each cell in its own column
abbrev pub glyphs : ℕ → List CellView → ℕ → List ℕ
glyphs col run zero = []
glyphs col run (suc n) = glyphs col run n ++ glyph (pixels (col + n)) (cell_in run n)

-- how opaque rectangles are: wholly, or a number of hundredths
abbrev pub opacity_of : Ink → List ℕ
opacity_of Font = []
opacity_of Solid = []
opacity_of (Shade hundredths) = numbers_bytes ((tag.Opacity, hundredths) ∷ [])

-- line drawing or block characters as a path, which is labelled with them
abbrev pub path : Ink → ℕ → Rgb → List CellView → List ℕ
path ink col color run =
    filled tag.Lines color
    ++ (opacity_of ink ++ (tag_bytes tag.LinesData ++ (glyphs col run (length run)
    ++ (tag_bytes tag.LinesLabel ++ (escaped (row_text run) ++ tag_bytes tag.Close)))))

-- what draws the cells of a run: a text, or a path, which is as opaque as they are
abbrev pub inked : Ink → ℕ → Rgb → Style → List CellView → List ℕ
inked Font col color s run = letters col color s run
inked Solid col color s run = path Solid col color run
inked (Shade hundredths) col color s run = path (Shade hundredths) col color run

-- the cells of a run that begins in this column, in this style
abbrev pub drawn : Look → List CellView → ℕ → Style → List ℕ
drawn look run col s =
    behind look (pixels col) (pixels (length run)) (back_color look s)
    ++ inked (first_ink run) col (text_color look s) s run

-- The columns from `start` up to `end` of a row are a run: its cells are alike and stay in their columns in any font,
-- and it is drawn in the style of the first one, in its columns.
pub record IsSvgRun (look : Look) (cells : List CellView) (cursor : Option ℕ) (start end : ℕ) (bytes : List ℕ)
    : Type 0 where
  pub alike : AreAlike cells cursor start end
  pub in_place : AreInPlace cells start end
  pub drawn_so : bytes ≡ drawn look (take (end - start) (drop start cells)) start (style_in cells cursor start)

-- a row: its runs, up to the last cell that shows something
abbrev pub AreSvgRuns : Look → List CellView → Option ℕ → List ℕ → Type 0
AreSvgRuns look cells cursor bytes =
    let written = unpadded cells cursor in AreRuns (IsSvgRun look written cursor) (length written) bytes
