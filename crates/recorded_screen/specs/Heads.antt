-- What comes before the rows of a picture.
use Rattle.std.specs.Prelude.{ℕ, ◌*◌, List, [], ◌∷◌, ◌++◌, string_bytes}
use Rattle.std.specs.Option.{option_map_or}
use Rattle.picture_page.specs.Bytes.{numbers_bytes}
use Rattle.picture_page.specs.Page.{escaped}
use Rattle.picture_page.specs.Tags.{tag_bytes}
use Rattle.picture_page.specs.declared.tag.Tag.{Tag}
use Rattle.picture_page.specs.declared.tag.Tag.TheVariants as tag
use Rattle.row_pictures.specs.Html.{html_colors}
use Rattle.row_pictures.specs.Svg.{rectangle}
use Rattle.row_pictures.specs.declared.look.Look.{Look}
use Rattle.recorded_screen.specs.Titles.{svg_title}

-- the name of the font between two pieces of markup, if there is one
abbrev pub font_bytes : Tag → Tag → Look → List ℕ
font_bytes before after look =
    option_map_or (λ name. tag_bytes before ++ (escaped (string_bytes name) ++ tag_bytes after)) look.font []

abbrev pub block_head : Look → List ℕ
block_head look =
    tag_bytes tag.Block
    ++ (html_colors look.theme.fgcolor look.theme.bgcolor
    ++ (font_bytes tag.BlockFont tag.BlockFontEnd look ++ tag_bytes tag.BlockRows))

-- The head of a picture in SVG of this many rows and columns: its size, its title, and as background a rectangle as
-- large as the picture.
abbrev pub svg_head : Look → ℕ → ℕ → List ℕ
svg_head look rows cols =
    let width = cols * 9 in
    let height = rows * 18 in
    tag_bytes tag.Svg
    ++ (font_bytes tag.SvgFont tag.SvgFontEnd look
    ++ (tag_bytes tag.Monospace
    ++ (numbers_bytes ((tag.Width, width) ∷ (tag.Height, height) ∷ (tag.ViewBox, width) ∷ (tag.Space, height) ∷ [])
    ++ (tag_bytes tag.SvgRows
    ++ (svg_title look ++ (rectangle 0 width height look.theme.bgcolor ++ tag_bytes tag.Newline))))))
