-- The elements of a row in HTML, and the runs that they show.
use Rattle.std.specs.Prelude.{◌≡◌, ◌⊎◌, ℕ, ◌-◌, Bool, false, List, ◌++◌, take, drop, Option}
use Rattle.picture_page.specs.Page.{escaped}
use Rattle.picture_page.specs.Tags.{tag_bytes}
use Rattle.picture_page.specs.declared.page.Rgb.{Rgb}
use Rattle.picture_page.specs.declared.tag.Tag.TheVariants as tag
use Rattle.vt100_cells.specs.Cell.{CellView}
use Rattle.row_pictures.specs.Elements.{filled, tag_if}
use Rattle.row_pictures.specs.Paint.{back_color, plain_style, style_in, text_color}
use Rattle.row_pictures.specs.Runs.{AreAlike, is_wide_run}
use Rattle.row_pictures.specs.Text.{row_text}
use Rattle.row_pictures.specs.declared.look.Look.{Look}
use Rattle.row_pictures.specs.declared.style.Style.{Style}

-- the colours of texts and of their backgrounds, as properties of a style
abbrev pub html_colors : Rgb → Rgb → List ℕ
html_colors front back = filled tag.Color front ++ filled tag.Background back

abbrev pub span_head : Look → Style → Bool → List ℕ
span_head look s wide =
    tag_bytes tag.Span
    ++ (html_colors (text_color look s) (back_color look s)
    ++ (tag_if s.bold tag.SpanBold
    ++ (tag_if s.italic tag.SpanItalic
    ++ (tag_if s.underline tag.SpanUnderline ++ (tag_if wide tag.SpanWide ++ tag_bytes tag.SpanText)))))

-- the text of a run in an element of its own, with its colours
abbrev pub span : Look → List CellView → Style → List ℕ
span look run s = span_head look s (is_wide_run run) ++ (escaped (row_text run) ++ tag_bytes tag.SpanEnd)

-- a run in this style: an element of its own, or the text alone where it is drawn as an untouched cell is
abbrev pub IsSpan : Look → List CellView → Style → List ℕ → Type 0
IsSpan look run s bytes =
    (bytes ≡ span look run s)
    ⊎ ((s ≡ plain_style) × (is_wide_run run ≡ false) × (bytes ≡ escaped (row_text run)))

-- the columns from `start` up to `end` of a row are a run: its cells are alike, and are drawn as the first one
pub record IsHtmlRun (look : Look) (cells : List CellView) (cursor : Option ℕ) (start end : ℕ) (bytes : List ℕ)
    : Type 0 where
  pub alike : AreAlike cells cursor start end
  pub drawn : IsSpan look (take (end - start) (drop start cells)) (style_in cells cursor start) bytes
