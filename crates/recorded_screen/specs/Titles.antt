-- The titles of pictures.
use Rattle.std.specs.Prelude.{List, ℕ, [], ◌++◌, codes, string_bytes}
use Rattle.std.specs.Option.{option_map_or}
use Rattle.picture_page.specs.Page.{escaped}
use Rattle.picture_page.specs.Tags.{tag_bytes}
use Rattle.picture_page.specs.Titles.{title_text}
use Rattle.picture_page.specs.declared.tag.Tag.TheVariants as tag
use Rattle.row_pictures.specs.declared.look.Look.{Look}

-- ---- a picture in SVG

-- the title of a picture, if it has one
abbrev pub svg_title : Look → List ℕ
svg_title look =
    option_map_or
    (λ title. tag_bytes tag.Title ++ (escaped (title_text (string_bytes title)) ++ tag_bytes tag.TitleEnd))
    look.title []

-- what is seen of it outside of tags: a line
abbrev pub title_line : Look → List ℕ
title_line look =
    option_map_or (λ title. escaped (title_text (string_bytes title)) ++ codes "\n") look.title []

-- ---- a page in HTML

-- the title of a page: `screentext` where the picture has none
abbrev pub page_title : Look → List ℕ
page_title look =
    option_map_or (λ title. escaped (title_text (string_bytes title))) look.title (tag_bytes tag.PageTitle)

-- what comes before the block of a page
abbrev pub page_head : Look → List ℕ
page_head look = tag_bytes tag.PageHead ++ (page_title look ++ tag_bytes tag.PageBody)
