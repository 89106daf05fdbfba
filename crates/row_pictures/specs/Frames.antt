-- The frame of a picture in SVG: how large the picture is shown, and what is around it.
use Rattle.std.specs.Prelude.{ℕ, ◌+◌, ◌*◌, ◌/◌, ◌==◌, ◌&&◌, Bool, List, [], ◌∷◌, ◌++◌, Option, codes, is_none}
use Rattle.std.specs.Prelude.{if◌then◌else◌, string_bytes}
use Rattle.std.specs.Option.{option_map, option_map_or}
use Rattle.picture_page.specs.Bytes.{numbers_bytes}
use Rattle.picture_page.specs.Page.{escaped}
use Rattle.picture_page.specs.Tags.{tag_bytes}
use Rattle.picture_page.specs.declared.page.Rgb.{Rgb}
use Rattle.picture_page.specs.declared.tag.Tag.TheVariants as tag
use Rattle.row_pictures.specs.Elements.{filled}
use Rattle.row_pictures.specs.Svg.{rectangle}
use Rattle.row_pictures.specs.Themes.{rgb_of}
use Rattle.row_pictures.specs.declared.frame.Frame.{Frame}
use Rattle.row_pictures.specs.declared.theme.Theme.{Theme}

-- how many pixels there are between the picture and each edge, how many of them letters are high, and the title of the
-- window, if there is one
pub record FrameView : Type 0 where
  pub padding : ℕ
  pub font_size : ℕ
  pub title : Option (List ℕ)

abbrev pub frame_said : Frame → FrameView
frame_said f =
    record { padding = f.padding; font_size = f.font_size; title = option_map string_bytes f.title }

-- a frame that adds nothing: the letters of a picture are 15 pixels high
abbrev pub is_bare : FrameView → Bool
is_bare f = is_none f.title && (f.padding == 0 && f.font_size == 15)

-- ---- sizes, in pixels

-- the size at which this many pixels of the picture are shown
abbrev pub enlarged : FrameView → ℕ → ℕ
enlarged f pixels = (pixels * f.font_size + 14) / 15

-- the bar of a window is twice as high as its letters
abbrev pub bar_height : FrameView → ℕ
bar_height f = option_map_or (λ title. 2 * f.font_size) f.title 0

abbrev pub framed_width : FrameView → ℕ → ℕ
framed_width f width = enlarged f width + 2 * f.padding

abbrev pub framed_height : FrameView → ℕ → ℕ
framed_height f height = bar_height f + (enlarged f height + 2 * f.padding)

-- ---- what is around a picture

-- the beginning of a rectangle with round corners, whose radius is two thirds of the size of the letters
abbrev pub outline : ℕ → ℕ → ℕ → List ℕ
outline size width height =
    numbers_bytes ((tag.Rect, 0) ∷ (tag.Width, width) ∷ (tag.Height, height) ∷ (tag.Corner, 2 * size / 3) ∷ [])

-- what cuts off the corners of a window
abbrev pub clip_bytes : ℕ → ℕ → ℕ → List ℕ
clip_bytes size width height = tag_bytes tag.ClipStart ++ (outline size width height ++ tag_bytes tag.ClipEnd)

abbrev pub window_clip : FrameView → ℕ → ℕ → List ℕ
window_clip f width height = option_map_or (λ title. clip_bytes f.font_size width height) f.title []

-- the edge of a window along its outline, and the end of what is cut
abbrev pub edge_bytes : ℕ → ℕ → ℕ → Rgb → List ℕ
edge_bytes size width height color =
    outline size width height ++ (filled tag.Edge color ++ tag_bytes tag.EdgeEnd)

-- what comes first: the size of the whole, what cuts off the corners of a window, if it is one, and a rectangle of that
-- size, in the background of the theme
abbrev pub head_bytes : FrameView → Theme → ℕ → ℕ → List ℕ
head_bytes f theme width height =
    tag_bytes tag.Frame
    ++ (numbers_bytes ((tag.Width, width) ∷ (tag.Height, height) ∷ (tag.ViewBox, width) ∷ (tag.Space, height) ∷ [])
    ++ (tag_bytes tag.SvgRows
    ++ (window_clip f width height ++ (rectangle 0 width height theme.bgcolor ++ tag_bytes tag.Newline))))

abbrev pub frame_head : FrameView → Theme → ℕ → ℕ → List ℕ
frame_head f theme width height = head_bytes f theme (framed_width f width) (framed_height f height)

-- the edge of a window, if it is one, in the colour of texts
abbrev pub window_edge : FrameView → Theme → ℕ → ℕ → List ℕ
window_edge f theme width height =
    option_map_or (λ title. edge_bytes f.font_size (framed_width f width) (framed_height f height) theme.fgcolor)
    f.title []

-- a rectangle at the top left, through which what is below it is seen
abbrev pub shade : ℕ → ℕ → Rgb → List ℕ
shade width height color =
    numbers_bytes ((tag.Rect, 0) ∷ (tag.Width, width) ∷ (tag.Height, height) ∷ (tag.Opacity, 15) ∷ [])
    ++ (filled tag.Fill color ++ tag_bytes tag.Close)

-- a round button with its middle this far to the right
abbrev pub button : ℕ → ℕ → Rgb → List ℕ
button size x color =
    numbers_bytes ((tag.Button, x) ∷ (tag.MiddleY, size) ∷ (tag.Radius, 2 * size / 5) ∷ [])
    ++ (filled tag.Fill color ++ tag_bytes tag.Close)

-- the title, with its middle this far to the right
abbrev pub title_text : ℕ → ℕ → Rgb → List ℕ → List ℕ
title_text size x color title =
    numbers_bytes ((tag.Text, x) ∷ (tag.Y, size + size / 3) ∷ (tag.TitleSize, size) ∷ [])
    ++ (filled tag.Fill color ++ (tag_bytes tag.TextStart ++ (escaped title ++ tag_bytes tag.TextEnd)))

-- The bar of a window of this width: the background with a shade of the colour of texts, a red, a yellow and a green
-- button at the left, and the title in its middle, in the colour of texts.
abbrev pub bar_bytes : ℕ → Theme → ℕ → List ℕ → List ℕ
bar_bytes size theme width title =
    shade width (2 * size) theme.fgcolor
    ++ (button size (4 * size / 3) (rgb_of 0xff5f57)
    ++ (button size (8 * size / 3) (rgb_of 0xfebc2e)
    ++ (button size (4 * size) (rgb_of 0x28c840)
    ++ (title_text size (width / 2) theme.fgcolor title ++ tag_bytes tag.Newline))))

abbrev pub window_bar : FrameView → Theme → ℕ → List ℕ
window_bar f theme width =
    option_map_or (bar_bytes f.font_size theme (framed_width f width)) f.title []

-- where the picture is, and how large it is shown
abbrev pub inner_head : FrameView → ℕ → ℕ → List ℕ
inner_head f width height =
    numbers_bytes ((tag.Inner, f.padding) ∷ (tag.Y, bar_height f + f.padding) ∷ (tag.Width, enlarged f width)
    ∷ (tag.Height, enlarged f height) ∷ (tag.ViewBox, width) ∷ (tag.Space, height) ∷ [])
    ++ tag_bytes tag.SvgRows

-- what is around a picture of this size: its parts are the head, the bar of a window, if there is one, the unchanged
-- picture, and the ends, with the edge of a window between them, if it is one
abbrev pub around : FrameView → Theme → ℕ → ℕ → List ℕ → List ℕ
around f theme width height picture =
    frame_head f theme width height
    ++ (window_bar f theme width
    ++ (inner_head f width height
    ++ (picture ++ (tag_bytes tag.SvgFoot ++ (window_edge f theme width height ++ tag_bytes tag.SvgFoot)))))

-- a picture of this many rows and columns in its frame; a frame that adds nothing leaves it as it is
abbrev pub framed : FrameView → Theme → ℕ → ℕ → List ℕ → List ℕ
framed f theme rows cols picture =
    if is_bare f then picture else around f theme (cols * 9) (rows * 18) picture

-- ---- what is seen

-- what is seen of the bar of a window: its title
abbrev pub bar_seen : FrameView → List ℕ
bar_seen f = option_map_or (λ title. escaped title ++ codes "\n") f.title []

-- of a picture and what is around it: the title, and then what is seen of the picture
abbrev pub around_seen : FrameView → List ℕ → List ℕ
around_seen f picture = codes "\n\n" ++ (bar_seen f ++ (codes "\n" ++ (picture ++ codes "\n\n")))

-- of a picture in its frame
abbrev pub framed_seen : FrameView → List ℕ → List ℕ
framed_seen f picture = if is_bare f then picture else around_seen f picture
