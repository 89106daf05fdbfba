-- The frame of pictures that the arguments ask for.
use Rattle.std.specs.Prelude.{◌≡◌, ℕ, nat_le, nat_lt, Bool, ◌&&◌, List, Option, Some, None, codes, is_some, option_and_then}
use Rattle.std.specs.Bool.{then_some}
use Rattle.clap.specs.Words.{Row, Text, first_of}
use Rattle.command_line.specs.Numbers.{count_of}
use Rattle.row_pictures.specs.Frames.{FrameView}

-- 0 to 255 pixels
abbrev pub pixels_in : Text → Option ℕ
pixels_in word = option_and_then (λ n. then_some (nat_le n 255) n) (count_of word)

-- how many pixels there are between a picture and each edge: none without an argument
abbrev pub padding_meant : Option Text → Option ℕ
padding_meant None = Some 0
padding_meant (Some word) = pixels_in word

-- how many pixels high letters are: 1 to 255, and 15 without an argument
abbrev pub font_size_meant : Option Text → Option ℕ
font_size_meant None = Some 15
font_size_meant (Some word) = option_and_then (λ n. then_some (nat_lt 0 n) n) (pixels_in word)

abbrev pub are_frames : List Row → Bool
are_frames rows =
    is_some (padding_meant (first_of (codes "padding") rows))
    && is_some (font_size_meant (first_of (codes "font-size") rows))

-- these values of the arguments say what is around a picture, and how large it is shown
pub record SaysFrame (rows : List Row) (f : FrameView) : Type 0 where
  pub padding : padding_meant (first_of (codes "padding") rows) ≡ Some f.padding
  pub font_size : font_size_meant (first_of (codes "font-size") rows) ≡ Some f.font_size
  pub title : f.title ≡ first_of (codes "window") rows
