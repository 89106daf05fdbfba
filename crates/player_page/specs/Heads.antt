-- What comes before the screen of a page that plays.
use Rattle.std.specs.Prelude.{◌≡◌, ℕ, List, [], ◌++◌, Option, min, string_bytes}
use Rattle.std.specs.Option.{option_map_or}
use Rattle.picture_page.specs.Page.{escaped}
use Rattle.picture_page.specs.Tags.{tag_bytes}
use Rattle.picture_page.specs.Titles.{title_text}
use Rattle.picture_page.specs.declared.tag.Tag.{Tag}
use Rattle.picture_page.specs.declared.tag.Tag.TheVariants as tag
use Rattle.recorded_screen.specs.Reel.{decimal_point}
use Rattle.row_pictures.specs.declared.look.Look.{Look}
use Rattle.player_page.specs.declared.page.Play.{Play}

-- the title, if there is one
abbrev pub title_bytes : Look → List ℕ
title_bytes look = option_map_or (λ title. escaped (title_text (string_bytes title))) look.title []

-- the title of the page, and the heading
abbrev pub titles_bytes : Look → List ℕ
titles_bytes look =
    tag_bytes tag.PlayerHead ++ (title_bytes look ++ (tag_bytes tag.PlayerStyle ++ title_bytes look))

-- a number of millionths, as a decimal
abbrev pub seconds_bytes : Tag → ℕ → List ℕ
seconds_bytes t millionths = tag_bytes t ++ decimal_point 6 millionths

-- the longest time for which a moment stays, if there is one
abbrev pub idle_bytes : Option ℕ → List ℕ
idle_bytes idle = option_map_or (seconds_bytes tag.PlayerIdle) idle []

-- the titles, the length, how the recording is played, and the moment that is shown at first, at the end at most
abbrev pub head_bytes : Look → Play → List ℕ
head_bytes look play =
    titles_bytes look
    ++ (seconds_bytes tag.PlayerLength play.length
    ++ (idle_bytes play.pace.idle
    ++ (seconds_bytes tag.PlayerSpeed play.pace.speed
    ++ seconds_bytes tag.PlayerPoster (min play.poster play.length))))

-- these bytes begin with that head
pub record BeginsWith (head bytes : List ℕ) : Type 0 where
  pub more : List ℕ
  pub is : bytes ≡ head ++ more
