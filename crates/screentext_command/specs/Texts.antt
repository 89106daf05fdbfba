-- The text that is printed of a recording.
use Rattle.std.specs.Prelude.{◌≡◌, ◌≤◌, ◌&&◌, ℕ, zero, suc, ◌+◌, Bool, true, false, List, [], ◌++◌, length, min}
use Rattle.std.specs.Prelude.{max, nat_lt, codes, encode_utf8, Option, Some, None, unwrap_or, if◌then◌else◌}
use Rattle.std.specs.Prelude.{string_bytes}
use Rattle.std.specs.Fmt.{decimal}
use Rattle.std.specs.Option.{option_map, option_map_or, option_or}
use Rattle.std.specs.Str.{bytes_eq}
use Rattle.vt100_cells.specs.Cell.{CellView}
use Rattle.vt100_core.specs.Grid.{GridView, visible_row_at}
use Rattle.screen_model.specs.Made.{made}
use Rattle.picture_page.specs.Tags.{tag_bytes}
use Rattle.picture_page.specs.declared.tag.Tag.TheVariants.{Newline, PageFoot}
use Rattle.row_pictures.specs.Frames.{framed_seen}
use Rattle.row_pictures.specs.Themes.{theme_of, xterm_theme}
use Rattle.row_pictures.specs.declared.look.Look as pictures
use Rattle.row_pictures.specs.declared.theme.Theme.{Theme}
use Rattle.screen_model.specs.State.{State}
use Rattle.screen_model.specs.Step.{kept_shown}
use Rattle.picture_page.specs.Page.{IsSafe, Shows, escaped}
use Rattle.picture_page.specs.Seen.{seen}
use Rattle.screentext_command.specs.Rows.{row_text}
use Rattle.screentext_command.specs.declared.rows.Look.{Look}
use Rattle.recordings.specs.declared.recording.Recording.{Recording}
use Rattle.recordings.specs.Recorded.{size_said}
use Rattle.recordings.specs.Themes.{theme_reported}
use Rattle.recordings.specs.declared.recording.ScreenSize.{ScreenSize}
use Rattle.recorded_screen.specs.Film as films
use Rattle.recorded_screen.specs.Framed.{IsFramed}
use Rattle.recorded_screen.specs.Moment.{acts_until}
use Rattle.recorded_screen.specs.Placed.{IsAround, IsSvg}
use Rattle.recorded_screen.specs.Picture.{block_seen, font_text, page_seen, screen_text, svg_seen}
use Rattle.recorded_screen.specs.Picture.{rows_pictured, scrolled, written_text}
use Rattle.recorded_screen.specs.Titles.{page_head, page_title, title_line}
use Rattle.recorded_screen.specs.declared.films.Pace.{Pace}
use Rattle.recorded_screen.specs.declared.reel.TheConstants.{LONGEST_FILM}
use Rattle.player_page.specs.Heads.{BeginsWith, head_bytes}
use Rattle.player_page.specs.Rows.{ShowsRows}
use Rattle.player_page.specs.declared.page.Play.{Play}
use Rattle.player_page.specs.declared.page.TheConstants.{LONGEST_PLAYER}
use Rattle.screentext_command.specs.Asked.{Manner, Wish}
use Rattle.screentext_command.specs.declared.source.Moments.{Moments}
use Rattle.screentext_command.specs.declared.words.Form.{Form}
use Rattle.screentext_command.specs.declared.words.Form.TheVariants.{Film, Player, Still}
use Rattle.screentext_command.specs.declared.words.Picture.{Picture}
use Rattle.screentext_command.specs.declared.words.Picture.TheVariants.{Html, HtmlBlock, Svg, Text}

-- ---- the screen at a moment

-- the size at first: that of the arguments, or else the recording's, or else 24 rows of 80 columns
abbrev pub size_at_first : Option (ℕ × ℕ) → Option (ℕ × ℕ) → ℕ × ℕ
size_at_first (Some size) recorded = size
size_at_first None (Some size) = size
size_at_first None None = (24, 80)

-- the screen once all events up to a moment have come, where at most this many rows are kept
abbrev pub screen_at : ℕ × ℕ → ℕ → Recording → ℕ → State
screen_at size history r moment = made size.0 size.1 history (acts_until moment r.events.items)

-- ---- rows as text

-- the cells of the row that is shown here, and whether it goes on in the next one
abbrev pub cells_at : GridView → ℕ → List CellView
cells_at g r = option_map_or (λ v. v.cells) (visible_row_at g r) []

abbrev pub goes_on : GridView → ℕ → Bool
goes_on g r = unwrap_or (option_map (λ v. v.wrapped) (visible_row_at g r)) false

abbrev pub end_text : Bool → List ℕ
end_text true = []
end_text false = codes "\n"

-- a row, and a newline, unless it is joined with the next one
abbrev pub line_at : Look → GridView → ℕ → List ℕ
line_at look g r = row_text look (cells_at g r) ++ end_text (look.joined && goes_on g r)

-- the first n rows that are shown
abbrev pub lines_text : Look → GridView → ℕ → List ℕ
lines_text look g zero = []
lines_text look g (suc n) = lines_text look g n ++ line_at look g n

-- of the newest `count` kept rows the first n: each is the first row that is shown then
abbrev pub kept_text : Look → State → ℕ → ℕ → List ℕ
kept_text look s count zero = []
kept_text look s count (suc n) = kept_text look s count n ++ line_at look (scrolled s count (suc n)).shown 0

-- all rows of the screen
abbrev pub shown_text : Look → GridView → List ℕ
shown_text look g = lines_text look g g.height

-- the newest kept rows, and those of the screen
abbrev pub rows_text : Look → ℕ → State → List ℕ
rows_text look history s =
    let count = min history (length s.shown.kept.rows) in
    kept_text look s count count ++ shown_text look (kept_shown 0 (scrolled s count count)).shown

-- ---- pictures

-- the theme of the arguments, or else the recording's, or else xterm's
abbrev pub theme_shown : Option Theme → Option (List ℕ) → Theme
theme_shown (Some theme) recorded = theme
theme_shown None (Some colors) = theme_of colors
theme_shown None None = xterm_theme

-- How a film of a recording plays: at the pace of the arguments, from the moment on that they mean, and with the poster
-- that they mean. A screen stays the same no longer than the arguments say, or else the recording.
abbrev pub pace_shown : Pace → Recording → Moments → Pace
pace_shown pace r m =
    record pace { idle = option_or pace.idle r.idle; from = unwrap_or m.from 0; poster = m.poster }

-- how pictures of a recording look
pub record IsLook (m : Manner) (r : Recording) (look : pictures.Look) : Type 0 where
  pub theme : look.theme ≡ theme_shown m.theme (theme_reported r.theme)
  pub font : option_map string_bytes look.font ≡ m.font
  pub bold_is_bright : look.bold_is_bright ≡ m.bold_is_bright
  pub hides_cursor : look.hides_cursor ≡ m.hides_cursor
  pub title : option_map string_bytes look.title ≡ option_map string_bytes r.title

-- the rows of the screen are at their places, in the look that the arguments ask for
abbrev pub HasPlaces : Manner → Recording → (pictures.Look → Type 0) → Type 0
HasPlaces m r IsPlaced = (look : pictures.Look) × IsLook m r look × IsPlaced look

-- a text is this screen of the recording, in this form, with the newest kept rows before those of the screen
abbrev pub IsStill : Picture → Wish → Recording → State → List ℕ → Type 0
IsStill Text w r s text = text ≡ rows_text w.look w.history s
IsStill Html w r s text = Shows text (screen_text w.history s) × IsSafe text
    × HasPlaces w.manner r (λ l. (seen text ≡ page_seen (page_title l) (escaped (screen_text w.history s)))
    × IsAround (page_head l) (tag_bytes PageFoot) l w.history s text)
IsStill HtmlBlock w r s text = Shows text (screen_text w.history s)
    × (seen text ≡ block_seen (escaped (screen_text w.history s)) ++ codes "\n") × IsSafe text
    × HasPlaces w.manner r (λ l. IsAround [] (tag_bytes Newline) l w.history s text)
IsStill Svg w r s text = IsSafe text × HasPlaces w.manner r (λ l. Shows text (written_text l w.history s)
    × (seen text ≡ framed_seen w.manner.frame (svg_seen (title_line l) (escaped (font_text l w.history s))))
    × IsFramed w.manner.frame l.theme (rows_pictured w.history s) s.shown.width (IsSvg l w.history s) text)

-- ---- what differs

-- the text of a row, where there is one
abbrev pub text_in : Look → GridView → ℕ → Option (List ℕ)
text_in look g r = if nat_lt r g.height then Some (row_text look (cells_at g r)) else None

abbrev pub are_same : Option (List ℕ) → Option (List ℕ) → Bool
are_same None None = true
are_same (Some a) (Some b) = bytes_eq a b
are_same _ _ = false

-- a row that one of the screens has, after its sign and its number, counted from 1
abbrev pub signed_text : ℕ → ℕ → Option (List ℕ) → List ℕ
signed_text sign r None = []
signed_text sign r (Some text) = encode_utf8 sign ++ (decimal (r + 1) ++ (codes ": " ++ (text ++ codes "\n")))

-- the old text of a row after `-`, and the new one after `+`
abbrev pub pair_text : ℕ → Option (List ℕ) → Option (List ℕ) → List ℕ
pair_text r old new = if are_same old new then [] else signed_text 45 r old ++ signed_text 43 r new

abbrev pub change_text : Look → GridView → GridView → ℕ → List ℕ
change_text look old new r = pair_text r (text_in look old r) (text_in look new r)

-- those of the first n rows
abbrev pub first_changes : Look → GridView → GridView → ℕ → List ℕ
first_changes look old new zero = []
first_changes look old new (suc n) = first_changes look old new n ++ change_text look old new n

abbrev pub changes_text : Look → GridView → GridView → List ℕ
changes_text look old new = first_changes look old new (max old.height new.height)

-- ---- what is printed

-- the screen at a moment, or what differs from an earlier one, of a terminal that has this size at first
abbrev pub IsScreen : Picture → Wish → ℕ × ℕ → Recording → ℕ → Option ℕ → List ℕ → Type 0
IsScreen picture w size r moment None text = IsStill picture w r (screen_at size w.history r moment) text
IsScreen picture w size r moment (Some since) text =
    text ≡ changes_text w.look (screen_at size 0 r since).shown (screen_at size w.history r moment).shown

-- a film of a terminal of this size at first, from one moment to another, in the look, at the pace and in the frame of
-- the arguments
pub record IsFilm (m : Manner) (size : ℕ × ℕ) (r : Recording) (moments : Moments) (text : List ℕ) : Type 0 where
  pub safe : IsSafe text
  pub short : length text ≤ LONGEST_FILM
  pub look : pictures.Look
  pub is_look : IsLook m r look
  pub at_first : ScreenSize
  pub is_size : size_said at_first ≡ size
  pub shows : IsFramed m.frame look.theme (films.most_rows moments.moment at_first r.events.items)
      (films.most_cols moments.moment at_first r.events.items)
      (films.IsFilm look at_first (pace_shown m.pace r moments) moments.moment r.events.items) text

-- how a recording is played, with the screen of a moment at first
abbrev pub played : Manner → Recording → Moments → Play
played m r moments = record { length = r.length; poster = moments.moment; pace = pace_shown m.pace r moments }

-- a page that plays a recording on a terminal of this size at first
pub record IsPlayer (m : Manner) (size : ℕ × ℕ) (r : Recording) (moments : Moments) (text : List ℕ) : Type 0 where
  pub shows : ShowsRows size.0 size.1 r.events.items text
  pub safe : IsSafe text
  pub short : length text ≤ LONGEST_PLAYER
  pub look : pictures.Look
  pub is_look : IsLook m r look
  pub head : BeginsWith (head_bytes look (played m r moments)) text

abbrev pub IsAnswer : Form → Wish → ℕ × ℕ → Recording → Moments → List ℕ → Type 0
IsAnswer (Still picture) w size r m text = IsScreen picture w size r m.moment m.since text
IsAnswer Film w size r m text = IsFilm w.manner size r m text
IsAnswer Player w size r m text = IsPlayer w.manner size r m text
