-- What the arguments ask for.
use Rattle.std.specs.Prelude.{◌≡◌, ℕ, nat_eq, nat_le, nat_lt, Bool, true, false, List, [], ◌∷◌, codes}
use Rattle.std.specs.Prelude.{Option, Some, None}
use Rattle.std.specs.Prelude.{option_and_then, string_bytes}
use Rattle.std.specs.Bool.{then_some}
use Rattle.std.specs.Option.{option_map}
use Rattle.clap.specs.Words.{Kinds, Row, Text, count_of, fault_of, first_of, matches_of}
use Rattle.clap.specs.declared.error.ErrorKind.{ErrorKind}
use Rattle.clap.specs.declared.error.ErrorKind.TheVariants.{DisplayHelp, DisplayVersion}
use Rattle.command_line.specs.Numbers.{size_in}
use Rattle.command_line.specs.Numbers.{count_of as count_in}
use Rattle.recordings.specs.Kinds.{kind_named}
use Rattle.recordings.specs.Recorded.{size_said}
use Rattle.recordings.specs.Times.{time_in}
use Rattle.recordings.specs.declared.recording.Kind.{Kind}
use Rattle.recorded_screen.specs.declared.films.Pace.{Pace}
use Rattle.row_pictures.specs.Frames.{FrameView, frame_said}
use Rattle.row_pictures.specs.Themes.{theme_named}
use Rattle.row_pictures.specs.declared.theme.Theme.{Theme}
use Rattle.screentext_command.specs.Frames.{SaysFrame}
use Rattle.screentext_command.specs.Words.{known}
use Rattle.screentext_command.specs.declared.rows.Look.{Look}
use Rattle.screentext_command.specs.declared.help.TheConstants.{HELP, VERSION}
use Rattle.screentext_command.specs.declared.pictures.Pictures.{Pictures}
use Rattle.screentext_command.specs.declared.source.Source.{Source}
use Rattle.screentext_command.specs.declared.words.Form.{Form}
use Rattle.screentext_command.specs.declared.words.Form.TheVariants.{Film, Player, Still}
use Rattle.screentext_command.specs.declared.words.Invocation.{Invocation}
use Rattle.screentext_command.specs.declared.words.Invocation.TheVariants.{Help, Print, Version}
use Rattle.screentext_command.specs.declared.words.Picture.TheVariants as picture
use Rattle.screentext_command.specs.declared.words.Request.{Request}

-- which recording is meant, and which of its moments
pub record Origin : Type 0 where
  -- the kind, and the path of a timing file, where arguments say them
  pub kind : Option Kind
  pub timing : Option Text
  -- the arguments for the moment and for the earlier one
  pub moment : Option Text
  pub since : Option Text
  -- the arguments for the moment at which a film begins, and for the one that is shown where nothing plays
  pub from : Option Text
  pub poster : Option Text
  -- whether the recording is described, in place of a screen
  pub list : Bool
  pub draws_lines : Bool
  pub strict : Bool
  -- how many cells a size has at most
  pub most_cells : ℕ

-- how pictures look, what is around them, and how fast a film plays
pub record Manner : Type 0 where
  -- the theme and the name of the font, where arguments say them
  pub theme : Option Theme
  pub font : Option Text
  -- whether bold texts are in bright colours, where an argument says it
  pub bold_is_bright : Option Bool
  pub hides_cursor : Bool
  pub pace : Pace
  -- what is around pictures in SVG, and how large they are shown
  pub frame : FrameView

-- which screen is printed, and how
pub record Wish : Type 0 where
  -- the size at first, where arguments say it
  pub size : Option (ℕ × ℕ)
  -- how many kept rows come first, at most
  pub history : ℕ
  pub look : Look
  pub form : Form
  pub manner : Manner

abbrev pub origin_of : Source → Origin
origin_of s = record {
  kind = s.kind;
  timing = option_map string_bytes s.timing;
  moment = option_map string_bytes s.moment;
  since = option_map string_bytes s.since;
  from = option_map string_bytes s.from;
  poster = option_map string_bytes s.poster;
  list = s.list;
  draws_lines = s.draws_lines;
  strict = s.strict;
  most_cells = s.most_cells;
}

abbrev pub manner_of : Pictures → Manner
manner_of p = record {
  theme = p.theme;
  font = option_map string_bytes p.font;
  bold_is_bright = p.bold_is_bright;
  hides_cursor = p.hides_cursor;
  pace = p.pace;
  frame = frame_said p.frame;
}

abbrev pub wish_of : Request → Pictures → Wish
wish_of r p = record {
  size = option_map size_said r.size;
  history = r.history;
  look = r.look;
  form = r.form;
  manner = manner_of p;
}

-- the kind, where an argument says it
abbrev pub kind_meant : Option Text → Option (Option Kind)
kind_meant None = Some None
kind_meant (Some word) = option_map (λ kind. Some kind) (kind_named word)

-- how many cells a size has at most: 4,000,000 without an argument
abbrev pub cells_meant : Option Text → Option ℕ
cells_meant None = Some 4000000
cells_meant (Some word) = count_in word

-- rows and columns, where arguments say them
abbrev pub screen_meant : Option Text → Option Text → Option (Option (ℕ × ℕ))
screen_meant None None = Some None
screen_meant (Some rows) (Some cols) =
    option_and_then (λ r. option_map (λ c. Some (r, c)) (size_in cols)) (size_in rows)
screen_meant _ _ = None

-- how many kept rows come first: none without an argument
abbrev pub history_meant : Option Text → Option ℕ
history_meant None = Some 0
history_meant (Some word) = count_in word

-- the form, by which of its arguments there are
abbrev pub form_meant : Bool → Bool → Bool → Bool → Bool → Option Form
form_meant false false false false false = Some (Still picture.Text)
form_meant true false false false false = Some (Still picture.Html)
form_meant false true false false false = Some (Still picture.HtmlBlock)
form_meant false false true false false = Some (Still picture.Svg)
form_meant false false true true false = Some Film
form_meant false false false false true = Some Player
form_meant _ _ _ _ _ = None

-- the theme, where an argument names one
abbrev pub theme_meant : Option Text → Option (Option Theme)
theme_meant None = Some None
theme_meant (Some word) = option_map (λ theme. Some theme) (theme_named word)

-- whether bold texts in the first eight colours have the bright ones, by which of the two arguments there is
abbrev pub bold_meant : Bool → Bool → Option (Option Bool)
bold_meant false false = Some None
bold_meant true false = Some (Some true)
bold_meant false true = Some (Some false)
bold_meant true true = None

-- a number that isn't 0, in millionths
abbrev pub speed_in : Text → Option ℕ
speed_in word = option_and_then (λ n. then_some (nat_lt 0 n) n) (time_in word)

-- how many millionths of the recorded speed a film has: a million without an argument
abbrev pub speed_meant : Option Text → Option ℕ
speed_meant None = Some 1000000
speed_meant (Some word) = speed_in word

-- the longest time for which a screen stays the same, where an argument says it
abbrev pub idle_meant : Option Text → Option (Option ℕ)
idle_meant None = Some None
idle_meant (Some word) = option_map (λ time. Some time) (time_in word)

-- how many screens a second a film shows at most: 1 to 1,000
abbrev pub rate_in : Text → Option ℕ
rate_in word = option_and_then (λ n. then_some (nat_le n 1000) n) (size_in word)

-- thirty of them without an argument
abbrev pub rate_meant : Option Text → Option ℕ
rate_meant None = Some 30
rate_meant (Some word) = rate_in word

-- how often a film plays, where an argument says it: 1 to 65,535
abbrev pub plays_meant : Option Text → Option (Option ℕ)
plays_meant None = Some None
plays_meant (Some word) = option_map (λ n. Some n) (size_in word)

abbrev pub has : Text → List Row → Bool
has name rows = nat_lt 0 (count_of name rows)

-- these values of the arguments say which recording is meant, and which of its moments
pub record SaysOrigin (rows : List Row) (o : Origin) : Type 0 where
  pub kind : kind_meant (first_of (codes "kind") rows) ≡ Some o.kind
  pub timing : o.timing ≡ first_of (codes "timing") rows
  pub moment : o.moment ≡ first_of (codes "at") rows
  pub since : o.since ≡ first_of (codes "diff") rows
  pub from : o.from ≡ first_of (codes "from") rows
  pub poster : o.poster ≡ first_of (codes "poster") rows
  pub list : o.list ≡ has (codes "list") rows
  pub draws_lines : o.draws_lines ≡ nat_eq (count_of (codes "no-line-drawing") rows) 0
  pub strict : o.strict ≡ has (codes "strict") rows
  pub most_cells : cells_meant (first_of (codes "max-cells") rows) ≡ Some o.most_cells

-- they say how fast a film plays, and how often
pub record SaysPace (rows : List Row) (pace : Pace) : Type 0 where
  pub speed : speed_meant (first_of (codes "speed") rows) ≡ Some pace.speed
  pub idle : idle_meant (first_of (codes "idle") rows) ≡ Some pace.idle
  pub rate : rate_meant (first_of (codes "fps") rows) ≡ Some pace.rate
  pub plays : plays_meant (first_of (codes "loop") rows) ≡ Some pace.plays

-- they say how pictures look, what is around them, and how fast a film plays
pub record SaysManner (rows : List Row) (m : Manner) : Type 0 where
  pub theme : theme_meant (first_of (codes "theme") rows) ≡ Some m.theme
  pub font : m.font ≡ first_of (codes "font") rows
  pub bold_is_bright : bold_meant (has (codes "bold-is-bright") rows) (has (codes "bold-is-plain") rows)
      ≡ Some m.bold_is_bright
  pub hides_cursor : m.hides_cursor ≡ has (codes "no-cursor") rows
  pub pace : SaysPace rows m.pace
  pub frame : SaysFrame rows m.frame

-- they say which screen is printed, and how
pub record SaysWish (rows : List Row) (w : Wish) : Type 0 where
  pub size : screen_meant (first_of (codes "ROWS") rows) (first_of (codes "COLS") rows) ≡ Some w.size
  pub history : history_meant (first_of (codes "history") rows) ≡ Some w.history
  pub joined : w.look.joined ≡ has (codes "joined") rows
  pub colors : w.look.colors ≡ has (codes "colours") rows
  pub form : form_meant (has (codes "html") rows) (has (codes "html-block") rows) (has (codes "svg") rows)
      (has (codes "animate") rows) (has (codes "player") rows) ≡ Some w.form
  pub manner : SaysManner rows w.manner

-- `clap` accepts these arguments, and their values say so
pub record AskFor (words : List Text) (o : Origin) (w : Wish) : Type 0 where
  pub taken : fault_of known words ≡ []
  pub origin : SaysOrigin (matches_of known words) o
  pub wish : SaysWish (matches_of known words) w

-- the text that `clap` finds to be asked for: the help, or the version
abbrev pub IsToldFor : Kinds → List ℕ → Type 0
IsToldFor (DisplayHelp ∷ []) text = text ≡ HELP.now
IsToldFor (DisplayVersion ∷ []) text = text ≡ VERSION.now
IsToldFor _ text = ⊥

-- the arguments ask for this text
abbrev pub AskForText : List Text → List ℕ → Type 0
AskForText words text = IsToldFor (fault_of known words) text

-- ---- what the code makes of them

-- an invocation that is made of these
abbrev pub IsMadeOf : Option Request → Option Source → Option Pictures → Invocation → Type 0
IsMadeOf r s p (Print request source pictures) = (r ≡ Some request) × (s ≡ Some source) × (p ≡ Some pictures)
IsMadeOf r s p _ = ⊥

-- the help or the version is requested, by the kind of `clap`'s error
abbrev pub IsRequested : ErrorKind → Invocation → Type 0
IsRequested kind Help = kind ≡ DisplayHelp
IsRequested kind Version = kind ≡ DisplayVersion
IsRequested kind (Print request source pictures) = ⊥

-- what is to be printed, by these values of the arguments
abbrev pub Says : List Row → Invocation → Type 0
Says rows (Print request source pictures) =
    SaysWish rows (wish_of request pictures) × SaysOrigin rows (origin_of source)
Says rows _ = ⊥

-- what these arguments mean
abbrev pub IsMeant : List Text → Invocation → Type 0
IsMeant words Help = fault_of known words ≡ DisplayHelp ∷ []
IsMeant words Version = fault_of known words ≡ DisplayVersion ∷ []
IsMeant words (Print request source pictures) = AskFor words (origin_of source) (wish_of request pictures)
