-- The arguments of the command line.
use Rattle.std.specs.Prelude.{nat_le, nat_lt, Bool, true, false, not, ◌&&◌, ◌||◌, List, [], ◌∷◌, map}
use Rattle.std.specs.Prelude.{is_some, Option, Some}
use Rattle.std.specs.Prelude.{None, codes}
use Rattle.std.specs.Option.{option_map_or}
use Rattle.clap.specs.Words.{App, Kinds, Row, Rule, Text, count_of, fault_of, first_of, matches_of, new_app, new_rule}
use Rattle.clap.specs.Words.{with_rule}
use Rattle.clap.specs.declared.builder.ArgAction.TheVariants.{Count}
use Rattle.clap.specs.declared.error.ErrorKind.{ErrorKind}
use Rattle.clap.specs.declared.error.ErrorKind.TheVariants.{DisplayHelp, DisplayVersion}
use Rattle.serde_json.specs.Data.{Data}
use Rattle.serde_json.specs.Find.{as_number}
use Rattle.recordings.specs.Kinds.{kind_named}
use Rattle.recordings.specs.Times.{json_in, time_in, time_of}
use Rattle.row_pictures.specs.Themes.{is_theme}
use Rattle.command_line.specs.Numbers.{is_size, is_count, size_in}
use Rattle.screentext_command.specs.Frames.{are_frames}
use Rattle.screentext_command.specs.declared.known.TheConstants.{FLAGS, VALUES}

-- an option with a value
abbrev pub value_rule : Text → Rule
value_rule id = record (new_rule id) { long = Some id; value_names = 1 }

-- an option without one
abbrev pub flag_rule : Text → Rule
flag_rule id = record (new_rule id) { long = Some id; action = Some Count }

abbrev pub colors_rule : Rule
colors_rule = record (flag_rule (codes "colours")) { aliases = codes "colors" ∷ [] }

-- the program's name and version, with no arguments
abbrev pub program : App
program = let a = new_app (codes "screentext") in
    record a { top = record a.top { has_version = true; no_binary_name = true; args_override_self = true } }

-- arguments of one kind after those that are known
abbrev pub with_all : (Text → Rule) → App → List Text → App
with_all rule a [] = a
with_all rule a (id ∷ ids) = with_all rule (with_rule a (rule id)) ids

-- rows and columns, `--colours`, options with a value, and options without one
abbrev pub known : App
known = with_all flag_rule (with_all value_rule (with_rule (with_rule (with_rule program (new_rule (codes "ROWS")))
    (new_rule (codes "COLS"))) colors_rule) (map (λ w. w.now) VALUES)) (map (λ w. w.now) FLAGS)

-- both are numbers of rows and columns, or there is neither
abbrev pub is_screen : Option Text → Option Text → Bool
is_screen None None = true
is_screen (Some rows) (Some cols) = is_size rows && is_size cols
is_screen _ _ = false

-- a number in JSON that isn't negative, or no number: then it is a marker's name
abbrev pub is_time : Option Data → Bool
is_time json = option_map_or (λ value. not (is_some (as_number value)) || is_some (time_of value)) json true

abbrev pub is_moment : Option Text → Bool
is_moment word = option_map_or (λ text. is_time (json_in text)) word true

-- the arguments for moments
abbrev pub are_moments : List Row → Bool
are_moments rows = is_moment (first_of (codes "at") rows)
    && (is_moment (first_of (codes "diff") rows) && (is_moment (first_of (codes "from") rows)
    && is_moment (first_of (codes "poster") rows)))

-- one form at most, and a film in SVG alone
abbrev pub is_form : Bool → Bool → Bool → Bool → Bool → Bool
is_form false false svg film false = svg || not film
is_form true false false false false = true
is_form false true false false false = true
is_form false false false false true = true
is_form _ _ _ _ _ = false

-- the values of the arguments that `clap` accepts
abbrev pub are_values : List Row → Bool
are_values rows = is_screen (first_of (codes "ROWS") rows) (first_of (codes "COLS") rows)
    && (are_moments rows && (option_map_or is_count (first_of (codes "history") rows) true
    && is_form (nat_lt 0 (count_of (codes "html") rows)) (nat_lt 0 (count_of (codes "html-block") rows))
    (nat_lt 0 (count_of (codes "svg") rows)) (nat_lt 0 (count_of (codes "animate") rows))
    (nat_lt 0 (count_of (codes "player") rows))))

abbrev pub are_sources : List Row → Bool
are_sources rows = option_map_or (λ word. is_some (kind_named word)) (first_of (codes "kind") rows) true
    && option_map_or is_count (first_of (codes "max-cells") rows) true

-- a number that isn't 0
abbrev pub is_speed : Text → Bool
is_speed word = option_map_or (λ n. nat_lt 0 n) (time_in word) false

-- one of the two arguments for bold texts at most
abbrev pub is_bold : Bool → Bool → Bool
is_bold bright plain = not (bright && plain)

-- 1 to 1,000
abbrev pub is_rate : Text → Bool
is_rate word = option_map_or (λ n. nat_le n 1000) (size_in word) false

abbrev pub are_paces : List Row → Bool
are_paces rows = option_map_or is_speed (first_of (codes "speed") rows) true
    && (option_map_or (λ word. is_some (time_in word)) (first_of (codes "idle") rows) true
    && (option_map_or is_rate (first_of (codes "fps") rows) true
    && option_map_or (λ word. is_some (size_in word)) (first_of (codes "loop") rows) true))

abbrev pub are_pictures : List Row → Bool
are_pictures rows = option_map_or is_theme (first_of (codes "theme") rows) true
    && (is_bold (nat_lt 0 (count_of (codes "bold-is-bright") rows)) (nat_lt 0 (count_of (codes "bold-is-plain") rows))
    && (are_paces rows && are_frames rows))

abbrev pub are_words : List Row → Bool
are_words rows = are_values rows && (are_sources rows && are_pictures rows)

abbrev pub is_request : ErrorKind → Bool
is_request DisplayHelp = true
is_request DisplayVersion = true
is_request _ = false

abbrev pub is_invocation_of : Kinds → List Row → Bool
is_invocation_of [] rows = are_words rows
is_invocation_of (k ∷ ks) rows = is_request k

-- `clap` accepts the arguments, and their values have the right form; or the first of its errors, which is the only
-- one, is that the help or the version is asked for
abbrev pub is_invocation : List Text → Bool
is_invocation words = is_invocation_of (fault_of known words) (matches_of known words)
