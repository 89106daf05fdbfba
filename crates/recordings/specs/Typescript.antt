-- Typescripts of `script`: the output in one file, and its times in another.
use Rattle.std.specs.Prelude.{◌≡◌, ℕ, ◌+◌, ◌==◌, ◌&&◌, nat_le, Bool, false, List, [], ◌∷◌, ◌++◌, take, drop, length}
use Rattle.std.specs.Prelude.{Option, Some, None, option_and_then, if◌then◌else◌, codes}
use Rattle.std.specs.Char.{is_ascii_whitespace}
use Rattle.std.specs.List.{list_all, before_first, after_first, find, slice_split}
use Rattle.std.specs.Option.{option_map, option_or}
use Rattle.std.specs.Str.{bytes_eq}
use Rattle.command_line.specs.Numbers.{count_of, size_in}
use Rattle.recordings.specs.Details.{details_of, no_details}
use Rattle.recordings.specs.Lines.{first_line, lines_in}
use Rattle.recordings.specs.Recorded.{IsStateAfter, Row, ended, resizes, said, size_said, reported, writes}
use Rattle.recordings.specs.Sizes.{both}
use Rattle.recordings.specs.Times.{time_in}
use Rattle.recordings.specs.declared.error.RecordingError.{RecordingError}
use Rattle.recordings.specs.declared.error.RecordingError.TheVariants as error
use Rattle.recordings.specs.declared.recording.Kind.TheVariants.{Script}
use Rattle.recordings.specs.declared.recording.Recording.{Recording}
use Rattle.recordings.specs.declared.timeline.Pace.TheVariants.{FromLast}
use Rattle.recordings.specs.declared.timeline.Timeline.{Timeline}
use Rattle.recordings.specs.declared.typescript.TimingLine.{TimingLine}
use Rattle.recordings.specs.declared.typescript.TimingLine.TheVariants as declared

-- ---- the lines of a timing file

-- what comes before the first space, and what comes after it
abbrev pub word_of : List ℕ → List ℕ
word_of text = before_first (λ b. b == 0x20) text

abbrev pub rest_of : List ℕ → List ℕ
rest_of text = after_first (λ b. b == 0x20) text

-- what a line says: this many bytes are written, the screen gets this size, this many bytes aren't output, or only
-- time passes
pub data Step : Type 0 where
  gives : ℕ → ℕ → Step
  resizes_to : ℕ → ℕ × ℕ → Step
  skips : ℕ → ℕ → Step
  passes : ℕ → Step

-- `DELAY BYTES`
abbrev pub counted_in : List ℕ → Option (ℕ × ℕ)
counted_in text =
    option_and_then (λ time. option_map (λ count. (time, count)) (count_of (rest_of text))) (time_in (word_of text))

abbrev pub output_in : List ℕ → Option Step
output_in text = option_map (λ p. gives p.0 p.1) (counted_in text)

-- the value of a word that begins so
abbrev pub side_after : List ℕ → List ℕ → Option ℕ
side_after name word = if bytes_eq (take (length name) word) name then size_in (drop (length name) word) else None

-- `ROWS=N COLS=N`
abbrev pub window_in : List ℕ → Option (ℕ × ℕ)
window_in text = both (side_after (codes "ROWS=") (word_of text)) (side_after (codes "COLS=") (rest_of text))

abbrev pub signal_of : ℕ → List ℕ → Option Step
signal_of time signal =
    if bytes_eq (word_of signal) (codes "SIGWINCH") then option_map (resizes_to time) (window_in (rest_of signal))
    else Some (passes time)

-- `DELAY SIGNAL`
abbrev pub signal_in : List ℕ → Option Step
signal_in text = option_and_then (λ time. signal_of time (rest_of text)) (time_in (word_of text))

-- a delay, and what else there is
abbrev pub other_in : List ℕ → Option Step
other_in text = option_map passes (time_in (word_of text))

-- what was typed, which is among the output if both are in one file
abbrev pub input_in : Bool → List ℕ → Option Step
input_in shared text = if shared then option_map (λ p. skips p.0 p.1) (counted_in text) else other_in text

-- `O`, `S`, `H` or `I` comes first in the newer format
abbrev pub step_in : Bool → List ℕ → Option Step
step_in shared line =
    if list_all is_ascii_whitespace line then Some (passes 0)
    else (if bytes_eq (word_of line) (codes "O") then output_in (rest_of line)
    else (if bytes_eq (word_of line) (codes "S") then signal_in (rest_of line)
    else (if bytes_eq (word_of line) (codes "H") then other_in (rest_of line)
    else (if bytes_eq (word_of line) (codes "I") then input_in shared (rest_of line)
    else output_in line))))

abbrev pub step_said : TimingLine → Step
step_said (declared.Output time count) = gives time count
step_said (declared.Skip time count) = skips time count
step_said (declared.Resize time size) = resizes_to time (size_said size)
step_said (declared.Other time) = passes time

-- ---- the header

-- `H DELAY NAME VALUE`
abbrev pub is_field : List ℕ → List ℕ → Bool
is_field name line = bytes_eq (word_of line) (codes "H") && bytes_eq (word_of (rest_of (rest_of line))) name

-- the first of them counts
abbrev pub value_named : List ℕ → List (List ℕ) → Option (List ℕ)
value_named name lines = option_map (λ line. rest_of (rest_of (rest_of line))) (find (is_field name) lines)

abbrev pub side_named : List ℕ → List (List ℕ) → Option ℕ
side_named name lines = option_and_then size_in (value_named name lines)

abbrev pub are_same : Option (List ℕ) → Option (List ℕ) → Bool
are_same (Some a) (Some b) = bytes_eq a b
are_same _ _ = false

-- what was typed and the output are in one file
abbrev pub shares_log : List (List ℕ) → Bool
shares_log lines = are_same (value_named (codes "INPUT_LOG") lines) (value_named (codes "OUTPUT_LOG") lines)

abbrev pub size_named : List (List ℕ) → Option (ℕ × ℕ)
size_named lines = both (side_named (codes "LINES") lines) (side_named (codes "COLUMNS") lines)

-- ---- the first line: `Script started on DATE [TERM="xterm" COLUMNS="80" LINES="24"]`

abbrev pub begins_with : List ℕ → List ℕ → Bool
begins_with start word = bytes_eq (take (length start) word) start

-- the number up to the next quote, in the first word that begins so
abbrev pub quoted_side : List ℕ → List (List ℕ) → Option ℕ
quoted_side start words =
    option_and_then (λ word. size_in (before_first (λ b. b == 0x22) (drop (length start) word)))
    (find (begins_with start) words)

abbrev pub size_in_words : List (List ℕ) → Option (ℕ × ℕ)
size_in_words words =
    both (quoted_side (codes "LINES=" ++ 0x22 ∷ []) words) (quoted_side (codes "COLUMNS=" ++ 0x22 ∷ []) words)

abbrev pub size_quoted : List ℕ → Option (ℕ × ℕ)
size_quoted typescript = size_in_words (slice_split (λ b. b == 0x20) (first_line typescript))

-- the size in the header, or else that in the first line
abbrev pub script_size : List ℕ → List (List ℕ) → Option (ℕ × ℕ)
script_size typescript lines = option_or (size_named lines) (size_quoted typescript)

-- ---- the recording

-- the first line, which says when it began, isn't output
abbrev pub output_of : List ℕ → List ℕ
output_of typescript = after_first (λ b. b == 10) typescript

-- an event, and the output that is left after it
abbrev pub taken : List ℕ → Step → Option (Row × List ℕ)
taken left (gives time count) =
    if nat_le count (length left) then Some ((time, Some (writes (take count left))), drop count left) else None
taken left (skips time count) = if nat_le count (length left) then Some ((time, None), drop count left) else None
taken left (resizes_to time size) = Some ((time, Some (resizes size.0 size.1)), left)
taken left (passes time) = Some ((time, None), left)

abbrev pub event_of : Bool → List ℕ → List ℕ → Option (Row × List ℕ)
event_of shared left line = option_and_then (taken left) (step_in shared line)

-- the events of the lines, and the output that is left after them
abbrev pub events_of : Bool → List ℕ → List (List ℕ) → Option (List Row × List ℕ)
events_of shared left [] = Some ([], left)
events_of shared left (line ∷ lines) =
    option_and_then (λ event. option_map (λ more. (event.0 ∷ more.0, more.1)) (events_of shared event.1 lines))
    (event_of shared left line)

-- what a typescript with this timing file and these events says
pub record SaysRows (typescript timing : List ℕ) (rows : List Row) (r : Recording) : Type 0 where
  pub kind : r.kind ≡ Script
  pub size : option_map size_said r.size ≡ script_size typescript (lines_in timing)
  pub own : details_of r ≡ no_details
  pub moments : said r.events.items ≡ reported FromLast 0 rows
  pub length : r.length ≡ ended FromLast 0 rows

-- each line takes its bytes from the output
pub record IsTypescript (typescript timing : List ℕ) (r : Recording) : Type 0 where
  pub rows : List Row
  pub left : List ℕ
  pub steps : events_of (shares_log (lines_in timing)) (output_of typescript) (lines_in timing) ≡ Some (rows, left)
  pub says : SaysRows typescript timing rows r

-- the first line that is no step, or takes more bytes than there are, counted from 1
pub record IsBadStep (shared : Bool) (output : List ℕ) (lines : List (List ℕ)) (n : ℕ) : Type 0 where
  pub before : List (List ℕ)
  pub line : List ℕ
  pub after : List (List ℕ)
  pub parts : lines ≡ before ++ line ∷ after
  pub number : n ≡ length before + 1
  pub rows : List Row
  pub left : List ℕ
  pub fine : events_of shared output before ≡ Some (rows, left)
  pub ill : event_of shared left line ≡ None

abbrev pub IsFaultOfStep : List ℕ → List ℕ → RecordingError → Type 0
IsFaultOfStep typescript timing (error.Step n) =
    IsBadStep (shares_log (lines_in timing)) (output_of typescript) (lines_in timing) n
IsFaultOfStep typescript timing error.Memory = Unit {0}
IsFaultOfStep typescript timing _ = ⊥

-- ---- up to a fault

-- what is read of lines: what all of them say, or what those before the first say that is no step
abbrev pub AreSteps : Bool → List ℕ → List (List ℕ) → Timeline → Option ℕ → Type 0
AreSteps shared output lines t None = (rows : List Row) × (left : List ℕ)
    × (events_of shared output lines ≡ Some (rows, left)) × IsStateAfter FromLast rows t
AreSteps shared output lines t (Some n) = (bad : IsBadStep shared output lines n) × IsStateAfter FromLast bad.rows t

-- what is read of a typescript: with a fault what the steps before it say
abbrev pub IsReadScript : List ℕ → List ℕ → Recording → Option RecordingError → Type 0
IsReadScript typescript timing r None = IsTypescript typescript timing r
IsReadScript typescript timing r (Some (error.Step n)) =
    (bad : IsBadStep (shares_log (lines_in timing)) (output_of typescript) (lines_in timing) n)
    × SaysRows typescript timing bad.rows r
IsReadScript typescript timing r _ = ⊥
