-- The arguments of the command lines.
use Rattle.std.specs.Prelude.{ℕ, Bool, ◌||◌, List, [], ◌∷◌, Option, Some, None, codes, if◌then◌else◌}
use Rattle.std.specs.Str.{bytes_eq}
use Rattle.command_line.specs.Numbers.{size_in}
use Rattle.charset_filter.specs.declared.lines.LineDrawing.TheVariants.{Kept, Drawn}
use Rattle.relay_commands.specs.declared.help.TheConstants.{SCREENCAT_HELP, SCREENLIVE_HELP}
use Rattle.relay_commands.specs.declared.program.Program.{Program}
use Rattle.relay_commands.specs.declared.program.Program.TheVariants.{Screenrelay, Screenlive, Screencat}
use Rattle.relay_commands.specs.declared.words.Invocation.{Invocation as ParsedInvocation}
use Rattle.relay_commands.specs.declared.words.Invocation.TheVariants.{ScreenliveHelp, ScreencatHelp, Run}
use Rattle.relay_commands.specs.declared.words.Job.{Job}
use Rattle.relay_commands.specs.declared.words.Job.TheVariants.{Relay, Show, RelayLive, PrintFar}

-- what a program is asked to do: print a text, or do a job on a screen of this many rows and columns
pub data Invocation : Type 0 where
  print : List ℕ → Invocation
  run : Job → ℕ → ℕ → Invocation

-- what the parsed arguments ask for, with the sizes as numbers
abbrev pub with_numbers : ParsedInvocation → Invocation
with_numbers ScreenliveHelp = print SCREENLIVE_HELP.now
with_numbers ScreencatHelp = print SCREENCAT_HELP.now
with_numbers (Run job rows cols) = run job rows.value cols.value

abbrev pub run_of : Job → Option ℕ → Option ℕ → Option Invocation
run_of job (Some rows) (Some cols) = Some (run job rows cols)
run_of job (Some rows) None = None
run_of job None cols = None

-- `relay ROWS COLS` or `show ROWS COLS`
abbrev pub relay_invocation_of : List (List ℕ) → Option Invocation
relay_invocation_of (job ∷ rows ∷ cols ∷ []) =
    if bytes_eq job (codes "relay") then run_of Relay (size_in rows) (size_in cols)
    else (if bytes_eq job (codes "show") then run_of Show (size_in rows) (size_in cols) else None)
relay_invocation_of _ = None

abbrev pub is_help : List ℕ → Bool
is_help word = bytes_eq word (codes "--help") || bytes_eq word (codes "-h")

abbrev pub is_no_line_drawing : List ℕ → Bool
is_no_line_drawing word = bytes_eq word (codes "--no-line-drawing")

-- `--help` or `-h`, for the help; or `ROWS COLS`, for the job with lines drawn; or these two with `--no-line-drawing`
-- before or after them, for the job with letters kept
abbrev pub screen_invocation_of : Invocation → Job → Job → List (List ℕ) → Option Invocation
screen_invocation_of help drawn kept (word ∷ []) = if is_help word then Some help else None
screen_invocation_of help drawn kept (rows ∷ cols ∷ []) = run_of drawn (size_in rows) (size_in cols)
screen_invocation_of help drawn kept (a ∷ b ∷ c ∷ []) =
    if is_no_line_drawing a then run_of kept (size_in b) (size_in c)
    else (if is_no_line_drawing c then run_of kept (size_in a) (size_in b) else None)
screen_invocation_of help drawn kept _ = None

-- what a program's arguments ask for, if it understands them
abbrev pub invocation_of : Program → List (List ℕ) → Option Invocation
invocation_of Screenrelay words = relay_invocation_of words
invocation_of Screenlive words =
    screen_invocation_of (print SCREENLIVE_HELP.now) (RelayLive Drawn) (RelayLive Kept) words
invocation_of Screencat words =
    screen_invocation_of (print SCREENCAT_HELP.now) (PrintFar Drawn) (PrintFar Kept) words
