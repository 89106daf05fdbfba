-- The faults: where they come from, and the lines that report them.
use Rattle.std.specs.Prelude.{ℕ, List, [], ◌∷◌, ◌++◌, codes}
use Rattle.std.specs.Fmt.{decimal}
use Rattle.std.specs.Option.{option_map_or}
use Rattle.command_line.specs.declared.input.InputError.{InputError}
use Rattle.command_line.specs.declared.input.InputError.TheVariants as input
use Rattle.player_page.specs.declared.error.PlayerError.{PlayerError}
use Rattle.player_page.specs.declared.error.PlayerError.TheVariants as player
use Rattle.recorded_screen.specs.declared.error.FilmError.{FilmError}
use Rattle.recorded_screen.specs.declared.error.FilmError.TheVariants as film
use Rattle.recordings.specs.Faults.{fault_text as recording_fault_text}
use Rattle.recordings.specs.declared.error.RecordingError.{RecordingError}
use Rattle.recordings.specs.declared.error.RecordingError.TheVariants as recording
use Rattle.screentext_command.specs.declared.error.TextError.{TextError}
use Rattle.screentext_command.specs.declared.error.TextError.TheVariants.{Cells, Cut, File, Film, Guessed, Late, Marker}
use Rattle.screentext_command.specs.declared.error.TextError.TheVariants.{Memory}
use Rattle.screentext_command.specs.declared.error.TextError.TheVariants.{Player, Read, Recording, Write}
use Rattle.screentext_command.specs.declared.reasons.Reason.{Reason}

-- a fault of the input
abbrev pub input_fault : InputError → TextError
input_fault (input.Read e) = Read
input_fault input.Memory = Memory
input_fault input.TooManyReads = Read

-- a fault of reading a recording, of a film, and of a page that plays
abbrev pub recording_fault : RecordingError → TextError
recording_fault recording.Memory = Memory
recording_fault e = Recording e

abbrev pub film_fault : FilmError → TextError
film_fault film.Memory = Memory
film_fault film.TooLong = Film

abbrev pub player_fault : PlayerError → TextError
player_fault player.Memory = Memory
player_fault player.TooLong = Player

-- the text of a reason in the code: with a number in it, where there is one
abbrev pub said_of : Reason → List ℕ
said_of r = r.before.now ++ (option_map_or decimal r.number [] ++ (r.after.now ++ r.end.now))

-- what is reported of a fault
abbrev pub fault_text : TextError → List ℕ
fault_text Read = codes "read"
fault_text Write = codes "write"
fault_text Memory = codes "memory"
fault_text File = codes "the timing file can't be read"
fault_text Marker = codes "no such time or marker; --list shows the markers"
fault_text Film = codes "the film has more than 8 MiB"
fault_text Late = codes "--from is later than the end of the film"
fault_text Player = codes "the page has more than 32 MiB"
fault_text (Cells most) =
    codes "a size in the recording has more than " ++ (decimal most ++ codes " cells: --max-cells N allows more")
fault_text (Cut e) = recording_fault_text e ++ codes "; what comes before it is shown"
fault_text Guessed = codes "it begins as an asciicast, but line 1 is no header: shown as raw bytes"
fault_text (Recording e) = recording_fault_text e

-- the line that reports it
abbrev pub fault_line : TextError → List ℕ
fault_line e = codes "screentext: " ++ (fault_text e ++ 0x0A ∷ [])
