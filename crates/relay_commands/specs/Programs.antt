-- The lines that the programs write on their error outputs.
use Rattle.std.specs.Prelude.{ℕ, List, [], ◌∷◌, ◌++◌, codes}
use Rattle.relay_streams.specs.declared.error.RelayError.{RelayError}
use Rattle.relay_streams.specs.declared.error.RelayError.TheVariants.{Read, Write, Memory, TooManyReads, FrameTooLong}
use Rattle.relay_commands.specs.declared.program.Program.{Program}
use Rattle.relay_commands.specs.declared.program.Program.TheVariants.{Screenrelay, Screenlive, Screencat}

-- a line of these characters
abbrev pub line : List ℕ → List ℕ
line cs = cs ++ (0x0A ∷ [])

-- what is written for arguments that aren't understood
abbrev pub usage_line : Program → List ℕ
usage_line Screenrelay = line (codes "usage: screenrelay relay|show ROWS COLS")
usage_line Screenlive = line (codes "usage: screenlive ROWS COLS [--no-line-drawing]")
usage_line Screencat = line (codes "usage: screencat ROWS COLS [--no-line-drawing]")

abbrev pub name_of : Program → List ℕ
name_of Screenrelay = codes "screenrelay"
name_of Screenlive = codes "screenlive"
name_of Screencat = codes "screencat"

abbrev pub fault_name : RelayError → List ℕ
fault_name Read = codes "read"
fault_name Write = codes "write"
fault_name Memory = codes "memory"
fault_name TooManyReads = codes "too many reads"
fault_name FrameTooLong = codes "frame too long"

-- what is written at a fault: the program's name and the fault's
abbrev pub fault_line : Program → RelayError → List ℕ
fault_line program error = line (name_of program ++ codes ": " ++ fault_name error)
