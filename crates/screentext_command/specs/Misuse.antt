-- What is reported of arguments that aren't understood.
use Rattle.std.specs.Prelude.{◌≡◌, ℕ, true, List, ◌++◌, codes, Option, Some, None, Result}
use Rattle.std.specs.Borrow.{Bor}
use Rattle.std.specs.declared.io.Error.{Error}
use Rattle.clap.specs.Words.{Row, Text, first_of, matches_of}
use Rattle.screentext_command.specs.Asked.{has}
use Rattle.screentext_command.specs.Command.{TellsInParts}
use Rattle.screentext_command.specs.Words.{known}
use Rattle.screentext_command.specs.declared.help.TheConstants.{USAGE}
use Rattle.screentext_command.specs.declared.misuse.Misuse.{Misuse}

-- an argument is among these with this value, or without one
abbrev pub IsGiven : List Row → Text → Option (Bor Text) → Type 0
IsGiven rows word None = has word rows ≡ true
IsGiven rows word (Some value) = first_of word rows ≡ Some value.now

abbrev pub IsWrong : List Row → Misuse → Type 0
IsWrong rows m = IsGiven rows m.word.now m.value

-- A line for these values of the arguments: it names an argument that is among them, and its value if it has one.
pub data Names (rows : List Row) : Text → Type 0 where
  usage : Names rows USAGE.now
  value : (lead word value wanted : Text) → first_of word rows ≡ Some value → Names rows (lead ++ (word
      ++ (codes " " ++ (value ++ (codes ": " ++ (wanted ++ codes "\n"))))))
  flag : (lead word wanted : Text) → has word rows ≡ true
      → Names rows (lead ++ (word ++ (codes ": " ++ (wanted ++ codes "\n"))))

-- such a line was written
abbrev pub TellsWrong : {V : Type 0} → (V → List ℕ → Result ℕ Error → V → Type 0) → List Row → V → V → Type 0
TellsWrong takes rows old new = (line : Text) × Names rows line × TellsInParts takes old line new

abbrev pub TellsMisuse : {V : Type 0} → (V → List ℕ → Result ℕ Error → V → Type 0) → List Text → V → V → Type 0
TellsMisuse takes words old new = TellsWrong takes (matches_of known words) old new
