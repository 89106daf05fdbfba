-- Laws of the events of a byte stream, for a parser that keeps n bytes of an operating system command.
use Rattle.std.specs.Prelude.{◌≡◌, ◌≢◌, ℕ, ◌+◌, ◌<◌, ◌≤◌, true, false, List, [], ◌∷◌, ◌++◌, length}
use Rattle.std.specs.List.{All, concat}
use Rattle.vte_core.specs.Event.{Event, Print, Execute, Unhook, Osc}
use Rattle.vte_core.specs.Shapes.{events}
use Rattle.vte_core.specs.Added.{added}
use Rattle.vte_core.specs.GroundText.{ends_in_text}
use Rattle.vte_core.specs.Stopping.{asks_after}

-- the events of a prefix of a stream are a prefix of its events
abbrev pub KeepsBeginnings : Type 0
KeepsBeginnings = (n : ℕ) (past bytes : List ℕ) → events n (past ++ bytes) ≡ events n past ++ added n past bytes

-- bytes that follow one another add their events one after the other
abbrev pub AddsInOrder : Type 0
AddsInOrder = (n : ℕ) (past a b : List ℕ) → added n past (a ++ b) ≡ added n past a ++ added n (past ++ a) b

-- ESC begins anew, and ends what came before it
abbrev pub CutsBeforeEsc : Type 0
CutsBeforeEsc = (n : ℕ) (s t : List ℕ) → events n (s ++ 0x1B ∷ t) ≡ events n (s ++ 0x1B ∷ []) ++ events n (0x1B ∷ t)

-- an unfinished character, a command, or a device string, which ESC cuts off
abbrev pub IsCutOff : Event → Type 0
IsCutOff (Print c) = c ≡ 0xFFFD
IsCutOff (Osc ps bell) = bell ≡ false
IsCutOff Unhook = Unit {0}
IsCutOff _ = ⊥

-- ESC itself has no other event
abbrev pub EscCutsOff : Type 0
EscCutsOff = (n : ℕ) (past : List ℕ) → All IsCutOff (added n past (0x1B ∷ []))

-- after this byte a stream begins anew
abbrev pub CutsAfter : ℕ → Type 0
CutsAfter b = (n : ℕ) (s t : List ℕ) → events n (s ++ b ∷ t) ≡ events n (s ++ b ∷ []) ++ events n t

-- an operating system command has 1 to 16 pieces, and at most n bytes in all
abbrev pub Fits : ℕ → Event → Type 0
Fits n (Osc ps bell) = (0 < length ps) × (length ps ≤ 16) × (length (concat ps) ≤ n)
Fits n _ = Unit {0}

-- the events that some bytes add to a stream fit
abbrev pub AddsFitting : Type 0
AddsFitting = (n : ℕ) (past bytes : List ℕ) → All (Fits n) (added n past bytes)

-- of ground text: a character is printed, or a control is executed
abbrev pub IsCharacter : Event → Type 0
IsCharacter (Print c) = Unit {0}
IsCharacter (Execute b) = Unit {0}
IsCharacter _ = ⊥

-- a byte of ground text adds nothing else
abbrev pub TellsCharacters : Type 0
TellsCharacters = (n : ℕ) (past : List ℕ) (b : ℕ) → ends_in_text (past ++ b ∷ []) ≡ true
    → All IsCharacter (added n past (b ∷ []))

-- no character is printed
abbrev pub PrintsNothing : Event → Type 0
PrintsNothing (Print c) = ⊥
PrintsNothing _ = Unit {0}

-- a byte that isn't ground text, and isn't an ESC that cuts a character off, prints nothing
abbrev pub PrintsTextAlone : Type 0
PrintsTextAlone = (n : ℕ) (past : List ℕ) (b : ℕ) → b ≢ 0x1B → ends_in_text (past ++ b ∷ []) ≡ false
    → All PrintsNothing (added n past (b ∷ []))

-- the performer is asked before the first byte of a piece, and after its last
abbrev pub AsksAtEnds : Type 0
AsksAtEnds = (past piece : List ℕ) → (asks_after past piece 0 ≡ true) × (asks_after past piece (length piece) ≡ true)

-- and after each byte that adds more than characters of ground text
abbrev pub AsksAfterSequences : Type 0
AsksAfterSequences = (n : ℕ) (past bytes : List ℕ) (b : ℕ) (rest : List ℕ)
    → ¬ All IsCharacter (added n (past ++ bytes) (b ∷ [])) → asks_after past (bytes ++ b ∷ rest) (length bytes + 1)
    ≡ true

-- but not after ground text that goes on in the piece
abbrev pub AsksOutsideRuns : Type 0
AsksOutsideRuns = (past bytes : List ℕ) (b : ℕ) (rest : List ℕ) → 0 < length bytes
    → ends_in_text (past ++ bytes) ≡ true → b ≢ 0x1B → asks_after past (bytes ++ b ∷ rest) (length bytes) ≡ false
