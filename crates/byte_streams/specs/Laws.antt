-- Laws of pumps.
use Rattle.std.specs.Prelude.{◌≡◌, ℕ, List, [], ◌++◌, take, drop, Option, Ok, Err, Result}
use Rattle.std.specs.Io.KnownBytes.{Appends}
use Rattle.std.specs.declared.io.Error.{Error}
use Rattle.byte_streams.specs.Output.{TakesPart}
use Rattle.byte_streams.specs.Pump.{Pumps, Writes}
use Rattle.byte_streams.specs.Sent.{SendsText}

-- if a pump succeeds, no byte is left
abbrev pub TakesAll : {S : Type 0} → (S → List ℕ → Result ℕ Error → S → Type 0) → Type 0
TakesAll {S} step = (s t : S) (owed : List ℕ) (n : ℕ) → Pumps step s owed (Ok tt) n t → drop n owed ≡ []

-- if there are no bytes, no write is made
abbrev pub WritesNothing : {S : Type 0} → (S → List ℕ → Result ℕ Error → S → Type 0) → Type 0
WritesNothing {S} step = (s t : S) (answer : Result (Unit {0}) Error) (n : ℕ) → Pumps step s [] answer n t
    → (answer ≡ Ok tt) × (t ≡ s)

-- A pump appends the bytes taken to the known bytes of a writer. They are a prefix of the pending bytes, and the others
-- are still pending.
abbrev pub AppendsPrefix : {W : Type 0} → (W → Option (List ℕ)) → Type 0
AppendsPrefix {W} contents = (s t : W) (owed : List ℕ) (answer : Result (Unit {0}) Error) (n : ℕ)
    → Pumps (Writes contents) s owed answer n t
    → Appends (contents s) (contents t) (take n owed) × (take n owed ++ drop n owed ≡ owed)

-- A text that is sent without an error is appended whole to the known bytes of a writer. After an error a prefix that
-- isn't the whole text is appended.
abbrev pub SentTextsAppend : {W : Type 0} → (W → List ℕ → Result ℕ Error → W → Type 0) → (W → Option (List ℕ)) → Type 0
SentTextsAppend {W} takes contents = (w v : W) (text : List ℕ)
    → (SendsText takes w text (Ok tt) v → Appends (contents w) (contents v) text)
    × ((e : Error) → SendsText takes w text (Err e) v → TakesPart (contents w) (contents v) text)
