-- The bytes of a writer after a text was written to it.
use Rattle.std.specs.Prelude.{ℕ, ◌<◌, List, length, take, Option}
use Rattle.std.specs.Io.KnownBytes.{Appends}

-- the writer took a prefix of the text, and nothing else
abbrev pub TakesPrefix : Option (List ℕ) → Option (List ℕ) → List ℕ → Type 0
TakesPrefix before after text = (n : ℕ) × Appends before after (take n text)

-- the writer took a prefix of the text that isn't all of it, and nothing else
abbrev pub TakesPart : Option (List ℕ) → Option (List ℕ) → List ℕ → Type 0
TakesPart before after text = (n : ℕ) × (n < length text) × Appends before after (take n text)
