-- The result of one read of a source.
use Rattle.std.specs.Prelude.{◌≡◌, ℕ, ◌<◌, List, [], take, Option, Ok, Err, Result}
use Rattle.std.specs.Io.KnownBytes.{Consumes, IsAtEnd, Keeps}
use Rattle.std.specs.declared.io.Error.{Error}

-- the bytes that a read gave, by its result and by its room afterwards
abbrev pub given : Result ℕ Error → List ℕ → Result (List ℕ) Error
given (Ok n) room = Ok (take n room)
given (Err e) room = Err e

-- what std promises of one read with this much room, by the bytes that the reader is known to have left
abbrev pub IsReadBy : {R : Type 0} → (R → Option (List ℕ)) → R → ℕ → Result (List ℕ) Error → R → Type 0
IsReadBy left s room (Ok bytes) t = Consumes (left s) (left t) bytes × (bytes ≡ [] → 0 < room → IsAtEnd (left t))
IsReadBy left s room (Err e) t = Keeps (left s) (left t)
