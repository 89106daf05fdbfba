-- Reads of a whole input: the bytes that they give, and how they end.
use Rattle.std.specs.Prelude.{◌≡◌, ◌≢◌, ℕ, suc, ◌≤◌, List, [], ◌++◌, length, Ok, Err, Result}
use Rattle.std.specs.IoError.{error_kind}
use Rattle.std.specs.declared.io.Error.{Error}
use Rattle.std.specs.declared.io.ErrorKind.TheVariants.{Interrupted}
use Rattle.command_line.specs.declared.input.InputError.{InputError}
use Rattle.command_line.specs.declared.input.InputError.TheVariants.{Memory, Read, TooManyReads}

-- Reads of a source, at most this many, each with this room: the bytes that they give, their result, and the source
-- after them. `step` gives the result of one read with this room, and the source after it. An interrupted read gives
-- nothing, and another one follows it. Memory is allocated after a read that gave some bytes, to keep them.
pub data Drains {S : Type 0} (step : S → ℕ → Result (List ℕ) Error → S → Type 0) (room : ℕ) : S → ℕ → List ℕ
    → Result (Unit {0}) InputError → S → Type 0 where
  ended : {s t : S} {n : ℕ} → step s room (Ok []) t → Drains step room s (suc n) [] (Ok tt) t
  failed : {s t : S} {n : ℕ} {e : Error} → step s room (Err e) t → error_kind e ≢ Interrupted
      → Drains step room s (suc n) [] (Err (Read e)) t
  refused : {s t : S} {n : ℕ} {some : List ℕ} → some ≢ [] → length some ≤ room → step s room (Ok some) t
      → Drains step room s (suc n) some (Err Memory) t
  stopped : {s : S} → Drains step room s 0 [] (Err TooManyReads) s
  again : {s t : S} {n : ℕ} {bytes : List ℕ} {answer : Result (Unit {0}) InputError} (m : S) (e : Error)
      → step s room (Err e) m → error_kind e ≡ Interrupted → Drains step room m n bytes answer t
      → Drains step room s (suc n) bytes answer t
  more : {s t : S} {n : ℕ} {bytes : List ℕ} {answer : Result (Unit {0}) InputError} (m : S) (some : List ℕ)
      → some ≢ [] → length some ≤ room → step s room (Ok some) m → Drains step room m n bytes answer t
      → Drains step room s (suc n) (some ++ bytes) answer t
