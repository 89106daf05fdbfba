-- One pump: the writes that it makes, in order, and how many bytes they take.
use Rattle.std.specs.Prelude.{◌≡◌, ◌≢◌, ℕ, ◌+◌, ◌<◌, List, [], length, drop, min, Option, Ok, Err, Result}
use Rattle.std.specs.Io.KnownBytes.{WriteAppends}
use Rattle.std.specs.IoError.{error_kind}
use Rattle.std.specs.declared.io.Error.{Error}
use Rattle.std.specs.declared.io.ErrorKind.TheVariants.{WriteZero}

-- A pump of these bytes: writes are made until all bytes are taken, or one write fails or takes nothing. It gives
-- the pump's result, the number of bytes taken, and the writer after it. `step` gives the result of one write of these
-- bytes, and the writer after it. If a write returns more than it was offered, it has taken all that it was offered.
pub data Pumps {S : Type 0} (step : S → List ℕ → Result ℕ Error → S → Type 0) : S → List ℕ → Result (Unit {0}) Error → ℕ
    → S → Type 0 where
  all : {s : S} → Pumps step s [] (Ok tt) 0 s
  nothing : {s t : S} {owed : List ℕ} {e : Error} → owed ≢ [] → step s owed (Ok 0) t → error_kind e ≡ WriteZero
      → Pumps step s owed (Err e) 0 t
  fault : {s t : S} {owed : List ℕ} {e : Error} → owed ≢ [] → step s owed (Err e) t → Pumps step s owed (Err e) 0 t
  some : {s t : S} {owed : List ℕ} {answer : Result (Unit {0}) Error} (m : S) (n k : ℕ) → owed ≢ [] → 0 < n
      → step s owed (Ok n) m → Pumps step m (drop n owed) answer k t
      → Pumps step s owed answer (min n (length owed) + k) t

-- what std promises of one write to a writer, by the bytes that it is known to have
abbrev pub Writes : {W : Type 0} → (W → Option (List ℕ)) → W → List ℕ → Result ℕ Error → W → Type 0
Writes contents s bytes answer t = WriteAppends (contents s) (contents t) answer bytes

-- a line was pumped, with any result: all of it was taken, unless a write failed or took nothing
abbrev pub Tells : {S : Type 0} → (S → List ℕ → Result ℕ Error → S → Type 0) → S → List ℕ → S → Type 0
Tells step s line t = (answer : Result (Unit {0}) Error) × (n : ℕ) × Pumps step s line answer n t
