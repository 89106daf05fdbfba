-- The pieces in which an input is read.
use Rattle.std.specs.Prelude.{◌≡◌, ◌≢◌, ℕ, ◌+◌, ◌/◌, List, [], ◌∷◌, length, take, drop, replicate, Ok, Err, Result}
use Rattle.std.specs.declared.io.Error.{Error}
use Rattle.relay_streams.specs.declared.error.RelayError.{RelayError}
use Rattle.relay_streams.specs.declared.error.RelayError.TheVariants.{Read, TooManyReads}
use Rattle.relay_streams.specs.Fill.{FillEnd, Full, Ended, Failed, TooMany, Fills, CountsTo}

-- pieces of these lengths, each cut to what is left, and then the rest
abbrev pub cut_by : List ℕ → List ℕ → List (List ℕ)
cut_by [] bytes = bytes ∷ []
cut_by (n ∷ ns) bytes = take n bytes ∷ cut_by ns (drop n bytes)

-- the length of a full piece, in bytes
abbrev pub piece_len : ℕ
piece_len = 4096

-- as many full pieces as there are, and then the rest, which is shorter
abbrev pub pieces_of : List ℕ → List (List ℕ)
pieces_of bytes = cut_by (replicate (length bytes / piece_len) piece_len) bytes

-- `Drains step room s n pieces end t`: n reads from the source s fill these pieces, each up to `room` bytes. All but
-- the last one are full. The reads of the last one end with `end`, and the source is then t.
pub data Drains {S : Type 0} (step : S → ℕ → Result (List ℕ) Error → S → Type 0) (room : ℕ)
    : S → ℕ → List (List ℕ) → FillEnd → S → Type 0 where
  last : {s t : S} {n : ℕ} {bytes : List ℕ} {end : FillEnd} → Fills step s room n bytes end t
      → Drains step room s n (bytes ∷ []) end t
  next : {s t : S} {n k : ℕ} {bytes : List ℕ} {pieces : List (List ℕ)} {end : FillEnd} (m : S)
      → Fills step s room n bytes Full m → Drains step room m k pieces end t
      → Drains step room s (n + k) (bytes ∷ pieces) end t

-- the result where reads end like this
abbrev pub outcome_of : FillEnd → Result (Unit {0}) RelayError
outcome_of Full = Ok tt
outcome_of Ended = Ok tt
outcome_of Failed = Err Read
outcome_of TooMany = Err TooManyReads

-- An input was read in these full pieces of `room` bytes, to its end or to a fault. The fields say how many reads
-- were made, and how they ended.
pub record Drained {S : Type 0} (step : S → ℕ → Result (List ℕ) Error → S → Type 0) (room : ℕ) (old : S)
    (pieces : List (List ℕ)) (answer : Result (Unit {0}) RelayError) (new : S) : Type 0 where
  pub made : ℕ
  pub end : FillEnd
  pub drains : Drains step room old made pieces end new
  pub short : end ≢ Full
  pub most : CountsTo end made
  pub answered : answer ≡ outcome_of end

-- Some pieces of an input were read, all full but perhaps the last one, and no read failed.
pub record Begun {S : Type 0} (step : S → ℕ → Result (List ℕ) Error → S → Type 0) (room : ℕ) (old : S)
    (pieces : List (List ℕ)) (new : S) : Type 0 where
  pub made : ℕ
  pub end : FillEnd
  pub drains : Drains step room old made pieces end new
  pub most : CountsTo end made
  pub well : outcome_of end ≡ Ok tt
