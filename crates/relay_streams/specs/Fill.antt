-- Reads that fill a piece: how they change the source, the bytes that they give, and how they end.
use Rattle.std.specs.Prelude.{◌≡◌, ◌≢◌, ℕ, ◌+◌, ◌-◌, ◌^◌, ◌<◌, ◌≤◌, List, [], ◌++◌, length, take, Ok, Err}
use Rattle.std.specs.Prelude.{Result}
use Rattle.std.specs.IoError.{error_kind}
use Rattle.std.specs.declared.io.Error.{Error}
use Rattle.std.specs.declared.io.ErrorKind.TheVariants.{Interrupted}
use Rattle.relay_streams.specs.declared.error.RelayError.{RelayError}
use Rattle.relay_streams.specs.declared.error.RelayError.TheVariants.{Read, TooManyReads}

-- how the reads end: there is no room left, the input has ended, a read failed, or no further read may be made
pub data FillEnd : Type 0 where
  Full : FillEnd
  Ended : FillEnd
  Failed : FillEnd
  TooMany : FillEnd

-- `Fills step s room n bytes end t`: n reads from the source s, into a buffer of `room` bytes, give `bytes` and end
-- with `end`. They leave the source as t. `step` says what one read returns, and how it leaves the source. An
-- interrupted read gives nothing, and another read follows it.
pub data Fills {S : Type 0} (step : S → ℕ → Result (List ℕ) Error → S → Type 0) : S → ℕ → ℕ → List ℕ → FillEnd → S
    → Type 0 where
  full : {s : S} → Fills step s 0 0 [] Full s
  stopped : {s : S} {room : ℕ} → 0 < room → Fills step s room 0 [] TooMany s
  ended : {s t : S} {room : ℕ} → 0 < room → step s room (Ok []) t → Fills step s room 1 [] Ended t
  failed : {s t : S} {room : ℕ} {e : Error} → 0 < room → step s room (Err e) t → error_kind e ≢ Interrupted
      → Fills step s room 1 [] Failed t
  again : {s t : S} {room n : ℕ} {bytes : List ℕ} {end : FillEnd} (m : S) (e : Error) → 0 < room
      → step s room (Err e) m → error_kind e ≡ Interrupted → Fills step m room n bytes end t
      → Fills step s room (1 + n) bytes end t
  more : {s t : S} {room n : ℕ} {bytes : List ℕ} {end : FillEnd} (m : S) (some : List ℕ) → some ≢ []
      → length some ≤ room → step s room (Ok some) m → Fills step m (room - length some) n bytes end t
      → Fills step s room (1 + n) (some ++ bytes) end t

-- the most reads that may be made in all
abbrev pub max_reads : ℕ
max_reads = 2 ^ 40

-- the number of reads made in all: `max_reads` if there were too many, else at most `max_reads`
abbrev pub CountsTo : FillEnd → ℕ → Type 0
CountsTo TooMany count = count ≡ max_reads
CountsTo end count = count ≤ max_reads

-- the result where the reads gave n bytes and ended like this
abbrev pub end_answer : FillEnd → ℕ → Result ℕ RelayError
end_answer Full n = Ok n
end_answer Ended n = Ok n
end_answer Failed n = Err Read
end_answer TooMany n = Err TooManyReads

-- A piece was filled up to `room` bytes, after `before` earlier reads. The fields say how many reads were made, the
-- bytes that they gave, and how they ended. At most `max_reads` reads are made in all, and none if there were that
-- many before.
pub record Filled {S : Type 0} (step : S → ℕ → Result (List ℕ) Error → S → Type 0) (old : S) (room before : ℕ)
    (answer : Result ℕ RelayError) (new : S) (piece : List ℕ) (after : ℕ) : Type 0 where
  pub made : ℕ
  pub bytes : List ℕ
  pub end : FillEnd
  pub fills : Fills step old room made bytes end new
  pub prefix : take (length bytes) piece ≡ bytes
  pub counted : after ≡ before + made
  pub most : before ≤ max_reads → CountsTo end after
  pub spent : max_reads ≤ before → made ≡ 0
  pub answered : answer ≡ end_answer end (length bytes)
