-- Pieces of an input that are taken one after another.
use Rattle.std.specs.Prelude.{ℕ, List, [], ◌∷◌, ◌++◌, Ok, Err, Result}
use Rattle.std.specs.declared.io.Error.{Error}
use Rattle.relay_streams.specs.declared.error.RelayError.{RelayError}
use Rattle.relay_streams.specs.Pieces.{piece_len, Begun, Drained}

-- `TakesAll step p w pieces q v`: these pieces were taken, one after another. This changes what takes them from p to
-- q, and the output from w to v. `step` says what one piece does.
pub data TakesAll {P T : Type 0} (step : P → T → List ℕ → Result (Unit {0}) RelayError → P → T → Type 0) (p : P) (w : T)
    : List (List ℕ) → P → T → Type 0 where
  none : TakesAll step p w [] p w
  more : {r : P} {v : T} {pieces : List (List ℕ)} {piece : List ℕ} (q : P) (m : T) → TakesAll step p w pieces q m
      → step q m piece (Ok tt) r v → TakesAll step p w (pieces ++ piece ∷ []) r v

-- Full pieces are read from a source, and each is taken before the next one is read. The constructors say which
-- result this has, and how it leaves the source, what takes the pieces, and the output.
pub data GivesEach {S P T : Type 0} (gives : S → ℕ → Result (List ℕ) Error → S → Type 0)
    (step : P → T → List ℕ → Result (Unit {0}) RelayError → P → T → Type 0) (s : S) (p : P) (w : T)
    : Result (Unit {0}) RelayError → S → P → T → Type 0 where
  -- a read failed, or there were too many reads: the pieces before it were taken
  unread : {t : S} {q : P} {v : T} (pieces : List (List ℕ)) (rest : List ℕ) (e : RelayError)
      → Drained gives piece_len s (pieces ++ rest ∷ []) (Err e) t → TakesAll step p w pieces q v
      → GivesEach gives step s p w (Err e) t q v
  -- the last piece was refused
  refused : {t : S} {r : P} {v : T} (q : P) (m : T) (pieces : List (List ℕ)) (piece : List ℕ) (e : RelayError)
      → Begun gives piece_len s (pieces ++ piece ∷ []) t → TakesAll step p w pieces q m → step q m piece (Err e) r v
      → GivesEach gives step s p w (Err e) t r v
  -- the input was read to its end, and all pieces were taken
  taken : {t : S} {q : P} {v : T} (pieces : List (List ℕ)) → Drained gives piece_len s pieces (Ok tt) t
      → TakesAll step p w pieces q v → GivesEach gives step s p w (Ok tt) t q v
