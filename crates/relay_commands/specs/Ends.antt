-- Sources and sinks of bytes, each before and after a call.
use Rattle.std.specs.Prelude.{ℕ, List, Result}
use Rattle.std.specs.declared.io.Error.{Error}

-- what one read of a source returns, and how it leaves the source; and the source before and after a call
pub record Source (S : Type 0) : Type 1 where
  pub gives : S → ℕ → Result (List ℕ) Error → S → Type 0
  pub old : S
  pub new : S

-- what one write to a sink returns, and how it leaves the sink; and the sink before and after a call
pub record Sink (W : Type 0) : Type 1 where
  pub takes : W → List ℕ → Result ℕ Error → W → Type 0
  pub old : W
  pub new : W

abbrev pub from : {S : Type 0} → (S → ℕ → Result (List ℕ) Error → S → Type 0) → S → S → Source S
from gives old new = record { gives = gives; old = old; new = new }

abbrev pub onto : {W : Type 0} → (W → List ℕ → Result ℕ Error → W → Type 0) → W → W → Sink W
onto takes old new = record { takes = takes; old = old; new = new }
