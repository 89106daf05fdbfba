-- Texts that are written one after another.
use Rattle.std.specs.Prelude.{ℕ, List, [], ◌∷◌, ◌++◌, Option, Ok, Err, Result}
use Rattle.std.specs.Io.KnownBytes.{Keeps}
use Rattle.std.specs.declared.io.Error.{Error}
use Rattle.byte_streams.specs.Pump.{Pumps}

-- These texts are pumped to a writer, one after another: the result of the last pump, and the writer after it. All
-- pumps before the last succeed.
pub data Sends {W : Type 0} (takes : W → List ℕ → Result ℕ Error → W → Type 0) : W → List (List ℕ)
    → Result (Unit {0}) Error → W → Type 0 where
  none : {w : W} → Sends takes w [] (Ok tt) w
  next : {w v : W} {text : List ℕ} {texts : List (List ℕ)} {answer : Result (Unit {0}) Error} {n : ℕ} (m : W)
      → Pumps takes w text (Ok tt) n m → Sends takes m texts answer v → Sends takes w (text ∷ texts) answer v
  fault : {w v : W} {text : List ℕ} {e : Error} {n : ℕ} → Pumps takes w text (Err e) n v
      → Sends takes w (text ∷ []) (Err e) v

-- A text is sent part by part, one pump after another: the result of the last pump, and the writer after it. If all
-- pumps succeed, the parts are the whole text. After a failed pump there may be more of the text.
pub data SendsText {W : Type 0} (takes : W → List ℕ → Result ℕ Error → W → Type 0) : W → List ℕ
    → Result (Unit {0}) Error → W → Type 0 where
  done : {w : W} → SendsText takes w [] (Ok tt) w
  part : {w v : W} {text rest : List ℕ} {answer : Result (Unit {0}) Error} {n : ℕ} (m : W)
      → Pumps takes w text (Ok tt) n m → SendsText takes m rest answer v → SendsText takes w (text ++ rest) answer v
  broken : {w v : W} {text : List ℕ} {e : Error} {n : ℕ} (rest : List ℕ) → Pumps takes w text (Err e) n v
      → SendsText takes w (text ++ rest) (Err e) v

-- what std promises of a flush of a writer, by the bytes that it is known to have
abbrev pub Flushes : {W : Type 0} → (W → Option (List ℕ)) → W → Result (Unit {0}) Error → W → Type 0
Flushes contents s answer t = Keeps (contents s) (contents t)
