-- Texts that are written to an output.
use Rattle.std.proofs.Common.{◌≡◌, ℕ, suc, List, ◌++◌, ◌+◌, ◌∙◌, ap, refl, Option, None, Some, Ok, Err, Result, OnOk}
use Rattle.std.specs.Io.KnownBytes.{Appends, Keeps}
use Rattle.std.specs.declared.io.Error.{Error}
use Rattle.byte_streams.specs.Pump.{Pumps, Writes}
use Rattle.byte_streams.specs.Sent.{SendsText}
use Rattle.byte_streams.proofs.SendLemmas.{text-appends, text-pumped, text-failed}
use Rattle.vt100_cells.specs.Cell.{CellView}
use Rattle.terminal_model.specs.Term.{Size}
use Rattle.relay_streams.specs.declared.error.RelayError.{RelayError}
use Rattle.relay_streams.specs.Shown.{Prints, printed, row_line, rows_text, screen_text}

-- rows after one another
pub rows-next : (z : Size) (t : ℕ → ℕ → CellView) (written : List ℕ) (row n m : ℕ)
    → screen_text z t ≡ written ++ rows_text z t row n → n ≡ suc m
    → screen_text z t ≡ written ++ (row_line z t row ++ rows_text z t (row + 1) m)
rows-next z t written row n m e k = e ∙ ap (λ j. written ++ rows_text z t row j) k

-- a text that is sent by one pump
pub text-one : (W : Type 0) (takes : W → List ℕ → Result ℕ Error → W → Type 0) (w v : W) (text : List ℕ)
    (answer : Result (Unit {0}) Error) (n : ℕ) → Pumps takes w text answer n v → SendsText takes w text answer v
text-one W takes w v text (Ok done) n pumps = text-pumped W takes w v text n pumps
text-one W takes w v text (Err e) n pumps = text-failed W takes w v text e n pumps

pub Appends-kept : (a b c : Option (List ℕ)) (xs : List ℕ) → Appends a b xs → Keeps b c → Appends a c xs
Appends-kept None b c xs h k = tt
Appends-kept (Some a) None c xs h k = absurd h
Appends-kept (Some a) (Some b) None xs h k = absurd k
Appends-kept (Some a) (Some b) (Some c) xs h k = k ∙ h

module _ (W : Type 0) (takes : W → List ℕ → Result ℕ Error → W → Type 0)
    (flushes : W → Result (Unit {0}) Error → W → Type 0) (contents : W → Option (List ℕ))
    (took : (w : W) (bytes : List ℕ) (answer : Result ℕ Error) (v : W) → takes w bytes answer v
    → Writes contents w bytes answer v)
    (flushed : (w : W) (answer : Result (Unit {0}) Error) (v : W) → flushes w answer v
    → Keeps (contents w) (contents v))
  where
    -- what was printed is appended
    pub prints-text : (w : W) (text : List ℕ) (answer : Result (Unit {0}) RelayError) (v : W)
        → Prints takes flushes w text answer v → OnOk answer (Appends (contents w) (contents v) text)
    prints-text w text answer v (printed m sends flush) =
        Appends-kept (contents w) (contents m) (contents v) text
        (text-appends W takes contents took w m text (Ok tt) sends refl) (flushed m (Ok tt) v flush)
    prints-text w text answer v _ = tt
