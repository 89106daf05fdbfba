-- What the command returns, reads, writes and reports.
use Rattle.std.specs.Prelude.{◌≡◌, ℕ, ◌^◌, List, Option, Some, None, Ok, Err, Result}
use Rattle.std.specs.declared.io.Error.{Error}
use Rattle.byte_streams.specs.Pump.{Pumps}
use Rattle.byte_streams.specs.Sent.{SendsText}
use Rattle.clap.specs.Words.{Text}
use Rattle.command_line.specs.Input.{Drains}
use Rattle.command_line.specs.declared.input.InputError.{InputError}
use Rattle.screentext_command.specs.Faults.{fault_line, input_fault}
use Rattle.screentext_command.specs.Asked.{AskFor, AskForText, Origin, Wish}
use Rattle.screentext_command.specs.Missing.{IsMissing}
use Rattle.screentext_command.specs.Reads.{IsAnswerTo}
use Rattle.screentext_command.specs.declared.error.TextError.{TextError}
use Rattle.screentext_command.specs.declared.error.TextError.TheVariants.{Memory, Write}

-- A text was pumped to a writer, which was then flushed: the result of this, and the writer after it.
pub data Prints {W : Type 0} (takes : W → List ℕ → Result ℕ Error → W → Type 0)
    (flushes : W → Result (Unit {0}) Error → W → Type 0) (w : W) (text : List ℕ) : Result (Unit {0}) TextError → W
    → Type 0 where
  -- a write failed or took nothing
  stopped : {v : W} (e : Error) (n : ℕ) → Pumps takes w text (Err e) n v → Prints takes flushes w text (Err Write) v
  -- all was written, and the flush failed
  unflushed : {v : W} (m : W) (e : Error) (n : ℕ) → Pumps takes w text (Ok tt) n m → flushes m (Err e) v
      → Prints takes flushes w text (Err Write) v
  -- all went well
  printed : {v : W} (m : W) (n : ℕ) → Pumps takes w text (Ok tt) n m → flushes m (Ok tt) v
      → Prints takes flushes w text (Ok tt) v

-- where all went well, this is still to be reported
abbrev pub remarked : Option TextError → Result (Unit {0}) TextError → Result (Option TextError) TextError
remarked remark (Ok u) = Ok remark
remarked remark (Err e) = Err e

-- a text was printed, and this is to be reported of it
abbrev pub PrintsWith : {W : Type 0} → (W → List ℕ → Result ℕ Error → W → Type 0)
    → (W → Result (Unit {0}) Error → W → Type 0) → W → List ℕ → Option TextError → Result (Option TextError) TextError
    → W → Type 0
PrintsWith takes flushes w text remark answer v =
    (printing : Result (Unit {0}) TextError) × (answer ≡ remarked remark printing)
    × Prints takes flushes w text printing v

-- What the command does with an input and a writer: its result, and both after it. With a successful result comes what
-- is to be reported of it. Nothing is written before the input has ended.
pub data Does {S W : Type 0} (holds : List ℕ → List ℕ → Type 0) (lacks : List ℕ → Type 0) (words : List Text)
    (gives : S → ℕ → Result (List ℕ) Error → S → Type 0) (takes : W → List ℕ → Result ℕ Error → W → Type 0)
    (flushes : W → Result (Unit {0}) Error → W → Type 0) (s : S) (w : W) : Result (Option TextError) TextError → S → W
    → Type 0 where
  -- there was no memory for the arguments
  refused : Does holds lacks words gives takes flushes s w (Err Memory) s w
  -- the arguments ask for the help or the version, which was printed
  told : {v : W} {answer : Result (Option TextError) TextError} (text : List ℕ) → AskForText words text
      → PrintsWith takes flushes w text None answer v → Does holds lacks words gives takes flushes s w answer s v
  -- a read failed, the limit of reads was reached, or there was no memory for what was read
  unread : {t : S} (e : InputError) (lost : List ℕ) → Drains gives 65536 s (2 ^ 40) lost (Err e) t
      → Does holds lacks words gives takes flushes s w (Err (input_fault e)) t w
  -- the input was read to its end, and for this reason no text of it is printed
  unmade : {t : S} (bytes : List ℕ) (e : TextError) (origin : Origin) (wish : Wish) → AskFor words origin wish
      → Drains gives 65536 s (2 ^ 40) bytes (Ok tt) t → IsMissing holds lacks origin wish bytes e
      → Does holds lacks words gives takes flushes s w (Err e) t w
  -- the input was read to its end, and the text was printed that the arguments ask for
  done : {t : S} {v : W} {answer : Result (Option TextError) TextError} (bytes text : List ℕ)
      (remark : Option TextError) (origin : Origin) (wish : Wish) → AskFor words origin wish
      → Drains gives 65536 s (2 ^ 40) bytes (Ok tt) t → IsAnswerTo holds origin wish bytes text remark
      → PrintsWith takes flushes w text remark answer v → Does holds lacks words gives takes flushes s w answer t v

-- a line was written part by part: all of it, unless a write failed or took nothing
abbrev pub TellsInParts : {V : Type 0} → (V → List ℕ → Result ℕ Error → V → Type 0) → V → List ℕ → V → Type 0
TellsInParts takes old line new = (answer : Result (Unit {0}) Error) × SendsText takes old line answer new

-- so was the line of a fault
abbrev pub TellsFault : {V : Type 0} → (V → List ℕ → Result ℕ Error → V → Type 0) → V → TextError → V → Type 0
TellsFault takes old e new = TellsInParts takes old (fault_line e) new

-- the exit status that goes with an answer, and what is written of it on the error output
abbrev pub Reports : {V : Type 0} → (V → List ℕ → Result ℕ Error → V → Type 0) → V
    → Result (Option TextError) TextError → ℕ → V → Type 0
Reports takes old (Ok None) status new = (status ≡ 0) × (new ≡ old)
Reports takes old (Ok (Some remark)) status new = (status ≡ 3) × TellsFault takes old remark new
Reports takes old (Err e) status new = (status ≡ 1) × TellsFault takes old e new

-- Arguments that are understood were carried out, from an input to an output and an error output.
pub record CarriesOut {S W V : Type 0} (holds : List ℕ → List ℕ → Type 0) (lacks : List ℕ → Type 0)
    (words : List Text) (gives : S → ℕ → Result (List ℕ) Error → S → Type 0)
    (takes : W → List ℕ → Result ℕ Error → W → Type 0)
    (flushes : W → Result (Unit {0}) Error → W → Type 0) (tells : V → List ℕ → Result ℕ Error → V → Type 0) (s : S)
    (w : W) (e : V) (status : ℕ) (t : S) (v : W) (f : V) : Type 0 where
  pub answer : Result (Option TextError) TextError
  pub does : Does holds lacks words gives takes flushes s w answer t v
  pub reported : Reports tells e answer status f
