-- What a command returns, reads, writes and reports.
use Rattle.std.specs.Prelude.{◌≡◌, ℕ, List, [], ◌++◌, Option, Ok, Err, Result, IfSome}
use Rattle.std.specs.Io.KnownBytes.{Appends}
use Rattle.std.specs.declared.io.Error.{Error}
use Rattle.byte_streams.specs.Pump.{Tells}
use Rattle.charset_filter.specs.Lines.{passed}
use Rattle.relay_streams.specs.declared.error.RelayError.{RelayError}
use Rattle.relay_streams.specs.Live.{IsLiveText, RelaysThrough, farewell}
use Rattle.relay_streams.specs.Pieces.{pieces_of}
use Rattle.relay_streams.specs.Relayed.{Relays}
use Rattle.relay_streams.specs.Sessions.{IsRelayText}
use Rattle.relay_streams.specs.Shown.{IsTextShown, Prints, Shows, sized}
use Rattle.relay_commands.specs.Carried.{IsFarText, PrintsFar}
use Rattle.relay_commands.specs.Ends.{Sink, Source}
use Rattle.relay_commands.specs.Programs.{fault_line}
use Rattle.relay_commands.specs.Words.{Invocation, print, run}
use Rattle.relay_commands.specs.declared.program.Program.{Program}
use Rattle.relay_commands.specs.declared.words.Job.{Job}
use Rattle.relay_commands.specs.declared.words.Job.TheVariants.{Relay, Show, RelayLive, PrintFar}

-- the text that a job writes, where the input is these bytes
abbrev pub IsTextOf : Job → ℕ → ℕ → List ℕ → List ℕ → Type 0
IsTextOf Relay rows cols bytes text = IsRelayText rows cols bytes text
IsTextOf Show rows cols bytes text = IsTextShown (sized rows cols) (pieces_of bytes) text
IsTextOf (RelayLive lines) rows cols bytes text = IsLiveText rows cols (passed lines [] (bytes ++ farewell)) text
IsTextOf (PrintFar lines) rows cols bytes text = IsFarText lines rows cols bytes text

-- what an output has before and after, where these bytes were left in the input and all went well
abbrev pub HasWritten : Invocation → Option (List ℕ) → Option (List ℕ) → Option (List ℕ) → Type 0
HasWritten (print help) left old new = Appends old new help
HasWritten (run job rows cols) left old new = IfSome left (λ bytes. (text : List ℕ)
    × IsTextOf job rows cols bytes text × Appends old new text)

-- A job's result, and how it leaves the source and the writer.
abbrev pub DoesJob : {S W : Type 0} → Source S → Sink W → (W → Result (Unit {0}) Error → W → Type 0) → Job → ℕ → ℕ
    → Result (Unit {0}) RelayError → Type 0
DoesJob i o flushes Relay rows cols answer =
    Relays i.gives o.takes flushes rows cols i.old o.old answer i.new o.new
DoesJob i o flushes Show rows cols answer =
    Shows i.gives o.takes flushes (sized rows cols) i.old o.old answer i.new o.new
DoesJob i o flushes (RelayLive lines) rows cols answer =
    RelaysThrough lines i.gives o.takes flushes rows cols i.old o.old answer i.new o.new
DoesJob i o flushes (PrintFar lines) rows cols answer = PrintsFar lines i o flushes rows cols answer

-- The same for an invocation: the help was printed and nothing was read, or the job was done.
abbrev pub Does : {S W : Type 0} → Source S → Sink W → (W → Result (Unit {0}) Error → W → Type 0) → Invocation
    → Result (Unit {0}) RelayError → Type 0
Does i o flushes (print help) answer = (i.new ≡ i.old) × Prints o.takes flushes o.old help answer o.new
Does i o flushes (run job rows cols) answer = DoesJob i o flushes job rows cols answer

-- the exit status for a result, and what is written about it to the error output
abbrev pub Reports : {V : Type 0} → Sink V → Program → Result (Unit {0}) RelayError → ℕ → Type 0
Reports e program (Ok u) status = (status ≡ 0) × (e.new ≡ e.old)
Reports e program (Err fault) status = (status ≡ 1) × Tells e.takes e.old (fault_line program fault) e.new

-- A command was carried out, from a source to an output and an error output. The fields say its result, what was read
-- and written, and what was reported.
pub record CarriesOut {S W V : Type 0} (i : Source S) (o : Sink W) (flushes : W → Result (Unit {0}) Error → W → Type 0)
    (e : Sink V) (program : Program) (invocation : Invocation) (status : ℕ) : Type 0 where
  pub answer : Result (Unit {0}) RelayError
  pub does : Does i o flushes invocation answer
  pub reported : Reports e program answer status
