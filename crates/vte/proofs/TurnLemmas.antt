-- One turn of the processor, over plain variables.
use Rattle.std.proofs.Common.{◌≡◌, ℕ, Bool, true, false, List, [], ◌++◌, ◌<◌, Option, None, Some, MatchOption, refl}
use Rattle.std.proofs.Common.{take, drop, length, append_assoc}
use Rattle.vte_types.specs.Call.{Call}
use Rattle.vte.specs.Timeout.{Ticking}
use Rattle.vte.specs.declared.processor.Processor.{Processor}
use Rattle.vte.specs.Stretch.{calls_from}
use Rattle.vte.specs.Hold.{limit, closing, held_of}
use Rattle.vte.specs.Advances.{IsIdle, IsEmptied, parses, begins, settles, empties}
use Rattle.vte.specs.Standing.{timeout_of, IsStateAfter, Advanced, Emptied, Held, Begun, Unopened, GoesOn}
use Rattle.vte_types.proofs.CallLemmas.{Calls-append}

module _ {T A H : Type 0} {ticking : Ticking T} {step : H → Call → H → Type 0} where
  -- nothing was opened
  unopened : {closed : Bool} {old : Processor T A} {parsed piece : List ℕ} {h : H} {new : Processor T A} {h' : H}
      → IsIdle ticking closed (timeout_of old) → Unopened ticking step old parsed [] piece h new h'
      → Advanced ticking step closed old parsed [] piece h new h'
  unopened {closed} {old} {parsed} {piece} free u = record {
    parsed' = parsed ++ piece;
    held' = [];
    calls = calls_from parsed piece;
    advances = rw (u.same) (parses closed (timeout_of old) parsed piece free u.none);
    state_after = u.state_after;
    goes = u.goes;
  }

  -- an update was opened in the piece: it goes on from there
  begun : {old : Processor T A} {parsed piece : List ℕ} {n : ℕ} {h : H} {new : Processor T A} {h' : H}
      → ticking.answers (timeout_of old) false → Begun ticking step old parsed [] piece n h new h'
      → GoesOn ticking step old parsed [] piece (drop n piece) h new h'
  begun {old} {parsed} {piece} {n} {new = new} free b = record {
    parsed' = parsed ++ take n piece;
    held' = [];
    calls = calls_from parsed (take n piece);
    state_after = b.parsed_so.state_after;
    goes = b.parsed_so.goes;
    further = λ t q k cs. begins false (timeout_of old) parsed piece n (timeout_of new) t q k cs free b.opens
        b.parsed_so.ticked;
  }

  -- a piece for which there was room
  pub held_advances : {old : Processor T A} {parsed held piece : List ℕ} {h : H} {new : Processor T A} {h' : H}
      → ticking.answers (timeout_of old) true → length (held ++ piece) < limit
      → Held ticking step old parsed held piece h new h'
      → Advanced ticking step false old parsed held piece h new h'
  held_advances {old} {parsed} {held} {piece} {new = new} open_ fits k = record {
    parsed' = k.parsed';
    held' = held_of k.hold';
    calls = k.calls;
    advances = settles (timeout_of old) parsed held piece (timeout_of new) k.parsed' k.hold' k.calls k.ticks open_ fits
        k.settles k.ticked;
    state_after = k.state_after;
    goes = k.goes;
  }

  -- nothing of a piece was taken yet
  pub goes_on_at_start : {p : Processor T A} {parsed held piece : List ℕ} {h : H} → IsStateAfter p parsed held
      → GoesOn ticking step p parsed held piece piece h p h
  goes_on_at_start {parsed = parsed} {held} s =
      record { parsed' = parsed; held' = held; calls = []; state_after = s; goes = refl; further = λ t q k cs a. a }

  module _ {old mid new : Processor T A} {parsed held piece rest : List ℕ} {h h1 h' : H}
      (so_far : GoesOn ticking step old parsed held piece rest h mid h1) where
    -- one turn more
    pub goes_on_more : {left : List ℕ} → GoesOn ticking step mid so_far.parsed' so_far.held' rest left h1 new h'
        → GoesOn ticking step old parsed held piece left h new h'
    goes_on_more a = record {
      parsed' = a.parsed';
      held' = a.held';
      calls = so_far.calls ++ a.calls;
      state_after = a.state_after;
      goes = Calls-append step h h1 h' so_far.calls a.calls so_far.goes a.goes;
      further = λ t q k cs f. rw (append_assoc so_far.calls a.calls cs)
          (so_far.further t q k (a.calls ++ cs) (a.further t q k cs f));
    }

    -- the last turn
    pub advanced_at_end : Advanced ticking step false mid so_far.parsed' so_far.held' rest h1 new h'
        → Advanced ticking step false old parsed held piece h new h'
    advanced_at_end a = record {
      parsed' = a.parsed';
      held' = a.held';
      calls = so_far.calls ++ a.calls;
      advances = so_far.further (timeout_of new) a.parsed' a.held' a.calls a.advances;
      state_after = a.state_after;
      goes = Calls-append step h h1 h' so_far.calls a.calls so_far.goes a.goes;
    }

module _ {T A H : Type 0} (ticking : Ticking T) (step : H → Call → H → Type 0) where
  -- a turn with nothing held
  pub idle_turn : (r : Option ℕ) (old : Processor T A) (parsed held piece : List ℕ) (h : H) (new : Processor T A)
      (h' : H) → held ≡ [] → ticking.answers (timeout_of old) false
      → MatchOption r (Unopened ticking step old parsed held piece h new h')
      (λ n. Begun ticking step old parsed held piece n h new h')
      → MatchOption r (Advanced ticking step false old parsed held piece h new h')
      (λ n. GoesOn ticking step old parsed held piece (drop n piece) h new h')
  idle_turn None old parsed held piece h new h' none free m = rw none (unopened free (rw none at m))
  idle_turn (Some n) old parsed held piece h new h' none free m = rw none (begun free (rw none at m))

  -- a turn before which the hold was emptied
  pub turn_after : (old mid : Processor T A) (parsed held piece : List ℕ) (h h1 : H) (is_open : Bool)
      → ticking.answers (timeout_of old) is_open → IsEmptied is_open held piece
      → Emptied ticking step old parsed held h mid h1 → (new : Processor T A) (h' : H) (r : Option ℕ)
      → MatchOption r (Unopened ticking step mid (parsed ++ held) [] piece h1 new h')
      (λ n. Begun ticking step mid (parsed ++ held) [] piece n h1 new h')
      → MatchOption r (Advanced ticking step false old parsed held piece h new h')
      (λ n. GoesOn ticking step old parsed held piece (drop n piece) h new h')
  turn_after old mid parsed held piece h h1 is_open asked must emptied new h' None u =
      let a : Advanced ticking step true mid (parsed ++ held) [] piece h1 new h' = unopened tt u in
      record {
        parsed' = a.parsed';
        held' = a.held';
        calls = (calls_from parsed held ++ closing) ++ a.calls;
        advances = empties (timeout_of old) parsed held piece is_open (timeout_of mid) (timeout_of new) a.parsed'
            a.held' a.calls asked must emptied.ticked a.advances;
        state_after = a.state_after;
        goes = Calls-append step h h1 h' (calls_from parsed held ++ closing) a.calls emptied.goes a.goes;
      }
  turn_after old mid parsed held piece h h1 is_open asked must emptied new h' (Some n) b =
      let calls = calls_from (parsed ++ held) (take n piece) in
      record {
        parsed' = (parsed ++ held) ++ take n piece;
        held' = [];
        calls = (calls_from parsed held ++ closing) ++ calls;
        state_after = b.parsed_so.state_after;
        goes = Calls-append step h h1 h' (calls_from parsed held ++ closing) calls emptied.goes b.parsed_so.goes;
        further = λ t q k cs a. rw (append_assoc (calls_from parsed held ++ closing) calls cs)
            (empties (timeout_of old) parsed held piece is_open (timeout_of mid) t q k (calls
            ++ cs) asked must emptied.ticked
            (begins true (timeout_of mid) (parsed
            ++ held) piece n (timeout_of new) t q k cs tt b.opens b.parsed_so.ticked a));
      }
