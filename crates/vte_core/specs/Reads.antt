-- What the parser's functions do with the first k of some bytes: the parser (p) and the performer (old) before them,
-- and after them (r, new).
use Rattle.std.specs.Prelude.{◌≡◌, ◌+◌, ◌<◌, ◌≤◌, ℕ, Bool, true, false, List, [], take, drop, length, slice_index}
use Rattle.vte_core.specs.Event.{Event}
use Rattle.vte_core.specs.Pending.{Pending, events_from, after_bytes}
use Rattle.vte_core.specs.Runs.{PerformsEvents, IsStep}
use Rattle.vte_core.specs.Standing.{IsAt}
use Rattle.vte_core.specs.Stopping.{StopsAt}
use Rattle.vte_core.specs.declared.parser.Parser.{Parser}
use Rattle.vte_core.specs.declared.parser.State.TheVariants.{Ground}

-- ESC comes first
pub record BeginsWithEsc (bs : List ℕ) : Type 0 where
  pub some : 0 < length bs
  pub esc : slice_index bs 0 ≡ 0x1B

-- ESC comes first, in ground text, and no character is unfinished
pub record IsAtEsc (n : ℕ) (p : Parser n) (bs : List ℕ) : Type 0 where
  pub begins : BeginsWithEsc bs
  pub ground : p.state ≡ Ground
  pub whole : p.unfinished ≡ []

-- from any state that the parser was in, it is in the one after them, and the performer has gone through their events
pub record Reads {S : Type 0} (step : S → Event → S
    → Type 0) (n : ℕ) (p : Parser n) (old : S) (bs : List ℕ) (k : ℕ) (r : Parser n) (new : S) : Type 0 where
  pub within : k ≤ length bs
  pub state_after : (q : Pending) → IsAt n p q → IsAt n r (after_bytes q (take k bs))
  pub reported : PerformsEvents step n p old (take k bs) new

-- some bytes are read, and the performer has to be asked after them, and not between those that have events
pub record ReadsStep {S : Type 0} (step : S → Event → S
    → Type 0) (n : ℕ) (p : Parser n) (old : S) (bs : List ℕ) (k : ℕ) (r : Parser n) (new : S) : Type 0 where
  pub some : 0 < k
  pub reads : Reads step n p old bs k r new
  pub is_step : (q : Pending) → IsAt n p q → IsStep n q (take k bs) (drop k bs)

-- bytes are read, and the performer is asked before them and after them, and wherever else it has to be: what stops as
-- it should on the bytes that are left does so on all of them
pub record ReadsAsked {S : Type 0} (step : S → Event → S → Type 0) (terminated : S
    → Bool) (n : ℕ) (p : Parser n) (old : S) (bs : List ℕ) (k : ℕ) (r : Parser n) (new : S) : Type 0 where
  pub reads : Reads step n p old bs k r new
  pub stops : (q : Pending) → IsAt n p q → (j : ℕ) (end : S)
      → StopsAt step terminated n (after_bytes q (take k bs)) true (drop k bs) new j end
      → StopsAt step terminated n q true bs old (k + j) end

-- some bytes are read, and where the parser asks a performer that goes on, it asks wherever it has to
pub record ReadsOn {S : Type 0} (step : S → Event → S → Type 0) (terminated : S
    → Bool) (asks : Bool) (n : ℕ) (p : Parser n) (old : S) (bs : List ℕ) (k : ℕ) (r : Parser n) (new : S) : Type 0 where
  pub some : 0 < k
  pub reads : Reads step n p old bs k r new
  pub asked : asks ≡ true → terminated old ≡ false → ReadsAsked step terminated n p old bs k r new

-- bytes without events are read
pub record ReadsQuietly (n : ℕ) (p : Parser n) (bs : List ℕ) (k : ℕ) (r : Parser n) : Type 0 where
  pub within : k ≤ length bs
  pub state_after : (q : Pending) → IsAt n p q → IsAt n r (after_bytes q (take k bs))
  pub quiet : (q : Pending) → IsAt n p q → events_from n q (take k bs) ≡ []

-- a sequence is read whole, in one step; or nothing is read (k is 0), and the performer and what is pending stay
pub record ReadsWhole {S : Type 0} (step : S → Event → S
    → Type 0) (n : ℕ) (p : Parser n) (old : S) (bs : List ℕ) (k : ℕ) (r : Parser n) (new : S) : Type 0 where
  pub sequence : 0 < k → ReadsStep step n p old bs k r new
  pub nothing : k ≡ 0 → (new ≡ old) × ((q : Pending) → IsAt n p q → IsAt n r q)
