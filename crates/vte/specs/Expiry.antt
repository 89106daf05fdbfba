-- A timeout that reads a clock.
use Rattle.vte.specs.declared.std_sync_handler.StdSyncHandler.{StdSyncHandler}
use Rattle.std.specs.Prelude.{ℕ, ◌≡◌, ◌+◌, min, Option, None, Some, is_some}
use Rattle.std.specs.Duration.{as_nanos, max_nanos}
use Rattle.std.specs.declared.time.Duration.{Duration}
use Rattle.vte.specs.Timeout.{Ticking}

-- the kept time is d nanoseconds after one that the clock may return, or the greatest that fits
abbrev pub ExpiresAfter : (Duration → Type 0) → ℕ → Option Duration → Type 0
ExpiresAfter may_be_now d None = ⊥
ExpiresAfter may_be_now d (Some end) = (now : Duration) × may_be_now now
    × (as_nanos end ≡ min (as_nanos now + d) max_nanos)

-- the clock of a timeout, and the time that it keeps
abbrev pub clock_of : {C : Type 0} → StdSyncHandler C → C
clock_of t = t.clock

abbrev pub expiry_of : {C : Type 0} → StdSyncHandler C → Option Duration
expiry_of t = t.timeout

-- It is pending while it keeps a time, and its clock stays the same.
abbrev pub by_clock : {C : Type 0} → (C → Duration → Type 0) → Ticking (StdSyncHandler C)
by_clock may_be = record {
  sets = λ s d t. (clock_of t ≡ clock_of s) × ExpiresAfter (may_be (clock_of s)) d (expiry_of t);
  clears = λ s t. (clock_of t ≡ clock_of s) × (expiry_of t ≡ None);
  answers = λ s b. b ≡ is_some (expiry_of s);
}
