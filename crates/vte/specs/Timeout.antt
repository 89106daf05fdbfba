-- How a timeout is set and cleared.
use Rattle.std.specs.Prelude.{ℕ, Bool, true, false, List, [], ◌∷◌, ◌≡◌, if◌then◌else◌}
use Rattle.vte.specs.Csi.{opens_group}

-- what is done to a timeout: it is set for an update, or cleared
pub data Tick : Type 0 where
  Sets : Tick
  Clears : Tick

-- how long an update may last, in nanoseconds: 150 milliseconds
abbrev pub update_nanos : ℕ
update_nanos = 150_000_000

-- What a timeout may do when it is set for a number of nanoseconds, when it is cleared, and when it is asked whether
-- it is pending.
pub record Ticking (T : Type 0) : Type 1 where
  pub sets : T → ℕ → T → Type 0
  pub clears : T → T → Type 0
  pub answers : T → Bool → Type 0

-- a timeout went through these settings and clearings, in order, each once
abbrev pub Ticked : {T : Type 0} → Ticking T → T → List Tick → T → Type 0
Ticked ticking old [] new = new ≡ old
Ticked {T} ticking old (Sets ∷ ticks) new = (mid : T) × ticking.sets old update_nanos mid × Ticked ticking mid ticks new
Ticked {T} ticking old (Clears ∷ ticks) new = (mid : T) × ticking.clears old mid × Ticked ticking mid ticks new

-- the timeout is set once for each group that opens an update
abbrev pub sets_of : List (List ℕ) → List Tick
sets_of [] = []
sets_of (g ∷ gs) = if opens_group g then Sets ∷ sets_of gs else sets_of gs

-- whenever the timeout is asked, it returns this
abbrev pub Awaits : {T : Type 0} → Ticking T → T → Bool → Type 0
Awaits ticking t want = (b : Bool) → ticking.answers t b → b ≡ want

-- a timeout that is pending exactly from setting to clearing
pub record IsExact {T : Type 0} (ticking : Ticking T) : Type 0 where
  pub set : (s : T) (d : ℕ) (t : T) → ticking.sets s d t → Awaits ticking t true
  pub cleared : (s t : T) → ticking.clears s t → Awaits ticking t false
