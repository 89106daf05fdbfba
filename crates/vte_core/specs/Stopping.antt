-- Where `advance_until_terminated` stops.
use Rattle.std.specs.Prelude.{◌≡◌, ◌<◌, ◌≤◌, ◌==◌, ℕ, zero, suc, take, drop, length, Bool, true, false, not, ◌&&◌, ◌||◌}
use Rattle.std.specs.Prelude.{List, [], ◌∷◌, ◌++◌}
use Rattle.std.specs.Bool.{MatchBool}
use Rattle.vte_core.specs.Event.{Event, Performs}
use Rattle.vte_core.specs.Bytes.{is_esc}
use Rattle.vte_core.specs.Added.{added}
use Rattle.vte_core.specs.GroundText.{ends_in_text}
use Rattle.vte_core.specs.Pending.{Pending, InText, InEscape, InCsi, InOsc, InHook, InDevice, InSwallowed}
use Rattle.vte_core.specs.Pending.{events_of_byte, after_byte, events_from, after_bytes}

abbrev pub is_text : Pending → Bool
is_text (InText u) = true
is_text (InEscape is) = false
is_text (InCsi h) = false
is_text (InOsc s) = false
is_text (InHook h) = false
is_text InDevice = false
is_text InSwallowed = false

-- after the byte b a run of ground text goes on
abbrev pub runs_on : Pending → ℕ → List ℕ → Bool
runs_on q b [] = false
runs_on q b (c ∷ rest) = (is_text q && not (is_esc b)) && not (is_esc c)

-- k bytes are read, up to the first point at which the performer is asked and says that it is terminated
abbrev pub StopsAt : {S : Type 0} → (S → Event → S → Type 0) → (S → Bool) → ℕ → Pending → Bool → List ℕ → S → ℕ → S
    → Type 0
StopsAt step terminated n q asked [] old k new = (k ≡ 0) × (new ≡ old)
StopsAt {S} step terminated n q asked (b ∷ bs) old k new =
    MatchBool (asked && terminated old) ((k ≡ 0) × (new ≡ old))
    ((mid : S) × (j : ℕ) × (k ≡ suc j) × Performs step old (events_of_byte n q b) mid
    × StopsAt step terminated n (after_byte q b) (not (runs_on q b bs)) bs mid j new)

-- whether the performer is asked after the first m of the bytes, where it was asked before them or not
abbrev pub asks_at : Pending → Bool → List ℕ → ℕ → Bool
asks_at q asked bs zero = asked
asks_at q asked [] (suc m) = true
asks_at q asked (b ∷ bs) (suc m) = asks_at (after_byte q b) (not (runs_on q b bs)) bs m

-- of the k bytes read the performer has gone through the first m, was not terminated then, and has gone through the
-- others
pub record PassedBy {S : Type 0} (step : S → Event → S → Type 0) (terminated : S
    → Bool) (n : ℕ) (q : Pending) (bs : List ℕ) (m : ℕ) (old : S) (k : ℕ) (new : S) : Type 0 where
  pub mid : S
  pub before : Performs step old (events_from n q (take m bs)) mid
  pub goes_on : terminated mid ≡ false
  pub after : Performs step mid (events_from n (after_bytes q (take m bs)) (drop m (take k bs))) new

-- a run of ground text goes up to the next ESC, or to the piece's end
abbrev pub ends_run : List ℕ → Bool
ends_run [] = true
ends_run (b ∷ bs) = is_esc b

-- Whether the performer is asked after the first m bytes of a piece: at its beginning, after each byte of a sequence,
-- and at the end of each run of ground text.
abbrev pub asks_after : List ℕ → List ℕ → ℕ → Bool
asks_after past piece m = m == 0 || (not (ends_in_text (past ++ take m piece)) || ends_run (drop m piece))

-- of the k bytes read the performer has gone through the first m, was not terminated then, and has gone through the
-- others
pub record Passed {S : Type 0} (step : S → Event → S → Type 0) (terminated : S
    → Bool) (n : ℕ) (past piece : List ℕ) (m : ℕ) (old : S) (k : ℕ) (new : S) : Type 0 where
  pub mid : S
  pub before : Performs step old (added n past (take m piece)) mid
  pub goes_on : terminated mid ≡ false
  pub after : Performs step mid (added n (past ++ take m piece) (drop m (take k piece))) new

-- k bytes of the piece are read: up to the first point at which the performer is asked and says that it is terminated,
-- or all
pub record Stops {S : Type 0} (step : S → Event → S → Type 0) (terminated : S
    → Bool) (n : ℕ) (past piece : List ℕ) (old : S) (k : ℕ) (new : S) : Type 0 where
  pub within : k ≤ length piece
  pub performed : Performs step old (added n past (take k piece)) new
  pub asked : k < length piece → (asks_after past piece k ≡ true) × (terminated new ≡ true)
  pub passed : (m : ℕ) → m < k → asks_after past piece m ≡ true → Passed step terminated n past piece m old k new
