-- Ground text without ESC.
use Rattle.std.specs.Prelude.{◌≡◌, ◌<◌, ◌≤◌, ℕ, suc, take, Bool, true, false, not, ◌&&◌, ◌||◌, List, [], ◌∷◌, ◌++◌, ◌⊎◌}
use Rattle.std.specs.Prelude.{length, drop, map, nat_lt, ◌==◌, if◌then◌else◌}
use Rattle.std.specs.Int.{is_in_range}
use Rattle.vte_core.specs.Event.{Event, Performs}
use Rattle.vte_core.specs.Bytes.{each, is_esc}
use Rattle.vte_core.specs.Pending.{Pending, text_reported, text_rest, after_byte, after_bytes, events_from}
use Rattle.vte_core.specs.Shapes.{before}
use Rattle.vte_core.specs.Standing.{IsAt}
use Rattle.vte_core.specs.declared.parser.Parser.{Parser}
use Rattle.vte_core.specs.Stopping.{runs_on}

-- the events of the bytes, after the unfinished bytes u of a character
abbrev pub run_reported : List ℕ → List ℕ → List Event
run_reported u [] = []
run_reported u (b ∷ bs) = text_reported u b ++ run_reported (text_rest u b) bs

-- and what they leave unfinished
abbrev pub run_rest : List ℕ → List ℕ → List ℕ
run_rest u [] = u
run_rest u (b ∷ bs) = run_rest (text_rest u b) bs

abbrev pub has_no_esc : List ℕ → Bool
has_no_esc [] = true
has_no_esc (b ∷ bs) = not (is_esc b) && has_no_esc bs

-- The first k bytes, some at least, are read as ground text after the unfinished bytes u, and leave v. Their
-- events, and then those of the text up to the next ESC that is left after v, are the events of the whole text.
pub record ReadsText {S : Type 0} (step : S → Event → S
    → Type 0) (u : List ℕ) (old : S) (bs : List ℕ) (k : ℕ) (new : S) (v : List ℕ) : Type 0 where
  pub some : 0 < k
  pub within : k ≤ length bs
  pub no_esc : has_no_esc (take k bs) ≡ true
  pub reported : List Event
  pub performed : Performs step old reported new
  pub added : run_reported u (before is_esc bs) ≡ reported ++ run_reported v (drop k (before is_esc bs))
  pub rest : run_rest u (before is_esc bs) ≡ run_rest v (drop k (before is_esc bs))

-- the performer is asked after the bytes, and not between them
abbrev pub is_one_step : Pending → List ℕ → List ℕ → Bool
is_one_step q [] rest = false
is_one_step q (b ∷ []) rest = not (runs_on q b rest)
is_one_step q (b ∷ c ∷ bs) rest = runs_on q b (c ∷ bs) && is_one_step (after_byte q b) (c ∷ bs) rest

-- the bytes at the start have no events, and the others, if there are any, are one step
pub record IsStep (n : ℕ) (q : Pending) (bs rest : List ℕ) : Type 0 where
  pub quiet : List ℕ
  pub last : List ℕ
  pub parts : bs ≡ quiet ++ last
  pub nothing : events_from n q quiet ≡ []
  pub one : (last ≡ []) ⊎ (is_one_step (after_bytes q quiet) last rest ≡ true)

-- the performer has gone through some events, and they are those of the bytes, whatever is pending
pub record PerformsEvents {S : Type 0} (step : S → Event → S
    → Type 0) (n : ℕ) (parser : Parser n) (old : S) (bytes : List ℕ) (new : S) : Type 0 where
  pub reported : List Event
  pub performed : Performs step old reported new
  pub added : (q : Pending) → IsAt n parser q → reported ≡ events_from n q bytes

-- the first k bytes pass the test p, and the performer has gone through the event f of each of them
pub record TellsEach {S : Type 0} (step : S → Event → S
    → Type 0) (p : ℕ → Bool) (f : ℕ → Event) (old : S) (bs : List ℕ) (k : ℕ) (new : S) : Type 0 where
  pub within : k ≤ length bs
  pub all : each p (take k bs) ≡ true
  pub reported : Performs step old (map f (take k bs)) new

-- the bytes after 0xC2 are the second byte of a control from U+0080 to U+009F
abbrev pub begins_c1 : List ℕ → Bool
begins_c1 [] = false
begins_c1 (b ∷ bs) = is_in_range 0x80 0x9F b

-- no control that is executed begins at b
abbrev pub is_printed : ℕ → List ℕ → Bool
is_printed b bs = not (nat_lt b 0x20 || (b == 0xC2 && begins_c1 bs))

-- how many bytes come before the next control that is executed
abbrev pub printed_len : List ℕ → ℕ
printed_len [] = 0
printed_len (b ∷ bs) = if is_printed b bs then suc (printed_len bs) else 0
