-- The rows and the moments of a recording, while they are collected.
use Rattle.std.specs.Prelude.{◌≡◌, ◌≢◌, ◌⊎◌, ◌<◌, ◌≤◌, ℕ, Bool, true, false, List, [], ◌∷◌, ◌++◌, Some, get_or, length, map, slice_get}
use Rattle.std.specs.List.{All}
use Rattle.picture_page.specs.Page.{Adds}
use Rattle.row_pictures.specs.declared.look.Look.{Look}
use Rattle.screen_model.specs.State.{State}
use Rattle.recordings.specs.declared.recording.Event.{Event}
use Rattle.recordings.specs.declared.recording.ScreenSize.{ScreenSize}
use Rattle.recorded_screen.specs.Film.{is_moment, reached, state_after}
use Rattle.player_page.specs.Lines.{IsLine, Plays, Say, rows_at}
use Rattle.player_page.specs.Moments.{IsPainted}
use Rattle.player_page.specs.Pages.{HasLongPart, IsTable, rows_bytes}
use Rattle.player_page.specs.Rows.{AddsRows}
use Rattle.player_page.specs.declared.error.PlayerError.{PlayerError}
use Rattle.player_page.specs.declared.error.PlayerError.TheVariants.{Memory, TooLong}
use Rattle.player_page.specs.declared.strip.Strip.{Strip}

-- memory was refused, or something is too long, for this reason
abbrev pub FailsFor : Type 0 → PlayerError → Type 0
FailsFor IsLong e = (e ≡ Memory) ⊎ ((e ≡ TooLong) × IsLong)

-- ---- rows

-- the rows that are drawn, by their numbers
abbrev pub table_of : Strip → List (List ℕ)
table_of s = map (λ v. v.items) s.known.keys

abbrev pub added : {A : Type 0} → Bool → A → List A
added true item = item ∷ []
added false item = []

-- an item is added, unless it was there already; this is its number
pub record Takes {A : Type 0} (item : A) (old new : List A) (number : ℕ) (is_new : Bool) : Type 0 where
  pub is : new ≡ old ++ added is_new item
  pub at : slice_get new number ≡ Some item
  pub absent : is_new ≡ true → (i : ℕ) → slice_get old i ≢ Some item

-- the painted row has this number, and was drawn if it is new
pub record Draws (row : List ℕ) (old new : Strip) (number : ℕ) : Type 0 where
  pub is_new : Bool
  pub takes : Takes row (table_of old) (table_of new) number is_new
  pub rows : new.rows ≡ old.rows ++ rows_bytes (added is_new row)
  pub text : is_new ≡ true → (text : List ℕ) → Adds [] row text → Adds old.rows new.rows (text ++ 10 ∷ [])
  pub moments : new.moments ≡ old.moments
  pub last : new.last ≡ old.last

-- what is drawn is rows of the recording's screens
pub record IsDrawn (look : Look) (size : ScreenSize) (events : List Event) (s : Strip) : Type 0 where
  pub table : IsTable look size events (table_of s)
  pub rows : s.rows ≡ rows_bytes (table_of s)
  pub text : AddsRows size.rows.value size.cols.value events [] s.rows

-- a change that draws rows of the screen in this state leaves rows of the recording's screens
abbrev pub KeepsDrawn : Look → State → Strip → Strip → Type 0
KeepsDrawn look s old new = (size : ScreenSize) (events : List Event) (n : ℕ) → s ≡ state_after size events n
    → IsDrawn look size events old → IsDrawn look size events new

-- if these are rows of the recording's screens, a part of its page has more bytes than this
abbrev pub HasLongRows : ℕ → Look → State → Strip → Type 0
HasLongRows most look s drawn = (size : ScreenSize) (events : List Event) (n : ℕ) → s ≡ state_after size events n
    → IsDrawn look size events drawn → HasLongPart most look size events

-- these are the numbers of the first rows of the screen in this state; of the strip, only the table got longer
pub record AreNumbers (look : Look) (s : State) (old new : Strip) (numbers : List ℕ) : Type 0 where
  pub more : List (List ℕ)
  pub longer : table_of new ≡ table_of old ++ more
  pub known : All (λ number. number < length (table_of new)) numbers
  pub painted : (r : ℕ) → r < length numbers → IsPainted look s r (get_or (rows_at (table_of new) numbers) r [])
  pub moments : new.moments ≡ old.moments
  pub last : new.last ≡ old.last

-- ---- moments

-- bytes are appended that give numbers, and no text of the screen
pub record AddsNumbers (before numbers old new : List ℕ) : Type 0 where
  pub said : List ℕ
  pub joined : new ≡ old ++ said
  pub say : Say before numbers said
  pub adds : Adds old new []

-- a line is appended, and nothing else changes but what is shown last
pub record TellsLine (time : ℕ) (numbers : List ℕ) (old new : Strip) : Type 0 where
  pub bytes : List ℕ
  pub joined : new.moments ≡ old.moments ++ bytes
  pub is : IsLine time old.last.items numbers bytes
  pub adds : Adds old.moments new.moments []
  pub last : new.last.items ≡ numbers
  pub rows : new.rows ≡ old.rows
  pub known : new.known ≡ old.known

-- the strip of the screens after 0 events, 1, 2 and so on, fewer than n
pub record IsStrip (look : Look) (size : ScreenSize) (events : List Event) (n : ℕ) (s : Strip) : Type 0 where
  pub drawn : IsDrawn look size events s
  pub plays : Plays look size events n (table_of s) s.moments
  pub last : plays.last ≡ s.last.items
  pub known : All (λ number. number < length (table_of s)) s.last.items
  pub adds : Adds [] s.moments []

-- the screen in this state is that after n events, and is shown from this time on
pub record IsDue (size : ScreenSize) (events : List Event) (n time : ℕ) (s : State) : Type 0 where
  pub within : n ≤ length events
  pub moment : is_moment events n ≡ true
  pub at : time ≡ reached events n
  pub state : s ≡ state_after size events n
