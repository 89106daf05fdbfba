-- The lines from which the script of a page reads its moments.
use Rattle.std.specs.Prelude.{◌≡◌, ◌<◌, ℕ, List, [], ◌∷◌, ◌++◌, decimal, get_or, length, map, set}
use Rattle.std.specs.List.{All, flat_map}
use Rattle.picture_page.specs.Tags.{tag_bytes}
use Rattle.picture_page.specs.declared.tag.Tag.TheVariants as tag
use Rattle.recorded_screen.specs.Reel.{decimal_point}
use Rattle.row_pictures.specs.declared.look.Look.{Look}
use Rattle.recordings.specs.declared.recording.Event.{Event}
use Rattle.recordings.specs.declared.recording.ScreenSize.{ScreenSize}
use Rattle.player_page.specs.Moments.{AreMoments, Moment}

-- numbers, a space before each
abbrev pub spaced : List ℕ → List ℕ
spaced numbers = flat_map (λ n. tag_bytes tag.Space ++ decimal n) numbers

-- a list after some of it was replaced: each change has a place and a number
abbrev pub changed : List ℕ → List (ℕ × ℕ) → List ℕ
changed numbers [] = numbers
changed numbers (c ∷ cs) = changed (set numbers c.0 c.1) cs

-- These bytes give numbers: all of them, or those that differ from the ones before, each after its place.
pub data Say (before : List ℕ) : List ℕ → List ℕ → Type 0 where
  all : (numbers : List ℕ) → Say before numbers (tag_bytes tag.Whole ++ spaced numbers)
  changes : (cs : List (ℕ × ℕ))
      → Say before (changed before cs) (tag_bytes tag.Changed ++ flat_map (λ c. spaced (c.0 ∷ c.1 ∷ [])) cs)

-- a line: a time in seconds, and the numbers of the rows that are shown from then on
pub record IsLine (time : ℕ) (before numbers bytes : List ℕ) : Type 0 where
  pub said : List ℕ
  pub is : bytes ≡ decimal_point 6 time ++ (said ++ tag_bytes tag.Newline)
  pub say : Say before numbers said

-- what a line says
pub record Told : Type 0 where
  pub time : ℕ
  pub numbers : List ℕ

-- what these lines say, one after another, and the numbers of the last one
pub data AreLines : List ℕ → List Told → List ℕ → Type 0 where
  none : AreLines [] [] []
  line : {lines : List ℕ} {told : List Told} {before : List ℕ} (time : ℕ) (numbers bytes : List ℕ)
      → AreLines lines told before → IsLine time before numbers bytes
      → AreLines (lines ++ bytes) (told ++ record { time = time; numbers = numbers } ∷ []) numbers

-- the rows of a table that have these numbers
abbrev pub rows_at : List (List ℕ) → List ℕ → List (List ℕ)
rows_at table numbers = map (λ n. get_or table n []) numbers

abbrev pub moment_at : List (List ℕ) → Told → Moment
moment_at table told = record { time = told.time; rows = rows_at table told.numbers }

-- With this table of rows the lines play the moments of the screens after 0 events, 1, 2 and so on, fewer than n.
pub record Plays (look : Look) (size : ScreenSize) (events : List Event) (n : ℕ) (table : List (List ℕ))
    (lines : List ℕ) : Type 0 where
  pub told : List Told
  pub last : List ℕ
  pub tell : AreLines lines told last
  pub known : All (λ t. All (λ number. number < length table) t.numbers) told
  pub moments : AreMoments look size events n (map (moment_at table) told) (rows_at table last)
