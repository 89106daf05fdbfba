-- The bytes of a film: the rows that are drawn, and for each row of the screen a track that uses them.
use Rattle.std.specs.Prelude.{ℕ, zero, suc, ◌+◌, ◌*◌, ◌/◌, ◌%◌, ◌^◌, min, max, List, [], ◌∷◌, ◌++◌, decimal}
use Rattle.std.specs.Prelude.{◌-◌, Option, Some, None, get_or, if◌then◌else◌, length, nat_lt, nat_le, slice_get}
use Rattle.std.specs.List.{flat_map, prefix_len}
use Rattle.std.specs.Option.{option_map_or}
use Rattle.picture_page.specs.Bytes.{numbers_bytes}
use Rattle.picture_page.specs.Page.{digit_byte}
use Rattle.picture_page.specs.Tags.{tag_bytes}
use Rattle.picture_page.specs.declared.tag.Tag.TheVariants as tag
use Rattle.row_pictures.specs.declared.look.Look.{Look}
use Rattle.recorded_screen.specs.Heads.{svg_head}
use Rattle.recorded_screen.specs.declared.reel.Shot.{Shot}
use Rattle.recorded_screen.specs.declared.reel.Showing.{Showing}

-- a number, as far as 32 or 64 bits go
abbrev pub in_32_bits : ℕ → ℕ
in_32_bits n = min n (2 ^ 32 - 1)

abbrev pub in_64_bits : ℕ → ℕ
in_64_bits n = min n (2 ^ 64 - 1)

-- the bytes of each of these, one after another; the first has this number, and the others count on
abbrev pub numbered : {A : Type 0} → (ℕ → A → List ℕ) → ℕ → List A → List ℕ
numbered bytes n [] = []
numbered bytes n (x ∷ xs) = bytes n x ++ numbered bytes (suc n) xs

-- ---- what is drawn

-- a row that is drawn, by its number
abbrev pub drawn_row : ℕ → List ℕ → List ℕ
drawn_row number runs =
    numbers_bytes ((tag.RowName, in_32_bits number) ∷ [])
    ++ (tag_bytes tag.RowNameEnd ++ (runs ++ (tag_bytes tag.RowEnd ++ 10 ∷ [])))

-- ---- tracks

-- A track: the drawn rows that it has, by their numbers, from the left; and which of these places is shown when.
pub record Track : Type 0 where
  pub rows : List ℕ
  pub shots : List Shot

abbrev pub no_track : Track
no_track = record { rows = []; shots = [] }

-- the track of a row of the screen
abbrev pub track_at : List Track → ℕ → Track
track_at tracks r = get_or tracks r no_track

-- where a place of a track is: the places are side by side, each 9 pixels a column wide
abbrev pub place : ℕ → ℕ → ℕ
place cols n = in_32_bits (n * (cols * 9))

-- a drawn row at a place of a track, which is y pixels from the top
abbrev pub used_row : ℕ → ℕ → ℕ → ℕ → List ℕ
used_row cols y n number =
    numbers_bytes ((tag.Use, in_32_bits number) ∷ (tag.X, place cols n) ∷ (tag.Y, y) ∷ []) ++ tag_bytes tag.Close

-- the last shot, and where its row is
abbrev pub last_shot : List Shot → Option Shot
last_shot shots = slice_get shots (length shots - 1)

abbrev pub last_place : ℕ → List Shot → ℕ
last_place cols shots = option_map_or (λ shot. place cols shot.place) (last_shot shots) 0

-- how many shots there are before the first one that comes later than a time
abbrev pub shots_until : ℕ → List Shot → ℕ
shots_until time shots = prefix_len (λ shot. nat_le shot.time time) shots

-- where the row is that is shown at a time
abbrev pub place_at : ℕ → ℕ → List Shot → ℕ
place_at cols time shots =
    option_map_or (λ shot. place cols shot.place) (slice_get shots (shots_until time shots - 1)) 0

-- where the row is that is shown where nothing plays: that of the poster's time, or else that of the end
abbrev pub still_place : ℕ → Option ℕ → List Shot → ℕ
still_place cols None shots = last_place cols shots
still_place cols (Some time) shots = place_at cols time shots

-- the track of a row of the screen, 18 pixels a row from the top
abbrev pub track_bytes : ℕ → Option ℕ → ℕ → Track → List ℕ
track_bytes cols poster row track =
    numbers_bytes ((tag.Track, in_32_bits row) ∷ (tag.TrackPlace, still_place cols poster track.shots) ∷ [])
    ++ (tag_bytes tag.TrackRows
    ++ (numbered (used_row cols (in_32_bits (row * 18))) 0 track.rows ++ tag_bytes tag.TrackEnd))

-- ---- when what is shown

-- the last digits of a number, this many
unfoldable pub last_digits : ℕ → ℕ → List ℕ
last_digits zero value = []
last_digits (suc places) value = digit_byte (value / 10 ^ places % 10) ∷ last_digits places value

-- a value in units of 10^-places, as a decimal with this many digits after the point
abbrev pub decimal_point : ℕ → ℕ → List ℕ
decimal_point places value =
    decimal (in_32_bits (value / 10 ^ places)) ++ (tag_bytes tag.Point ++ last_digits places value)

-- A shot: from its time on, which is a part of the film's length in percent, the track is moved to the left by its
-- place.
abbrev pub shot_bytes : ℕ → ℕ → Shot → List ℕ
shot_bytes cols length shot =
    decimal_point 5 (in_64_bits (shot.time * 10000000 / max length 1))
    ++ (numbers_bytes ((tag.Percent, place cols shot.place) ∷ []) ++ tag_bytes tag.PercentEnd)

-- at the end the last shot is shown
abbrev pub last_bytes : ℕ → List Shot → List ℕ
last_bytes cols shots =
    tag_bytes tag.AtEnd
    ++ (numbers_bytes ((tag.Percent, last_place cols shots) ∷ []) ++ tag_bytes tag.PercentEnd)

-- what a film shows at its end, unless it plays over and over
abbrev pub end_bytes : Option ℕ → ℕ → List Shot → List ℕ
end_bytes plays cols shots = option_map_or (λ n. last_bytes cols shots) plays []

-- the shots of a row of the screen, in a film that is shown in this way
abbrev pub keyframes : ℕ → Showing → ℕ → List Shot → List ℕ
keyframes cols s row shots =
    numbers_bytes ((tag.Keyframes, in_32_bits row) ∷ [])
    ++ (tag_bytes tag.KeyframesStart
    ++ (flat_map (shot_bytes cols s.length) shots
    ++ (end_bytes s.plays cols shots
    ++ (numbers_bytes ((tag.KeyframesEnd, in_32_bits row) ∷ (tag.Animation, in_32_bits row) ∷ [])
    ++ tag_bytes tag.AnimationEnd))))

-- only a track that changes is moved
abbrev pub track_times : ℕ → Showing → ℕ → Track → List ℕ
track_times cols s row track =
    if nat_lt 1 (length track.shots) then keyframes cols s row track.shots else []

-- how often a film plays: over and over, or this many times, and then it stays as it is at its end
abbrev pub plays_bytes : Option ℕ → List ℕ
plays_bytes None = tag_bytes tag.Endless
plays_bytes (Some n) = decimal (max n 1) ++ tag_bytes tag.Forwards

-- the length of the film in seconds, how often it plays, and the shots of its tracks
abbrev pub times_bytes : ℕ → Showing → List Track → List ℕ
times_bytes cols s tracks =
    tag_bytes tag.FilmLength
    ++ (decimal_point 6 s.length
    ++ (tag_bytes tag.FilmLengthEnd
    ++ (plays_bytes s.plays
    ++ (numbered (track_times cols s) 0 tracks ++ tag_bytes tag.Still))))

-- how often another row is shown in a track than before
abbrev pub changes_in : List Track → ℕ
changes_in [] = 0
changes_in (track ∷ tracks) = (length track.shots - 1) + changes_in tracks

-- ---- the film

-- the rows that are drawn, and the tracks
abbrev pub drawn_bytes : List ℕ → List ℕ → List ℕ
drawn_bytes rows tracks = tag_bytes tag.DefsStart ++ (rows ++ (tag_bytes tag.DefsEnd ++ tracks))

-- how a film is shown whose last screen comes at this time: that screen is shown for a second
abbrev pub showing : Option ℕ → Option ℕ → ℕ → Showing
showing plays poster time = record { length = in_64_bits (time + 1000000); plays = plays; poster = poster }

-- A film of this many rows and columns, which is shown in this way: the times of its shots, the rows that are drawn,
-- and the tracks from the top.
abbrev pub film_bytes : Look → ℕ → ℕ → Showing → List (List ℕ) → List Track → List ℕ
film_bytes look height cols s rows tracks =
    svg_head look height cols
    ++ (times_bytes cols s tracks
    ++ (drawn_bytes (numbered drawn_row 0 rows) (numbered (track_bytes cols s.poster) 0 tracks)
    ++ tag_bytes tag.SvgFoot))
