-- The shots of a film, moment by moment.
use Rattle.std.proofs.Common.{◌≡◌, ◌≢◌, ◌<◌, ◌≤◌, ◌+◌, ◌*◌, ◌++◌, ℕ, zero, suc, Bool, true, false, List, [], ◌∷◌, Some}
use Rattle.std.proofs.Common.{Vec, Global, sym, ap, ◌∙◌, subst, length, take, map, max, add-one, refl, set, length-set}
use Rattle.std.proofs.Common.{append-nil, append_assoc, Ok, Err, Result, IfOk, IfErr, ◌-◌, ap₂, length-append, arith, drop}
use Rattle.std.proofs.Common.{Option, ◌/◌, decimal, nat_lt, below_more, get_or, nat_le, replicate, slice_get, ◌⊎◌, inl, inr}
use Rattle.std.specs.Prelude.{if◌then◌else◌}
use Rattle.std.specs.List.{flat_map}
use Rattle.std.proofs.lemmas.Bool.{le-leb, ltb-false}
use Rattle.std.proofs.lemmas.List.{get_or-replicate, get_or-set_other, get_or-set_same, get_or_default, length-map}
use Rattle.std.proofs.lemmas.List.{map-append, map-set, take_more}
use Rattle.std.proofs.lemmas.List.Sums.{prefix_len-drop_yes}
use Rattle.row_pictures.specs.declared.look.Look.{Look}
use Rattle.screen_model.specs.Call.{ScreenView}
use Rattle.screen_model.specs.Made.{Act, made}
use Rattle.screen_model.specs.State.{State}
use Rattle.vt100.specs.Parsing.{ParserIsAfter, ParserView}
use Rattle.picture_page.specs.Bytes.{numbers_bytes}
use Rattle.picture_page.specs.Tags.{tag_bytes}
use Rattle.picture_page.specs.declared.tag.Tag.TheVariants as tag
use Rattle.recordings.specs.declared.recording.Event.{Event}
use Rattle.recordings.specs.declared.recording.ScreenSize.{ScreenSize}
use Rattle.recorded_screen.specs.Film.{AreShots, IsFilm, IsFilmOf, IsTooLong, TakesShot, TakesShotIf}
use Rattle.recorded_screen.specs.Film.{count_until, film_time}
use Rattle.recorded_screen.specs.Film.{may_stand, most, most_cols, most_rows, paced, played_to, poster_time, slot_start}
use Rattle.recorded_screen.specs.Film.{state_after}
use Rattle.recorded_screen.specs.Film.AreShots.{none, passed, shot}
use Rattle.recorded_screen.specs.Moment.{act_of}
use Rattle.recorded_screen.specs.Placed.{IsSvgRow}
use Rattle.recorded_screen.specs.Heads.{svg_head}
use Rattle.recorded_screen.specs.Reel.{Track, changes_in, decimal_point, drawn_bytes, drawn_row, film_bytes, in_64_bits}
use Rattle.recorded_screen.specs.Reel.{in_32_bits, keyframes, place, no_track, numbered, shot_bytes, times_bytes, track_at, track_bytes}
use Rattle.recorded_screen.specs.Reel.{end_bytes, plays_bytes, showing, track_times}
use Rattle.recorded_screen.specs.Shots.{AddsOnly, Grows, IsAt, IsDrawn, IsLonger, IsReel, IsShot, IsShown, IsTrack}
use Rattle.recorded_screen.specs.Shots.{IsUsed, Shows, ShowsRow, ShowsRowOf, ShowsSuch, TakesPlace, rows_of, track_of}
use Rattle.recorded_screen.specs.Shots.{tracks_of}
use Rattle.recorded_screen.specs.declared.error.FilmError.{FilmError}
use Rattle.recorded_screen.specs.declared.error.FilmError.TheVariants.{Memory, TooLong}
use Rattle.recorded_screen.proofs.ReelLemmas.{got_last, mapped_at, other_fault}
use Rattle.recorded_screen.specs.declared.films.Pace.{Pace}
use Rattle.recorded_screen.specs.declared.reel.Reel.{Reel}
use Rattle.recorded_screen.specs.declared.reel.Shot.{Shot}
use Rattle.recorded_screen.specs.declared.reel.Showing.{Showing}
use Rattle.recorded_screen.specs.declared.reel.Track.{Track as GrowingTrack}

-- ---- what is there stays there

got_before : {A : Type 0} (xs more : List A) (n : ℕ) (x : A) → slice_get xs n ≡ Some x
    → slice_get (xs ++ more) n ≡ Some x
got_before [] more n x h = absurd (cc)
got_before (y ∷ ys) more zero x h = h
got_before (y ∷ ys) more (suc n) x h = got_before ys more n x h

got_still : {A : Type 0} (xs ys : List A) (n : ℕ) (x : A) → IsLonger xs ys → slice_get xs n ≡ Some x
    → slice_get ys n ≡ Some x
got_still {A} xs ys n x longer at = ap (λ (zs : List A). slice_get zs n) longer.is ∙ got_before xs longer.more n x at

is_at_still : {A : Type 0} (xs ys : List A) (n : ℕ) (Holds : A → Type 0) → IsLonger xs ys → IsAt xs n Holds
    → IsAt ys n Holds
is_at_still xs ys n Holds longer at = record {
  item = at.item;
  at = got_still xs ys n at.item longer at.at;
  holds = at.holds;
}

is_at_such : {A : Type 0} (xs : List A) (n : ℕ) (Such So : A → Type 0) → ((x : A) → Such x → So x) → IsAt xs n Such
    → IsAt xs n So
is_at_such xs n Such So f at = record { item = at.item; at = at.at; holds = f at.item at.holds }

longer_not : {A : Type 0} (xs : List A) → IsLonger xs xs
longer_not xs = record { more = []; is = sym (append-nil xs) }

longer_both : {A : Type 0} (xs ys zs : List A) → IsLonger xs ys → IsLonger ys zs → IsLonger xs zs
longer_both {A} xs ys zs first second = record {
  more = first.more ++ second.more;
  is = second.is ∙ ap (λ (l : List A). l ++ second.more) first.is ∙ append_assoc xs first.more second.more;
}

shot_still : (xs ys : List Shot) (n : ℕ) → IsLonger xs ys → IsShot xs n → IsShot ys n
shot_still xs ys n longer is = record {
  count = is.count;
  shot = is.shot;
  at = got_still xs ys is.count is.shot longer is.at;
  is = is.is;
}

used_still : (xs ys : List Track) (i : ℕ) → ((r : ℕ) → IsLonger (track_at xs r).rows (track_at ys r).rows) → IsUsed xs i
    → IsUsed ys i
used_still xs ys i longer used = record {
  row = used.row;
  place = used.place;
  is = got_still _ _ used.place i (longer used.row) used.is;
}

-- ---- a place is shown in a track

shots_longer : (old new : List Shot) (time place : ℕ) → IsShown old new time place → IsLonger old new
shots_longer old new time place (inl is) = record { more = record { time = time; place = place } ∷ []; is = is }
shots_longer old new time place (inr is) = record { more = []; is = is.0 ∙ sym (append-nil old) }

is_shot : (old new : List Shot) (time place : ℕ) → IsShown old new time place → IsShot new place
is_shot old new time place (inl is) = record {
  count = length old;
  shot = record { time = time; place = place };
  at = ap (λ (xs : List Shot). slice_get xs (length old)) is ∙ got_last old (record { time = time; place = place });
  is = refl;
}
is_shot old new time place (inr is) = record {
  count = length old - 1;
  shot = is.1;
  at = ap (λ (xs : List Shot). slice_get xs (length old - 1)) is.0 ∙ is.2;
  is = is.3;
}

pub track_is : (old new : Track) (number time place : ℕ) → IsTrack old → TakesPlace number old.rows new.rows place
    → IsShown old.shots new.shots time place → IsTrack new
track_is old new number time place is takes shown = record {
  different = takes.different is.different;
  shown = λ n lt. by n (takes.own n lt);
}
  where
    by : (n : ℕ) → (n < length old.rows) ⊎ (n ≡ place) → IsShot new.shots n
    by n (inl lt) =
        shot_still old.shots new.shots n (shots_longer old.shots new.shots time place shown) (is.shown n lt)
    by n (inr same) = subst (IsShot new.shots) (sym same) (is_shot old.shots new.shots time place shown)

pub track_shows : (old new : Track) (number time place : ℕ) → TakesPlace number old.rows new.rows place
    → IsShown old.shots new.shots time place → Shows number time old new
track_shows old new number time place takes shown = record {
  place = place;
  stands = record { item = number; at = takes.at; holds = refl };
  rows = takes.longer;
  shown = shown;
}

shows_such : (Such So : ℕ → Type 0) (time : ℕ) (old new : Track) → ((n : ℕ) → Such n → So n)
    → ShowsSuch Such time old new → ShowsSuch So time old new
shows_such Such So time old new f shows = record {
  place = shows.place;
  stands = is_at_such new.rows shows.place Such So f shows.stands;
  rows = shows.rows;
  shown = shows.shown;
}

-- ---- one row of the screen

same_or_not : (j r : ℕ) → (j ≡ r) ⊎ (j ≢ r)
same_or_not zero zero = inl refl
same_or_not zero (suc r) = inr (λ e. absurd (omega arith))
same_or_not (suc j) zero = inr (λ e. absurd (omega arith))
same_or_not (suc j) (suc r) = by (same_or_not j r)
  where
    by : (j ≡ r) ⊎ (j ≢ r) → (suc j ≡ suc r) ⊎ (suc j ≢ suc r)
    by (inl is) = inl (ap suc is)
    by (inr other) = inr (λ e. other (omega arith))

-- where one track is replaced
each_track : (xs : List Track) (r : ℕ) (x : Track) (P : ℕ → Track → Type 0) → r < length xs
    → ((j : ℕ) → P j (track_at xs j)) → P r x → (j : ℕ) → P j (track_at (set xs r x) j)
each_track xs r x P lt all one j = by (same_or_not j r)
  where
    by : (j ≡ r) ⊎ (j ≢ r) → P j (track_at (set xs r x) j)
    by (inl is) = subst (λ (k : ℕ). P k (track_at (set xs r x) k)) (sym is)
        (subst (P r) (sym (get_or-set_same xs r x no_track lt)) one)
    by (inr other) = subst (P j) (sym (get_or-set_other xs r j x no_track other)) (all j)

-- a row may have been drawn, and then one of the tracks shows it
pub record Replaces (old a new : Reel) (row number start : ℕ) (track : GrowingTrack) : Type 0 where
  pub grows : Grows number old a
  pub drawn : IsDrawn new
  pub rows : rows_of new ≡ rows_of a
  pub tracks : tracks_of new ≡ set (tracks_of old) row (track_of track)
  pub count : length new.tracks.items ≡ length old.tracks.items
  pub within : row < length (tracks_of old)
  pub shows : Shows number start (track_at (tracks_of old) row) (track_of track)
  pub is_track : IsTrack (track_of track)
  pub size : new.size ≡ a.size
  pub time : new.time ≡ a.time

track_got : (xs : List GrowingTrack) (r : ℕ) (x : GrowingTrack) → r < length xs → x ≡ get_or xs r x
    → track_of x ≡ track_at (map track_of xs) r
track_got xs r x lt is =
    ap (λ (t : GrowingTrack). track_of t) is ∙ sym (mapped_at xs r x)
    ∙ get_or_default (map track_of xs) r (track_of x) no_track (let len = length-map xs track_of in omega arith)

pub replaced : (old a : Reel) (v : Vec GrowingTrack Global) (row index number time : ℕ) (before track : GrowingTrack)
    → IsReel old → Grows number old a → IsDrawn a → row < old.size.rows.value → index ≡ row
    → before ≡ get_or a.tracks.items index before → v.items ≡ set a.tracks.items index track
    → Shows number time (track_of before) (track_of track) → IsTrack (track_of track)
    → Replaces old a (record a { tracks = v }) row number time track
replaced old a v row index number time before track is grows drawn lt same before_is items shows is_track =
    let tracks = ap (λ (w : Vec GrowingTrack Global). w.items) grows.tracks in
    let within : row < length old.tracks.items = (let count = is.count in omega arith) in
    record {
      grows = grows;
      drawn = record { rows = drawn.rows; different = drawn.different };
      rows = refl;
      tracks = ap (map track_of) items ∙ map-set track_of a.tracks.items index track
          ∙ ap₂ (λ (xs : List GrowingTrack) (k : ℕ). set (map track_of xs) k (track_of track)) tracks same;
      count = ap (λ (xs : List GrowingTrack). length xs) items ∙ length-set a.tracks.items index track
          ∙ ap (λ (xs : List GrowingTrack). length xs) tracks;
      within = let len = length-map old.tracks.items track_of in omega arith;
      shows = subst (λ (t : Track). Shows number time t (track_of track))
          (track_got old.tracks.items row before within
          (before_is ∙ ap₂ (λ (xs : List GrowingTrack) (k : ℕ). get_or xs k before) tracks same)) shows;
      is_track = is_track;
      size = refl;
      time = refl;
    }

-- the track of a row before it shows another
pub track_is_there : (old a : Reel) (row index number : ℕ) (before : GrowingTrack) → IsReel old → Grows number old a
    → row < old.size.rows.value → index ≡ row → before ≡ get_or a.tracks.items index before → IsTrack (track_of before)
track_is_there old a row index number before is grows lt same before_is =
    let tracks = ap (λ (w : Vec GrowingTrack Global). w.items) grows.tracks in
    let within : row < length old.tracks.items = (let count = is.count in omega arith) in
    subst IsTrack
    (sym (track_got old.tracks.items row before within
    (before_is ∙ ap₂ (λ (xs : List GrowingTrack) (k : ℕ). get_or xs k before) tracks same))) (is.tracks row)

pub reel_is : (old a new : Reel) (row number time : ℕ) (track : GrowingTrack) → IsReel old
    → Replaces old a new row number time track → IsReel new
reel_is old a new row number time track is by = record {
  drawn = by.drawn;
  used = λ i lt. used i (by.grows.own i (subst (λ (xs : List (List ℕ)). i < length xs) by.rows lt));
  tracks = subst (λ (xs : List Track). (r : ℕ) → IsTrack (track_at xs r)) (sym by.tracks)
      (each_track (tracks_of old) row (track_of track) (λ r t. IsTrack t) by.within is.tracks by.is_track);
  count = by.count ∙ is.count ∙ ap (λ (z : ScreenSize). z.rows.value) (sym (by.size ∙ by.grows.size));
}
  where
    longer : (r : ℕ) → IsLonger (track_at (tracks_of old) r).rows (track_at (tracks_of new) r).rows
    longer = subst (λ (xs : List Track). (r : ℕ) → IsLonger (track_at (tracks_of old) r).rows (track_at xs r).rows)
        (sym by.tracks)
        (each_track (tracks_of old) row (track_of track) (λ r t. IsLonger (track_at (tracks_of old) r).rows t.rows)
        by.within (λ r. longer_not (track_at (tracks_of old) r).rows) by.shows.rows)

    there : track_at (tracks_of new) row ≡ track_of track
    there = ap (λ (xs : List Track). track_at xs row) by.tracks
        ∙ get_or-set_same (tracks_of old) row (track_of track) no_track by.within

    used : (i : ℕ) → (i < length (rows_of old)) ⊎ (i ≡ number) → IsUsed (tracks_of new) i
    used i (inl lt) = used_still (tracks_of old) (tracks_of new) i longer (is.used i lt)
    used i (inr same) = record {
      row = row;
      place = by.shows.place;
      is = ap (λ (t : Track). slice_get t.rows by.shows.place) there ∙ by.shows.stands.at
          ∙ ap (λ (n : ℕ). Some n) (by.shows.stands.holds ∙ sym same);
    }

pub row_is_shown : (old a new : Reel) (row number time : ℕ) (track : GrowingTrack) (Holds : List ℕ → Type 0)
    → Replaces old a new row number time track → IsAt (rows_of a) number Holds → ShowsRow Holds row time old new
row_is_shown old a new row number time track Holds by at = record {
  rows = subst (IsLonger (rows_of old)) (sym by.rows) by.grows.rows;
  shows = subst (λ (xs : List Track). ShowsRowOf Holds (rows_of new) time (track_at (tracks_of old) row)
      (track_at xs row)) (sym by.tracks)
      (subst (ShowsRowOf Holds (rows_of new) time (track_at (tracks_of old) row))
      (sym (get_or-set_same (tracks_of old) row (track_of track) no_track by.within))
      (shows_such (λ n. n ≡ number) (λ n. IsAt (rows_of new) n Holds) time (track_at (tracks_of old) row)
      (track_of track) (λ n same. subst (λ (k : ℕ). IsAt (rows_of new) k Holds) (sym same)
      (subst (λ (xs : List (List ℕ)). IsAt xs number Holds) (sym by.rows) at)) by.shows));
  others = λ r no. ap (λ (xs : List Track). track_at xs r) by.tracks
      ∙ get_or-set_other (tracks_of old) row r (track_of track) no_track no;
  size = by.size ∙ by.grows.size;
  time = by.time ∙ by.grows.time;
}

-- ---- one shot

-- the rows so far are shown
pub record AreTaken (look : Look) (s : State) (start : ℕ) (old new : Reel) (n : ℕ) : Type 0 where
  pub rows : IsLonger (rows_of old) (rows_of new)
  pub done : (r : ℕ) → r < n
      → ShowsRowOf (IsSvgRow look s r) (rows_of new) start (track_at (tracks_of old) r) (track_at (tracks_of new) r)
  pub left : (r : ℕ) → n ≤ r → track_at (tracks_of new) r ≡ track_at (tracks_of old) r
  pub size : new.size ≡ old.size
  pub time : new.time ≡ old.time

pub none_taken : (look : Look) (s : State) (time : ℕ) (reel : Reel) → AreTaken look s time reel reel 0
none_taken look s time reel = record {
  rows = longer_not (rows_of reel);
  done = λ r lt. absurd (omega arith);
  left = λ r le. refl;
  size = refl;
  time = refl;
}

pub one_row_more : (look : Look) (s : State) (time : ℕ) (first old new : Reel) (n : ℕ) (Holds : List ℕ → Type 0)
    → AreTaken look s time first old n → ShowsRow Holds n time old new
    → ((runs : List ℕ) → Holds runs → IsSvgRow look s n runs) → AreTaken look s time first new (n + 1)
one_row_more look s time first old new n Holds before shows is = record {
  rows = longer_both (rows_of first) (rows_of old) (rows_of new) before.rows shows.rows;
  done = below_more _ n earlier latest;
  left = λ r le. shows.others r (λ e. absurd (omega arith)) ∙ before.left r (omega arith);
  size = shows.size ∙ before.size;
  time = shows.time ∙ before.time;
}
  where
    earlier : (r : ℕ) → r < n
        → ShowsRowOf (IsSvgRow look s r) (rows_of new) time (track_at (tracks_of first) r)
        (track_at (tracks_of new) r)
    earlier r lt =
        subst (ShowsRowOf (IsSvgRow look s r) (rows_of new) time (track_at (tracks_of first) r))
        (sym (shows.others r (λ e. absurd (omega arith))))
        (shows_such _ _ time (track_at (tracks_of first) r) (track_at (tracks_of old) r)
        (λ k at. is_at_still (rows_of old) (rows_of new) k (IsSvgRow look s r) shows.rows at) (before.done r lt))

    latest : ShowsRowOf (IsSvgRow look s n) (rows_of new) time (track_at (tracks_of first) n)
        (track_at (tracks_of new) n)
    latest =
        subst (λ (t : Track). ShowsRowOf (IsSvgRow look s n) (rows_of new) time t (track_at (tracks_of new) n))
        (before.left n (omega arith))
        (shows_such _ _ time (track_at (tracks_of old) n) (track_at (tracks_of new) n)
        (λ k at. is_at_such (rows_of new) k Holds (IsSvgRow look s n) is at) shows.shows)

-- all rows are shown
pub shot_taken : (look : Look) (s : State) (time : ℕ) (old new : Reel) (n : ℕ) → old.size.rows.value ≤ n
    → AreTaken look s time old new n → TakesShot look s time old new
shot_taken look s time old new n all taken = record {
  rows = taken.rows;
  row = λ r lt. taken.done r (let same = ap (λ (z : ScreenSize). z.rows.value) taken.size in omega arith);
  size = taken.size;
  time = taken.time;
}

-- ---- moment by moment

pub most-push : (amount : Event → ℕ) (least : ℕ) (events : List Event) (e : Event)
    → most amount least (events ++ e ∷ []) ≡ max (most amount least events) (amount e)
most-push amount least [] e = refl
most-push amount least (x ∷ xs) e = most-push amount (max least (amount x)) xs e

shots_still : (look : Look) (size : ScreenSize) (pace : Pace) (events : List Event) (drawn drawn_after : List (List ℕ))
    (r : ℕ) (rows rows_after : List ℕ) (n : ℕ) (shots : List Shot) → IsLonger drawn drawn_after
    → IsLonger rows rows_after → AreShots look size pace events drawn r rows n shots
    → AreShots look size pace events drawn_after r rows_after n shots
shots_still look size pace events drawn drawn_after r rows rows_after _ _ more longer none = none
shots_still look size pace events drawn drawn_after r rows rows_after _ _ more longer
    (passed {n = n} {shots = shots} is before) =
    passed is (shots_still look size pace events drawn drawn_after r rows rows_after n shots more longer before)
shots_still look size pace events drawn drawn_after r rows rows_after _ _ more longer
    (shot {n = n} {old = earlier} shots place is before at shown) =
    shot shots place is
    (shots_still look size pace events drawn drawn_after r rows rows_after n earlier more longer before)
    (is_at_such rows_after place _ _
    (λ number row. is_at_still drawn drawn_after number (IsSvgRow look (state_after size events n) r) more row)
    (is_at_still rows rows_after place _ longer at))
    shown

-- the shots of a row of the screen, in a film that is being built
abbrev pub HasShots : Look → ScreenSize → Pace → List Event → Reel → ℕ → ℕ → Type 0
HasShots look size pace events reel n r =
    let track = track_at (tracks_of reel) r in
    AreShots look size pace events (rows_of reel) r track.rows n track.shots

-- the screen after n events was handled: a shot of it was taken, or it is skipped
moment_passed : (look : Look) (size : ScreenSize) (pace : Pace) (events : List Event) (old new : Reel) (n r : ℕ)
    (on : Bool) (start : ℕ) → on ≡ may_stand pace events n → start ≡ slot_start pace (film_time pace events n)
    → r < new.size.rows.value → TakesShotIf on look (state_after size events n) start old new
    → HasShots look size pace events old n r → HasShots look size pace events new (suc n) r
moment_passed look size pace events old new n r true start is time lt takes before =
    let shows = takes.row r lt in
    shot (track_at (tracks_of new) r).shots shows.place (sym is)
    (shots_still look size pace events (rows_of old) (rows_of new) r (track_at (tracks_of old) r).rows
    (track_at (tracks_of new) r).rows n (track_at (tracks_of old) r).shots takes.rows shows.rows before)
    shows.stands
    (subst (λ (t : ℕ). IsShown (track_at (tracks_of old) r).shots (track_at (tracks_of new) r).shots t shows.place) time
    shows.shown)
moment_passed look size pace events old new n r false start is time lt takes before =
    subst (λ (reel : Reel). HasShots look size pace events reel (suc n) r) (sym takes) (passed (sym is) before)

size_stays : (look : Look) (s : State) (start : ℕ) (old new : Reel) (on : Bool) → TakesShotIf on look s start old new
    → new.size ≡ old.size
size_stays look s start old new true takes = takes.size
size_stays look s start old new false takes = ap (λ (r : Reel). r.size) takes

time_stays : (look : Look) (s : State) (start : ℕ) (old new : Reel) (on : Bool) → TakesShotIf on look s start old new
    → new.time ≡ old.time
time_stays look s start old new true takes = takes.time
time_stays look s start old new false takes = ap (λ (r : Reel). r.time) takes

-- time passes
pub reel_waits : (old new : Reel) (t : ℕ) → new ≡ record old { time = t } → IsReel old → IsReel new
reel_waits old new t is reel = subst IsReel (sym is) (record {
  drawn = record { rows = reel.drawn.rows; different = reel.drawn.different };
  used = reel.used;
  tracks = reel.tracks;
  count = reel.count;
})

-- the acts of one event more
pub acts_more : (events : List Event) (i : ℕ) (e : Event) → i < length events → e ≡ get_or events i e
    → map (λ (x : Event). act_of x.change) (take (i + 1) events)
    ≡ map (λ (x : Event). act_of x.change) (take i events) ++ act_of e.change ∷ []
acts_more events i e lt is =
    ap (map (λ (x : Event). act_of x.change)) (take_more events i e lt ∙ ap (λ x. take i events ++ x ∷ []) (sym is))
    ∙ map-append (λ (x : Event). act_of x.change) (take i events) (e ∷ [])

-- the state of a terminal's screen
pub state_is : {C : Type 0} (p : ParserView C) (v : ScreenView) (rows cols : ℕ) (acts : List Act) → v ≡ p.screen
    → ParserIsAfter p rows cols 0 acts → v.state ≡ made rows cols 0 acts
state_is p v rows cols acts is after = ap (λ (w : ScreenView). w.state) (is ∙ after.screen)

-- the most of what one event more has
pub most_more : (amount : Event → ℕ) (least : ℕ) (events : List Event) (i : ℕ) (e : Event) (before after : ℕ)
    → i < length events → e ≡ get_or events i e → before ≡ most amount least (take i events)
    → after ≡ max before (amount e) → after ≡ most amount least (take (i + 1) events)
most_more amount least events i e before after lt is first second =
    second ∙ ap (λ (n : ℕ). max n (amount e)) first ∙ sym (most-push amount least (take i events) e)
    ∙ ap (most amount least) (sym (take_more events i e lt ∙ ap (λ x. take i events ++ x ∷ []) (sym is)))

-- an event more that comes no later
pub one_more_counts : (events : List Event) (moment i n : ℕ) (e : Event) → i < length events → e ≡ get_or events i e
    → e.time ≤ moment → n ≡ i + count_until moment (drop i events)
    → n ≡ (i + 1) + count_until moment (drop (i + 1) events)
one_more_counts events moment i n e lt is soon before =
    let test : Event → Bool = λ x. nat_le x.time moment in
    let passes : nat_le (get_or events i e).time moment ≡ true =
    ap (λ (x : Event). nat_le x.time moment) (sym is) ∙ le-leb e.time moment soon in
    let one : i + (1 + count_until moment (drop (i + 1) events)) ≡ (i + 1) + count_until moment (drop (i + 1) events) =
    omega arith in
    before ∙ ap (λ (k : ℕ). i + k) (prefix_len-drop_yes test events i e lt passes) ∙ one

-- ---- the film

pub time_goes_on : (pace : Pace) (events : List Event) (i gap waited before after : ℕ)
    → gap ≡ played_to pace events (i + 1) - played_to pace events i → waited ≡ paced pace gap
    → before ≡ film_time pace events i
    → after ≡ in_64_bits (before + waited) → after ≡ film_time pace events (i + 1)
time_goes_on pace events i gap waited before after gap_is waited_is before_is after_is =
    subst (λ (n : ℕ). after ≡ film_time pace events n) (sym (add-one i))
    (after_is ∙ ap₂ (λ (b w : ℕ). in_64_bits (b + w)) before_is
    (waited_is ∙ ap (paced pace)
    (gap_is ∙ ap (λ (n : ℕ). played_to pace events n - played_to pace events i) (add-one i))))

pub time_reached : (pace : Pace) (events : List Event) (i gap waited : ℕ) (first old : Reel)
    → gap ≡ played_to pace events (i + 1) - played_to pace events i → waited ≡ paced pace gap
    → old ≡ record first { time = in_64_bits (first.time + waited) } → first.time ≡ film_time pace events i
    → old.time ≡ film_time pace events (i + 1)
time_reached pace events i gap waited first old gap_is waited_is waits before =
    time_goes_on pace events i gap waited first.time old.time gap_is waited_is before (ap (λ (r : Reel). r.time) waits)

-- the screens after up to n events were handled: a shot of each was taken, or it is skipped
pub record IsTaken (look : Look) (size : ScreenSize) (pace : Pace) (moment : ℕ) (events : List Event) (reel : Reel)
    (n : ℕ) : Type 0 where
  pub is_reel : IsReel reel
  pub rows : reel.size.rows.value ≡ most_rows moment size events
  pub cols : reel.size.cols.value ≡ most_cols moment size events
  pub time : reel.time ≡ film_time pace events n
  pub shots : (r : ℕ) → r < reel.size.rows.value → HasShots look size pace events reel (suc n) r

no_shots : (look : Look) (size : ScreenSize) (pace : Pace) (events : List Event) (reel : Reel) (r : ℕ)
    → tracks_of reel ≡ replicate reel.size.rows.value no_track → r < reel.size.rows.value
    → HasShots look size pace events reel 0 r
no_shots look size pace events reel r empty lt =
    subst (λ (t : Track). AreShots look size pace events (rows_of reel) r t.rows 0 t.shots)
    (sym (ap (λ (xs : List Track). track_at xs r) empty
    ∙ get_or-replicate reel.size.rows.value r no_track no_track lt)) none

pub taken_first : (look : Look) (size widest : ScreenSize) (pace : Pace) (moment : ℕ) (events : List Event)
    (old new : Reel) (on : Bool) (s : State) → widest.rows.value ≡ most_rows moment size events
    → widest.cols.value ≡ most_cols moment size events → tracks_of old ≡ replicate widest.rows.value no_track
    → old.size ≡ widest → old.time ≡ 0 → on ≡ may_stand pace events 0 → s ≡ state_after size events 0 → IsReel new
    → TakesShotIf on look s (slot_start pace old.time) old new → IsTaken look size pace moment events new 0
taken_first look size widest pace moment events old new on s rows cols empty same_size time is state reel takes =
    let start = slot_start pace old.time in
    let after = subst (λ (x : State). TakesShotIf on look x (slot_start pace old.time) old new) state takes in
    let kept = size_stays look s start old new on takes in
    record {
      is_reel = reel;
      rows = ap (λ (z : ScreenSize). z.rows.value) (kept ∙ same_size) ∙ rows;
      cols = ap (λ (z : ScreenSize). z.cols.value) (kept ∙ same_size) ∙ cols;
      time = time_stays look s start old new on takes ∙ time;
      shots = λ r lt. moment_passed look size pace events old new 0 r on start is (ap (slot_start pace) time) lt after
          (no_shots look size pace events old r
          (empty ∙ ap (λ (z : ScreenSize). replicate z.rows.value no_track) (sym same_size))
          (subst (λ (z : ScreenSize). r < z.rows.value) kept lt));
    }

pub taken_next : (look : Look) (size : ScreenSize) (pace : Pace) (moment : ℕ) (events : List Event)
    (first old new : Reel) (i gap waited : ℕ) (on : Bool) (s : State)
    → gap ≡ played_to pace events (i + 1) - played_to pace events i → waited ≡ paced pace gap
    → old ≡ record first { time = in_64_bits (first.time + waited) } → on ≡ may_stand pace events (i + 1)
    → s ≡ state_after size events (i + 1) → IsReel new → TakesShotIf on look s (slot_start pace old.time) old new
    → IsTaken look size pace moment events first i → IsTaken look size pace moment events new (i + 1)
taken_next look size pace moment events first old new i gap waited on s gap_is waited_is waits is state reel takes before =
    let start = slot_start pace old.time in
    let after = subst (λ (x : State). TakesShotIf on look x (slot_start pace old.time) old new) state takes in
    let same_size = size_stays look s start old new on takes ∙ ap (λ (r : Reel). r.size) waits in
    let time = time_goes_on pace events i gap waited first.time old.time gap_is waited_is before.time
    (ap (λ (r : Reel). r.time) waits) in
    record {
      is_reel = reel;
      rows = ap (λ (z : ScreenSize). z.rows.value) same_size ∙ before.rows;
      cols = ap (λ (z : ScreenSize). z.cols.value) same_size ∙ before.cols;
      time = time_stays look s start old new on takes ∙ time;
      shots = λ r lt. moment_passed look size pace events old new (i + 1) r on start is (ap (slot_start pace) time) lt
          after
          (subst (λ (x : Reel). HasShots look size pace events x (i + 1) r) (sym waits)
          (subst (λ (n : ℕ). HasShots look size pace events first n r) (sym (add-one i))
          (before.shots r (subst (λ (z : ScreenSize). r < z.rows.value) same_size lt))));
    }

-- ---- the film

tracks_counted : (reel : Reel) → IsReel reel → length (tracks_of reel) ≡ reel.size.rows.value
tracks_counted reel is = length-map reel.tracks.items track_of ∙ is.count

-- the film of a reel
pub film_is : (look : Look) (size : ScreenSize) (pace : Pace) (moment : ℕ) (events : List Event) (reel : Reel) (n : ℕ)
    (bytes : List ℕ) → IsTaken look size pace moment events reel n
    → bytes ≡ film_bytes look reel.size.rows.value reel.size.cols.value
    (showing pace.plays (poster_time pace events) reel.time) (rows_of reel)
    (tracks_of reel)
    → IsFilmOf look size pace moment events n bytes
film_is look size pace moment events reel n bytes taken is = record {
  rows = rows_of reel;
  tracks = tracks_of reel;
  is = is
      ∙ ap₂ (λ (h w : ℕ). film_bytes look h w (showing pace.plays (poster_time pace events) reel.time)
      (rows_of reel) (tracks_of reel))
      taken.rows taken.cols
      ∙ ap (λ (t : ℕ). film_bytes look (most_rows moment size events) (most_cols moment size events)
      (showing pace.plays (poster_time pace events) t) (rows_of reel) (tracks_of reel)) taken.time;
  count = tracks_counted reel taken.is_reel ∙ taken.rows;
  shown = λ r lt. taken.shots r (subst (λ (k : ℕ). r < k) (tracks_counted reel taken.is_reel) lt);
  different = taken.is_reel.drawn.different;
  used = taken.is_reel.used;
  tracked = λ r lt. taken.is_reel.tracks r;
}

if_ok_more : {T E : Type 0} (r : Result T E) (P Q : T → Type 0) → ((x : T) → P x → Q x) → IfOk r P → IfOk r Q
if_ok_more (Ok x) P Q f h = f x h
if_ok_more (Err e) P Q f h = h

pub film_of_reel : {E : Type 0} (r : Result (Vec ℕ Global) E) (look : Look) (size : ScreenSize) (pace : Pace)
    (moment : ℕ) (events : List Event) (reel : Reel) (n : ℕ) → n ≡ count_until moment events
    → IsTaken look size pace moment events reel n
    → IfOk r (λ bytes. bytes.items ≡ film_bytes look reel.size.rows.value reel.size.cols.value
    (showing pace.plays (poster_time pace events) reel.time) (rows_of reel) (tracks_of reel))
    → IfOk r (λ bytes. IsFilm look size pace moment events bytes.items)
film_of_reel r look size pace moment events reel n all taken =
    if_ok_more r _ _ (λ bytes is. subst (λ (k : ℕ). IsFilmOf look size pace moment events k bytes.items) all
    (film_is look size pace moment events reel n bytes.items taken is))

-- ---- a film that is too long

within_both : (a b : List ℕ) → length b ≤ length (a ++ b)
within_both a b = let len = length-append a b in omega arith

within_first : (a b : List ℕ) → length a ≤ length (a ++ b)
within_first a b = let len = length-append a b in omega arith

within_inner : (a b c : List ℕ) → length b ≤ length c → length b ≤ length (a ++ c)
within_inner a b c le = let more = within_both a c in omega arith

drawn_within : (head times drawn foot : List ℕ) → length drawn ≤ length (head ++ (times ++ (drawn ++ foot)))
drawn_within head times drawn foot =
    within_inner head drawn _ (within_inner times drawn _ (within_first drawn foot))

through : (a b c : ℕ) → a ≤ b → b ≤ c → a ≤ c
through a b c first second = omega arith

-- a shot has two pieces of markup, of 23 and 4 bytes
markup_within : (n : ℕ) → 27 ≤ length (numbers_bytes ((tag.Percent, n) ∷ []) ++ tag_bytes tag.PercentEnd)
markup_within n = let end = within_both (decimal n ++ []) (tag_bytes tag.PercentEnd) in omega arith

shot_within : (cols film_length : ℕ) (x : Shot) → 27 ≤ length (shot_bytes cols film_length x)
shot_within cols film_length x =
    through _ _ _ (markup_within (place cols x.place))
    (within_both (decimal_point 5 (in_64_bits (x.time * 10000000 / max film_length 1)))
    (numbers_bytes ((tag.Percent, place cols x.place) ∷ []) ++ tag_bytes tag.PercentEnd))

shots_within : (cols film_length : ℕ) (shots : List Shot)
    → 27 * length shots ≤ length (flat_map (shot_bytes cols film_length) shots)
shots_within cols film_length [] = omega arith
shots_within cols film_length (x ∷ xs) =
    joined_within (shot_bytes cols film_length x) (flat_map (shot_bytes cols film_length) xs) (length xs)
    (shot_within cols film_length x) (shots_within cols film_length xs)
  where
    joined_within : (a b : List ℕ) (n : ℕ) → 27 ≤ length a → 27 * n ≤ length b → 27 * suc n ≤ length (a ++ b)
    joined_within a b n first second = let both = length-append a b in omega arith

keyframes_within : (cols : ℕ) (s : Showing) (row : ℕ) (shots : List Shot)
    → 27 * length shots ≤ length (keyframes cols s row shots)
keyframes_within cols s row shots =
    let shown = flat_map (shot_bytes cols s.length) shots in
    let end = end_bytes s.plays cols shots
    ++ (numbers_bytes ((tag.KeyframesEnd, in_32_bits row) ∷ (tag.Animation, in_32_bits row) ∷ [])
    ++ tag_bytes tag.AnimationEnd) in
    let from_shots = shown ++ end in
    let from_start = tag_bytes tag.KeyframesStart ++ from_shots in
    through _ _ _ (shots_within cols s.length shots)
    (within_inner (numbers_bytes ((tag.Keyframes, in_32_bits row) ∷ [])) shown from_start
    (within_inner (tag_bytes tag.KeyframesStart) shown from_shots (within_first shown end)))

one_less : (n k : ℕ) → 27 * n ≤ k → 27 * (n - 1) ≤ k
one_less n k h = omega arith

shots_or_none : (cols : ℕ) (s : Showing) (row : ℕ) (shots : List Shot)
    → 27 * (length shots - 1) ≤ length (if nat_lt 1 (length shots) then keyframes cols s row shots else [])
shots_or_none cols s row shots = by (nat_lt 1 (length shots)) refl
  where
    by : (many : Bool) → nat_lt 1 (length shots) ≡ many
        → 27 * (length shots - 1) ≤ length (if many then keyframes cols s row shots else [])
    by true is = one_less _ _ (keyframes_within cols s row shots)
    by false is = let few : length shots ≤ 1 = ltb-false 1 (length shots) is in omega arith

changes_within : (cols : ℕ) (s : Showing) (n : ℕ) (tracks : List Track)
    → 27 * changes_in tracks ≤ length (numbered (track_times cols s) n tracks)
changes_within cols s n [] = omega arith
changes_within cols s n (t ∷ ts) =
    joined_within (track_times cols s n t) (numbered (track_times cols s) (suc n) ts)
    (length t.shots - 1) (changes_in ts) (shots_or_none cols s n t.shots)
    (changes_within cols s (suc n) ts)
  where
    joined_within : (a b : List ℕ) (k m : ℕ) → 27 * k ≤ length a → 27 * m ≤ length b → 27 * (k + m) ≤ length (a ++ b)
    joined_within a b k m first second = let both = length-append a b in omega arith

times_within : (cols : ℕ) (s : Showing) (tracks : List Track)
    → 27 * changes_in tracks ≤ length (times_bytes cols s tracks)
times_within cols s tracks =
    let shown = numbered (track_times cols s) 0 tracks in
    let from_shots = shown ++ tag_bytes tag.Still in
    let from_plays = plays_bytes s.plays ++ from_shots in
    let from_end = tag_bytes tag.FilmLengthEnd ++ from_plays in
    let from_length = decimal_point 6 s.length ++ from_end in
    through _ _ _ (changes_within cols s 0 tracks)
    (within_inner (tag_bytes tag.FilmLength) shown from_length
    (within_inner (decimal_point 6 s.length) shown from_end
    (within_inner (tag_bytes tag.FilmLengthEnd) shown from_plays
    (within_inner (plays_bytes s.plays) shown from_shots (within_first shown (tag_bytes tag.Still))))))

longer_then : (most a b : ℕ) → most < a → a ≤ b → most < b
longer_then most a b first second = omega arith

film_by : (least cols : ℕ) (s : Showing) (head foot drawn a : List ℕ) (tracks : List Track) → length a ≤ length drawn
    → (least < length a) ⊎ (least < 27 * changes_in tracks)
    → least < length (head ++ (times_bytes cols s tracks ++ (drawn ++ foot)))
film_by least cols s head foot drawn a tracks part (inl long) =
    longer_then least _ _ long
    (through _ _ _ part (drawn_within head (times_bytes cols s tracks) drawn foot))
film_by least cols s head foot drawn a tracks part (inr long) =
    let times = times_bytes cols s tracks in
    longer_then least _ _ long
    (through _ _ _ (times_within cols s tracks)
    (within_inner head times (times ++ (drawn ++ foot)) (within_first times (drawn ++ foot))))

-- a reel whose rows are longer than this, or that changes too often, makes a film that is longer
pub film_longer : (most : ℕ) (look : Look) (plays poster : Option ℕ) (reel : Reel) → IsReel reel
    → (most < length reel.drawn_rows) ⊎ (most < 27 * changes_in (tracks_of reel))
    → most < length (film_bytes look reel.size.rows.value reel.size.cols.value (showing plays poster reel.time)
    (rows_of reel) (tracks_of reel))
film_longer most look plays poster reel is longer =
    let cols = reel.size.cols.value in
    let rows = numbered drawn_row 0 (rows_of reel) in
    let tracks = numbered (track_bytes cols poster) 0 (tracks_of reel) in
    film_by most cols (showing plays poster reel.time) (svg_head look reel.size.rows.value cols) (tag_bytes tag.SvgFoot)
    (drawn_bytes rows tracks) reel.drawn_rows (tracks_of reel)
    (subst (λ (xs : List ℕ). length xs ≤ length (drawn_bytes rows tracks)) (sym is.drawn.rows)
    (within_inner (tag_bytes tag.DefsStart) rows _ (within_first rows (tag_bytes tag.DefsEnd ++ tracks)))) longer

pub is_too_long : (most : ℕ) (look : Look) (size : ScreenSize) (pace : Pace) (moment : ℕ) (events : List Event)
    (reel : Reel) (n : ℕ) → n ≤ count_until moment events → IsTaken look size pace moment events reel n
    → most < length (film_bytes look reel.size.rows.value reel.size.cols.value
    (showing pace.plays (poster_time pace events) reel.time)
    (rows_of reel) (tracks_of reel))
    → IsTooLong most look size pace moment events
is_too_long most look size pace moment events reel n within taken long = record {
  count = n;
  within = within;
  bytes = film_bytes look reel.size.rows.value reel.size.cols.value
      (showing pace.plays (poster_time pace events) reel.time) (rows_of reel)
      (tracks_of reel);
  film = film_is look size pace moment events reel n _ taken refl;
  long = long;
}

pub fault_of_reel : {T : Type 0} (r : Result T FilmError) (most : ℕ) (look : Look) (size : ScreenSize) (pace : Pace)
    (moment : ℕ) (events : List Event) (reel : Reel) (n : ℕ) → n ≡ count_until moment events
    → IsTaken look size pace moment events reel n
    → IfErr r (λ e. (e ≡ Memory) ⊎ ((e ≡ TooLong) × (most < length (film_bytes look reel.size.rows.value
    reel.size.cols.value
    (showing pace.plays (poster_time pace events) reel.time) (rows_of reel) (tracks_of reel)))))
    → IfErr r (λ e. (e ≡ Memory) ⊎ ((e ≡ TooLong) × IsTooLong most look size pace moment events))
fault_of_reel (Ok x) most look size pace moment events reel n all taken h = h
fault_of_reel (Err e) most look size pace moment events reel n all taken h =
    other_fault (is_too_long most look size pace moment events reel n (omega arith) taken) h
