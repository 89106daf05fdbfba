-- Pictures and films in frames, and how long they are.
use Rattle.std.proofs.Common.{◌≡◌, ◌⊎◌, ◌≤◌, ◌<◌, ◌++◌, ◌*◌, ◌∙◌, ℕ, Bool, true, false, List, length, arith, length-append}
use Rattle.std.proofs.Common.{ap₂, inl, inr, subst}
use Rattle.std.specs.Prelude.{if◌then◌else◌}
use Rattle.picture_page.specs.Tags.{tag_bytes}
use Rattle.picture_page.specs.declared.tag.Tag.TheVariants.{SvgFoot}
use Rattle.row_pictures.specs.Frames.{FrameView, around, frame_head, framed, inner_head, is_bare, window_bar}
use Rattle.row_pictures.specs.Frames.{window_edge}
use Rattle.row_pictures.specs.declared.look.Look.{Look}
use Rattle.row_pictures.specs.declared.theme.Theme.{Theme}
use Rattle.recordings.specs.declared.recording.Event.{Event}
use Rattle.recordings.specs.declared.recording.ScreenSize.{ScreenSize}
use Rattle.recorded_screen.specs.Film.{IsFilm, IsTooLong, count_until, most_cols, most_rows}
use Rattle.recorded_screen.specs.Framed.{IsFramed, IsFramedTooLong}
use Rattle.recorded_screen.specs.declared.error.FilmError.{FilmError}
use Rattle.recorded_screen.specs.declared.error.FilmError.TheVariants.{Memory, TooLong}
use Rattle.recorded_screen.specs.declared.films.Pace.{Pace}

within_last : (n : ℕ) (a b : List ℕ) → n ≤ length b → n ≤ length (a ++ b)
within_last n a b h = omega (arith, length-append a b)

within_first : (a b : List ℕ) → length a ≤ length (a ++ b)
within_first a b = omega (arith, length-append a b)

around_longer : (f : FrameView) (theme : Theme) (width height : ℕ) (picture : List ℕ)
    → length picture ≤ length (around f theme width height picture)
around_longer f theme width height picture =
    let ends : List ℕ = tag_bytes SvgFoot ++ (window_edge f theme width height ++ tag_bytes SvgFoot) in
    let inner : List ℕ = inner_head f width height ++ (picture ++ ends) in
    within_last (length picture) (frame_head f theme width height) (window_bar f theme width ++ inner)
    (within_last (length picture) (window_bar f theme width) inner
    (within_last (length picture) (inner_head f width height) (picture ++ ends) (within_first picture ends)))

-- a picture in its frame is at least as long as it is alone
pub framed_longer : (f : FrameView) (theme : Theme) (rows cols : ℕ) (picture : List ℕ)
    → length picture ≤ length (framed f theme rows cols picture)
framed_longer f theme rows cols picture = go (is_bare f)
  where
    all : List ℕ
    all = around f theme (cols * 9) (rows * 18) picture

    go : (v : Bool) → length picture ≤ length (if v then picture else all)
    go true = omega arith
    go false = around_longer f theme (cols * 9) (rows * 18) picture

-- ---- pictures and films that were framed

-- a picture of as many rows and columns, in its frame
pub is_framed : (f : FrameView) (theme : Theme) (rows cols height width : ℕ) (P : List ℕ → Type 0)
    (picture bytes : List ℕ) → rows ≡ height → cols ≡ width → bytes ≡ framed f theme rows cols picture → P picture
    → IsFramed f theme height width P bytes
is_framed f theme rows cols height width P picture bytes rows_are cols_are is holds = record {
  picture = picture;
  is = is ∙ ap₂ (λ r k. framed f theme r k picture) rows_are cols_are;
  holds = holds;
}

-- a film that is too long in its frame
pub too_long_framed : (f : FrameView) (most : ℕ) (look : Look) (size : ScreenSize) (pace : Pace) (moment : ℕ)
    (events : List Event) (rows cols : ℕ) (film bytes : List ℕ) → rows ≡ most_rows moment size events
    → cols ≡ most_cols moment size events → bytes ≡ framed f look.theme rows cols film
    → IsFilm look size pace moment events film → most < length bytes
    → IsFramedTooLong f most look size pace moment events
too_long_framed f most look size pace moment events rows cols film bytes rows_are cols_are is holds long = record {
  count = count_until moment events;
  within = omega arith;
  film = film;
  is_film = holds;
  long = subst (λ xs. most < length xs) (is ∙ ap₂ (λ r k. framed f look.theme r k film) rows_are cols_are) long;
}

-- one that is too long alone is so in its frame
pub too_long_alone : (f : FrameView) (most : ℕ) (look : Look) (size : ScreenSize) (pace : Pace) (moment : ℕ)
    (events : List Event) → IsTooLong most look size pace moment events
    → IsFramedTooLong f most look size pace moment events
too_long_alone f most look size pace moment events alone =
    let rows : ℕ = most_rows moment size events in
    let cols : ℕ = most_cols moment size events in
    let longer : length alone.bytes ≤ length (framed f look.theme rows cols alone.bytes) =
    framed_longer f look.theme rows cols alone.bytes in
    let long : most < length alone.bytes = alone.long in record {
      count = alone.count;
      within = alone.within;
      film = alone.bytes;
      is_film = alone.film;
      long = omega arith;
    }

-- a fault of a film is one of the film in its frame
pub fault_framed : (f : FrameView) (most : ℕ) (look : Look) (size : ScreenSize) (pace : Pace) (moment : ℕ)
    (events : List Event) (e : FilmError)
    → (e ≡ Memory) ⊎ ((e ≡ TooLong) × IsTooLong most look size pace moment events)
    → (e ≡ Memory) ⊎ ((e ≡ TooLong) × IsFramedTooLong f most look size pace moment events)
fault_framed f most look size pace moment events e (inl memory) = inl memory
fault_framed f most look size pace moment events e (inr long) =
    inr (long.0, too_long_alone f most look size pace moment events long.1)
