-- The page, part by part.
use Rattle.std.proofs.Common.{◌≡◌, ◌⊎◌, ◌<◌, ◌+◌, ◌++◌, ◌∙◌, ℕ, suc, List, [], ◌∷◌, ap, append-nil, arith, get_or, inl}
use Rattle.std.proofs.Common.{inr, length, length-append, refl, subst, sym}
use Rattle.std.proofs.lemmas.Grind.{flat_map-append}
use Rattle.std.proofs.lemmas.List.{get_or_append_left}
use Rattle.std.proofs.lemmas.Option.{get_or_from_slice_get}
use Rattle.picture_page.proofs.PageLemmas.{joined_more}
use Rattle.row_pictures.specs.declared.look.Look.{Look}
use Rattle.screen_model.specs.Made.{made}
use Rattle.screen_model.specs.State.{State}
use Rattle.recordings.specs.declared.recording.Event.{Event}
use Rattle.recordings.specs.declared.recording.ScreenSize.{ScreenSize}
use Rattle.recorded_screen.specs.Moment.{acts_until}
use Rattle.player_page.specs.Heads.{BeginsWith, head_bytes}
use Rattle.player_page.specs.Moments.{ArePainted, IsPainted}
use Rattle.player_page.specs.Pages.{IsPlayer, controls_bytes, row_bytes, rows_bytes, size_bytes, strip_bytes}
use Rattle.player_page.specs.Strips.{IsStrip, table_of}
use Rattle.player_page.specs.declared.page.Play.{Play}
use Rattle.player_page.specs.declared.strip.Strip.{Strip}
use Rattle.player_page.proofs.LineLemmas.{at_or_below}
use Rattle.player_page.proofs.MomentLemmas.{got_last}

-- ---- the rows of a screen

-- the first rows were appended
pub record SomeRows (look : Look) (s : State) (n : ℕ) (old new : List ℕ) : Type 0 where
  pub rows : List (List ℕ)
  pub count : length rows ≡ n
  pub painted : (r : ℕ) → r < length rows → IsPainted look s r (get_or rows r [])
  pub joined : new ≡ old ++ rows_bytes rows

pub no_row : (look : Look) (s : State) (bytes : List ℕ) → SomeRows look s 0 bytes bytes
no_row look s bytes = record {
  rows = [];
  count = refl;
  painted = λ r lt. absurd (omega arith);
  joined = sym (append-nil bytes);
}

pub row_more : (look : Look) (s : State) (n : ℕ) (a b c row : List ℕ) → SomeRows look s n a b → c ≡ b ++ row_bytes row
    → IsPainted look s n row → SomeRows look s (n + 1) a c
row_more look s n a b c row some is painted = record {
  rows = some.rows ++ row ∷ [];
  count = length-append some.rows (row ∷ []) ∙ ap (λ k. k + 1) some.count;
  painted = λ r lt. by r (at_or_below r (length some.rows)
      (let len = length-append some.rows (row ∷ []) in omega arith));
  joined = joined_more a b c (rows_bytes some.rows) (row_bytes row) some.joined is
      ∙ ap (λ bs. a ++ bs) (sym (flat_map-append row_bytes some.rows (row ∷ [])
      ∙ ap (λ bs. rows_bytes some.rows ++ bs) (append-nil (row_bytes row))));
}
  where
    by : (r : ℕ) → (r < length some.rows) ⊎ (r ≡ length some.rows)
        → IsPainted look s r (get_or (some.rows ++ row ∷ []) r [])
    by r (inl lt) = subst (IsPainted look s r) (sym (get_or_append_left some.rows (row ∷ []) [] r lt)) (some.painted r lt)
    by r (inr last) = subst (IsPainted look s r)
        (sym (ap (λ (k : ℕ). get_or (some.rows ++ row ∷ []) k []) last
        ∙ get_or_from_slice_get (some.rows ++ row ∷ []) (length some.rows) row [] (got_last some.rows row)))
        (subst (λ (k : ℕ). IsPainted look s k row) (sym (last ∙ some.count)) painted)

pub all_rows : (look : Look) (s : State) (n : ℕ) (a b : List ℕ) → n ≡ s.shown.height → SomeRows look s n a b
    → (rows : List (List ℕ)) × ArePainted look s rows × (b ≡ a ++ rows_bytes rows)
all_rows look s n a b height some =
    (some.rows, record { count = some.count ∙ height; painted = some.painted }, some.joined)

-- ---- the page

pub is_player : (look : Look) (size : ScreenSize) (events : List Event) (play : Play) (strip : Strip)
    (empty a b c d e page front : List ℕ) (poster : List (List ℕ)) → empty ≡ [] → a ≡ empty ++ head_bytes look play
    → b ≡ a ++ size_bytes size events → c ≡ b ++ front → d ≡ c ++ rows_bytes poster → e ≡ d ++ controls_bytes events
    → page ≡ e ++ strip_bytes strip.rows strip.moments
    → ArePainted look (made size.rows.value size.cols.value 0 (acts_until play.poster events)) poster
    → IsStrip look size events (suc (length events)) strip → IsPlayer look size events play page
is_player look size events play strip empty a b c d e page front poster none head is_b is_c is_d is_e is painted of =
    record {
      front = front;
      poster = poster;
      table = table_of strip;
      lines = strip.moments;
      is = joined_more empty a page (head_bytes look play) _ head
          (joined_more a b page (size_bytes size events) _ is_b
          (joined_more b c page front _ is_c
          (joined_more c d page (rows_bytes poster) _ is_d
          (joined_more d e page (controls_bytes events) _ is_e
          (is ∙ ap (λ rows. e ++ strip_bytes rows strip.moments) of.drawn.rows)))))
          ∙ ap (λ bs. bs ++ (head_bytes look play ++ (size_bytes size events ++ (front ++ (rows_bytes poster
          ++ (controls_bytes events ++ strip_bytes (rows_bytes (table_of strip)) strip.moments)))))) none;
      poster_is = painted;
      table_is = of.drawn.table;
      plays = of.plays;
    }

pub begins : (look : Look) (size : ScreenSize) (events : List Event) (play : Play) (page : List ℕ)
    → IsPlayer look size events play page → BeginsWith (head_bytes look play) page
begins look size events play page is = record { more = _; is = is.is }
