-- Parts with rows of a recording as their text.
use Rattle.std.proofs.Common.{◌≡◌, ◌+◌, ◌<◌, ℕ, List, [], ◌∷◌, ◌++◌, sym, ap, subst, ◌∙◌, append-nil, take, length}
use Rattle.std.proofs.Common.{get_or}
use Rattle.std.proofs.lemmas.Grind.{flat_map-append}
use Rattle.std.proofs.lemmas.List.{map-append, take_more}
use Rattle.std.proofs.lemmas.List.Elements.{All-append, All-cons, All-nil}
use Rattle.screen_model.specs.Call.{ScreenView}
use Rattle.screen_model.specs.Made.{Act, made}
use Rattle.screen_model.specs.State.{State}
use Rattle.vt100.specs.Parsing.{ParserIsAfter, ParserView}
use Rattle.vt100_cells.specs.Cell.{CellView}
use Rattle.picture_page.specs.Page.{Adds}
use Rattle.picture_page.proofs.PageLemmas.{adds_both, adds_none, after_markup, before_markup, shows_page}
use Rattle.row_pictures.specs.Text.{row_text}
use Rattle.recordings.specs.declared.recording.Event.{Event}
use Rattle.recorded_screen.specs.Moment.{act_of}
use Rattle.recorded_screen.specs.Picture.{cells_shown}
use Rattle.player_page.specs.Rows.{AddsRows, IsRowAfter, IsRowOf, ShowsRows, acts_of, rows_text}

-- nothing is added
pub no_rows : (rows cols : ℕ) (events : List Event) (bytes : List ℕ) → AddsRows rows cols events bytes bytes
no_rows rows cols events bytes = record {
  lines = [];
  adds = adds_none bytes;
  shown = All-nil (IsRowOf rows cols events);
}

-- a row is added
pub one_row : (rows cols : ℕ) (events : List Event) (a b : List ℕ) (cells : List CellView) → IsRowOf rows cols events
    cells
    → Adds a b (row_text cells ++ 10 ∷ []) → AddsRows rows cols events a b
one_row rows cols events a b cells is adds = record {
  lines = cells ∷ [];
  adds = subst (λ t. Adds a b t) (sym (append-nil (row_text cells ++ 10 ∷ []))) adds;
  shown = All-cons (IsRowOf rows cols events) cells [] is (All-nil (IsRowOf rows cols events));
}

-- rows, and then more
pub rows_both : (rows cols : ℕ) (events : List Event) (a b c : List ℕ) → AddsRows rows cols events a b
    → AddsRows rows cols events b c → AddsRows rows cols events a c
rows_both rows cols events a b c first second = record {
  lines = first.lines ++ second.lines;
  adds = subst (λ t. Adds a c t)
      (sym (flat_map-append (λ (cells : List CellView). row_text cells ++ 10 ∷ []) first.lines second.lines))
      (adds_both a b c (rows_text first.lines) (rows_text second.lines) first.adds second.adds);
  shown = All-append (IsRowOf rows cols events) first.lines second.lines first.shown second.shown;
}

-- markup, and then rows
pub rows_after : (rows cols : ℕ) (events : List Event) (a b c : List ℕ) → Adds a b [] → AddsRows rows cols events b c
    → AddsRows rows cols events a c
rows_after rows cols events a b c first second = record {
  lines = second.lines;
  adds = after_markup a b c (rows_text second.lines) first second.adds;
  shown = second.shown;
}

-- rows, and then markup
pub rows_before : (rows cols : ℕ) (events : List Event) (a b c : List ℕ) → AddsRows rows cols events a b → Adds b c []
    → AddsRows rows cols events a c
rows_before rows cols events a b c first second = record {
  lines = first.lines;
  adds = before_markup a b c (rows_text first.lines) first.adds second;
  shown = first.shown;
}

-- the bytes of a page that was empty at first
pub rows_shown : (rows cols : ℕ) (events : List Event) (empty page bytes : List ℕ) → empty ≡ [] → bytes ≡ page
    → AddsRows rows cols events empty page → ShowsRows rows cols events bytes
rows_shown rows cols events empty page bytes none is adds = record {
  lines = adds.lines;
  shows = shows_page empty page bytes (rows_text adds.lines) none is adds.adds;
  shown = adds.shown;
}

-- the state of a terminal's screen
pub state_is : {C : Type 0} (p : ParserView C) (v : ScreenView) (rows cols : ℕ) (acts : List Act) → v ≡ p.screen
    → ParserIsAfter p rows cols 0 acts → v.state ≡ made rows cols 0 acts
state_is p v rows cols acts is after = ap (λ (w : ScreenView). w.state) (is ∙ after.screen)

-- a row of the screen in this state
pub row_of_state : (s : State) (rows cols : ℕ) (acts : List Act) → s ≡ made rows cols 0 acts → (r : ℕ)
    → IsRowAfter rows cols acts (cells_shown s.shown r)
row_of_state s rows cols acts is r = record { row = r; is = ap (λ (z : State). cells_shown z.shown r) is }

-- one event more
pub acts_more : (events : List Event) (i : ℕ) (e : Event) → i < length events → e ≡ get_or events i e
    → acts_of (take (i + 1) events) ≡ acts_of (take i events) ++ act_of e.change ∷ []
acts_more events i e lt is =
    ap acts_of (take_more events i e lt ∙ ap (λ x. take i events ++ x ∷ []) (sym is))
    ∙ map-append (λ (x : Event). act_of x.change) (take i events) (e ∷ [])

-- a page whose text is rows, and which is appended
pub rows_appended : (rows cols : ℕ) (events : List Event) (old page new : List ℕ) → new ≡ old ++ page
    → AddsRows rows cols events [] page → AddsRows rows cols events old new
rows_appended rows cols events old page new is rows_in = record {
  lines = rows_in.lines;
  adds = record {
    parts = rows_in.adds.parts;
    joined = is ∙ ap (λ xs. old ++ xs) rows_in.adds.joined;
    text_is = rows_in.adds.text_is;
  };
  shown = rows_in.shown;
}
