-- Events that a screen has gone through, and what acts make.
use Rattle.std.proofs.Common.{◌≡◌, ◌∙◌, ℕ, Bool, true, false, List, [], ◌∷◌, ◌++◌, ap, refl, sym, subst, inl, inr}
use Rattle.std.proofs.Common.{append_assoc, append-nil, Ok, Err, Result, OnOk, All, ◌||◌}
use Rattle.std.proofs.lemmas.List.Elements.{All-head, All-tail}
use Rattle.std.proofs.lemmas.Bool.{cases_Bool, false≢true}
use Rattle.vte_core.specs.Event.{Event, Performs}
use Rattle.vte_core.specs.declared.parser.Parser.{Parser}
use Rattle.vte_core.specs.Standing.{IsAfter}
use Rattle.vte_core.specs.Reported.{Reported}
use Rattle.vte_core.specs.Added.{added}
use Rattle.vte_core.proofs.AddedLemmas.{added-is, added-append, added-none}
use Rattle.vt100_cells.proofs.CellLemmas.{or-true}
use Rattle.vt100_rows.specs.Row.{RowView}
use Rattle.screen_model.specs.State.{State, main_sheet, alternate_sheet}
use Rattle.screen_model.specs.Step.{resized_to}
use Rattle.screen_model.specs.Call.{Call, ScreenView}
use Rattle.screen_model.specs.Effect.{effect}
use Rattle.screen_model.specs.Made.{Act, Fed, Resized, played, events_added, bytes_fed, made_on}
use Rattle.vt100.specs.declared.screen.wrapped.WrappedScreen.{WrappedScreen}
use Rattle.vt100.specs.declared.error.ScreenError.{ScreenError}
use Rattle.vt100.specs.Tries.{Tries, SameBounds, alive}
use Rattle.vt100.specs.Goes.{MakesCalls, Fails, Goes, GoesThrough, Steps}
use Rattle.vt100.specs.Memory.{may_allocate, some_may_allocate}
use Rattle.vt100.specs.Parsing.{ParserView, ParserIsAfter, KeepsScreens}
use Rattle.vt100.specs.Laws.{PlaysEvents, FeedsMake, FeedsJoin, FeedsNothing, ActsFollow, ResizedScreensArePutIn}
use Rattle.screen_model.specs.Holds.{AreActs}
use Rattle.vt100_core.specs.Grid.{GridView, SameLimits}
use Rattle.screen_model.proofs.UnscrolledSheets.{Limits, IsUnscrolledSheet}
use Rattle.screen_model.proofs.UnscrolledStates.{Bounds, IsUnscrolledState, limits, main-fine, alternate-fine}
use Rattle.screen_model.proofs.UnscrolledEvents.{effect-well}
use Rattle.screen_model.proofs.ScalarEvents.{IsReported, added-reported}
use Rattle.screen_model.proofs.MadeLemmas.{bounded, first_bounds, made-well}
use Rattle.vt100.proofs.LimitsLemmas.{bounds_same, bounds_trans}
use Rattle.vt100.proofs.EventLemmas.{is_alive}

-- ---- a performer's steps

pub goes_through : {C : Type 0} (step : C → ScreenView → Call → C → ScreenView → Type 0)
    (scrolls : C → RowView → Bool → C → Type 0) (es : List Event) (p q : WrappedScreen C)
    → Performs (Steps step scrolls) p es q → GoesThrough step scrolls es p.callbacks p.screen q.callbacks q.screen
goes_through step scrolls [] p q h = (ap (λ x. x.callbacks) h, ap (λ x. x.screen) h)
goes_through step scrolls (e ∷ es) p q (m, s, h) = (m.callbacks, m.screen, s, goes_through step scrolls es m q h)

-- the events of a call of the reader
pub goes_reported : {C : Type 0} {step : C → ScreenView → Call → C → ScreenView → Type 0}
    {scrolls : C → RowView → Bool → C → Type 0} {r : Parser 1024} {p : WrappedScreen C} {bytes : List ℕ}
    {q : WrappedScreen C} → Reported (Steps step scrolls) 1024 r p bytes q → (past : List ℕ) → IsAfter 1024 r past
    → GoesThrough step scrolls (events_added past bytes) p.callbacks p.screen q.callbacks q.screen
unfolding added
goes_reported {C} {step} {scrolls} {r} {p} {bytes} {q} t past state_after =
    subst (λ (es : List Event). GoesThrough step scrolls es p.callbacks p.screen q.callbacks q.screen)
    (added-is 1024 past bytes t.reported (t.added past state_after)) (goes_through step scrolls t.reported p q
    t.performed)

-- ---- what acts make

played_append : (xs ys : List Event) (s : State) → played (xs ++ ys) s ≡ played ys (played xs s)
played_append [] ys s = refl
played_append (x ∷ xs) ys s = played_append xs ys (effect x s).state

feeds_after : (past : List ℕ) (s : State) (a b : List ℕ) → played (events_added past (a ++ b)) s
    ≡ played (events_added (past ++ a) b) (played (events_added past a) s)
unfolding added
feeds_after past s a b =
    rw (added-append 1024 past a b) (played_append (events_added past a) (events_added (past ++ a) b) s)

pub feeds_join : FeedsJoin
feeds_join past s a b acts = rw (feeds_after past s a b, append_assoc past a b) refl

pub feeds_nothing : FeedsNothing
unfolding added
feeds_nothing past s acts =
    ap (λ (p : List ℕ). made_on p (played (events_added past []) s) acts) (append-nil past)
    ∙ ap (λ (es : List Event). made_on past (played es s) acts) (added-none 1024 past)

made_after : (past : List ℕ) (s : State) (acts more : List Act)
    → made_on past s (acts ++ more) ≡ made_on (past ++ bytes_fed acts) (made_on past s acts) more
made_after past s [] more = ap (λ (p : List ℕ). made_on p s more) (sym (append-nil past))
made_after past s (Fed bs ∷ acts) more =
    rw (← append_assoc past bs (bytes_fed acts)) (made_after (past ++ bs) (played (events_added past bs) s) acts more)
made_after past s (Resized rows cols ∷ acts) more = made_after past (resized_to rows cols s).state acts more

pub acts_follow : ActsFollow
acts_follow rows cols capacity acts more = made_after [] _ acts more

bytes_after : (acts more : List Act) → bytes_fed (acts ++ more) ≡ bytes_fed acts ++ bytes_fed more
bytes_after [] more = refl
bytes_after (Fed bs ∷ acts) more = ap (λ (p : List ℕ). bs ++ p) (bytes_after acts more)
    ∙ sym (append_assoc bs (bytes_fed acts) (bytes_fed more))
bytes_after (Resized rows cols ∷ acts) more = bytes_after acts more

fine-limits : (l : Limits) (g h : GridView) → IsUnscrolledSheet l g → IsUnscrolledSheet l h → SameLimits g h
fine-limits l g h p q = record {
  height = q.height ∙ sym p.height;
  width = q.width ∙ sym p.width;
  kept = record { keeps = q.keeps ∙ sym p.keeps; capacity = q.capacity ∙ sym p.capacity };
}

well-bounds : (b : Bounds) (s t : State) → IsUnscrolledState b s → IsUnscrolledState b t → SameBounds s t
well-bounds b s t p q = record {
  main = fine-limits (limits b false) (main_sheet s) (main_sheet t) (main-fine b s p) (main-fine b t q);
  alternate = fine-limits (limits b true) (alternate_sheet s) (alternate_sheet t) (alternate-fine b s p)
      (alternate-fine b t q);
}

module _ {C : Type 0} (step : C → ScreenView → Call → C → ScreenView → Type 0)
    (scrolls : C → RowView → Bool → C → Type 0) (keeps : KeepsScreens step) where
  -- ---- callbacks that leave the screen as it is

  tells_keeps : (c : C) (v : ScreenView) (ks : List Call) (d : C) (w : ScreenView) → MakesCalls step c v ks d w → w ≡ v
  tells_keeps c v [] d w h = h.1
  tells_keeps c v (k ∷ ks) d w h = elim (cases_Bool v.failed) [
    | inl f ↦ (rw f at h).1 ∙ sym (λ i. record { state = v.state; failed = f i })
    | inr f ↦
        let q = rw f at h in
        tells_keeps q.0 q.1 ks d w q.3 ∙ keeps c (alive v.state) k q.0 q.1 q.2 ∙ sym (is_alive v f)
  ]

  failed_same : (es : List Event) (c : C) (v : ScreenView) (d : C) (w : ScreenView) → v.failed ≡ true
      → GoesThrough step scrolls es c v d w → w ≡ v
  failed_same [] c v d w h g = g.1
  failed_same (e ∷ es) c v d w h (b, u, one, more) =
      failed_same es b u d w (ap (λ (x : ScreenView). x.failed) (one.dead h).1 ∙ h) more ∙ (one.dead h).1

  one_played : (e : Event) (c : C) (v : ScreenView) (d : C) (w : ScreenView) → v.failed ≡ false
      → Goes step scrolls e c v d w → w.failed ≡ false → w ≡ alive (effect e v.state).state
  one_played e c v d w h g live =
      elim (g.live h) [
        | inl a ↦ tells_keeps a.0 (alive (effect e v.state).state) (effect e v.state).calls d w a.2
        | inr x ↦ absurd (false≢true (sym live ∙ x.failed))
      ]

  pub all_played : (es : List Event) (c : C) (v : ScreenView) (d : C) (w : ScreenView) → v.failed ≡ false
      → GoesThrough step scrolls es c v d w → w.failed ≡ false → w ≡ alive (played es v.state)
  all_played [] c v d w h g live = g.1 ∙ is_alive v h
  all_played (e ∷ es) c v d w h (b, u, one, more) live =
      elim (cases_Bool u.failed) [
        | inl f ↦ absurd (false≢true (sym live ∙ rw (failed_same es b u d w f more) f))
        | inr f ↦ all_played es b u d w f more live
            ∙ ap (λ (x : ScreenView). alive (played es x.state)) (one_played e c v b u h one f)
      ]

  -- ---- the state of a parser

  pub state_after_fed : (p q : ParserView C) (bytes : List ℕ)
      → ((past : List ℕ) → IsAfter 1024 p.reader past → IsAfter 1024 q.reader (past ++ bytes))
      → ((past : List ℕ) → IsAfter 1024 p.reader past
      → GoesThrough step scrolls (events_added past bytes) p.callbacks p.screen q.callbacks q.screen)
      → q.screen.failed ≡ false → (rows cols capacity : ℕ) (acts : List Act) → ParserIsAfter p rows cols capacity acts
      → ParserIsAfter q rows cols capacity (acts ++ Fed bytes ∷ [])
  state_after_fed p q bytes reads goes live rows cols capacity acts at =
      let past = bytes_fed acts in
      let alive_there = ap (λ (x : ScreenView). x.failed) at.screen in
      let shown = all_played (events_added past bytes) p.callbacks p.screen q.callbacks q.screen
      alive_there (goes past at.has_read) live
      ∙ ap (λ (x : ScreenView). alive (played (events_added past bytes) x.state)) at.screen in
      record {
        has_read = rw (bytes_after acts (Fed bytes ∷ []), append-nil) (reads past at.has_read);
        screen = shown ∙ ap alive (sym (acts_follow rows cols capacity acts (Fed bytes ∷ [])));
      }

  -- ---- sheets keep their bounds

  -- an event after which the screen has failed
  one_failed : (e : Event) (c : C) (v : ScreenView) (d : C) (w : ScreenView) → v.failed ≡ false
      → Goes step scrolls e c v d w → w.failed ≡ true
      → Fails scrolls (may_allocate e v.state) (effect e v.state).reports c v d w
  one_failed e c v d w h g failed =
      elim (g.live h) [
        | inl a ↦
            let is = tells_keeps a.0 (alive (effect e v.state).state) (effect e v.state).calls d w a.2 in
            absurd (false≢true (rw is at failed))
        | inr x ↦ x
      ]

  events_bounded : (b : Bounds) (es : List Event) → All IsReported es → (c : C) (v : ScreenView) (d : C)
      (w : ScreenView)
      → v.failed ≡ false → IsUnscrolledState b v.state → GoesThrough step scrolls es c v d w
      → SameBounds v.state w.state
  events_bounded b [] reported c v d w h well g = rw g.1 (bounds_same v.state)
  events_bounded b (e ∷ es) reported c v d w h well (m, u, one, more) =
      elim (cases_Bool u.failed) [
        | inl f ↦ rw (failed_same es m u d w f more) (one_failed e c v m u h one f).bounds
        | inr f ↦
            let is = ap (λ (x : ScreenView). x.state) (one_played e c v m u h one f) in
            let next : IsUnscrolledState b u.state = rw is (effect-well e (All-head IsReported e es reported) b v.state
            well) in
            bounds_trans v.state u.state w.state (well-bounds b v.state u.state well next)
            (events_bounded b es (All-tail IsReported e es reported) m u d w f next more)
      ]

  pub fed_bounded : (p : ParserView C) (q : WrappedScreen C) (bytes : List ℕ) → Reported (Steps step scrolls) 1024
      p.reader
      (record { screen = p.screen; callbacks = p.callbacks }) bytes q
      → (rows cols capacity : ℕ) (acts : List Act) → AreActs rows cols capacity acts
      → ParserIsAfter p rows cols capacity acts → SameBounds p.screen.state q.screen.state
  fed_bounded p q bytes reported rows cols capacity acts are at =
      let past = bytes_fed acts in
      let b = bounded (first_bounds rows cols capacity) acts in
      let well : IsUnscrolledState b p.screen.state = rw at.screen (made-well rows cols capacity acts are) in
      events_bounded b (events_added past bytes) (added-reported past bytes) p.callbacks p.screen q.callbacks q.screen
      (ap (λ (x : ScreenView). x.failed) at.screen) well
      (goes_reported reported past at.has_read)

  -- ---- where memory may be taken

  pub some_taken : (es : List Event) (c : C) (v : ScreenView) (d : C) (w : ScreenView) → v.failed ≡ false
      → GoesThrough step scrolls es c v d w → w.failed ≡ true → some_may_allocate es v.state ≡ true
  some_taken [] c v d w h g failed =
      absurd (false≢true (sym h ∙ sym (ap (λ (x : ScreenView). x.failed) g.1) ∙ failed))
  some_taken (e ∷ es) c v d w h (b, u, one, more) failed =
      let rest = some_may_allocate es (effect e v.state).state in
      elim (cases_Bool u.failed) [
        | inl f ↦ ap (λ (x : Bool). x || rest) (one_failed e c v b u h one f).is_allocating
        | inr f ↦
            let is = ap (λ (x : ScreenView). x.state) (one_played e c v b u h one f) in
            ap (λ (x : Bool). may_allocate e v.state || x) (ap (some_may_allocate es) (sym is)
            ∙ some_taken es b u d w f more failed) ∙ or-true (may_allocate e v.state)
      ]

pub plays_events : PlaysEvents
plays_events es s w g live = all_played (λ c x k d y. x ≡ y) (λ c r a d. c ≡ d) (λ c v k d w h. sym h) es tt
    (alive s) tt w refl g live

pub feeds_make : FeedsMake
feeds_make past bytes s w g live = plays_events (events_added past bytes) s w g live

pub state_after_resized : {C : Type 0} (p q : ParserView C) (height width : ℕ) → q.reader ≡ p.reader
    → q.screen ≡ alive (resized_to height width p.screen.state).state
    → (rows cols capacity : ℕ) (acts : List Act) → ParserIsAfter p rows cols capacity acts
    → ParserIsAfter q rows cols capacity (acts ++ Resized height width ∷ [])
state_after_resized p q height width reader screen rows cols capacity acts at = record {
  has_read = rw (bytes_after acts (Resized height width ∷ []), append-nil, reader) at.has_read;
  screen = screen ∙ ap (λ (x : ScreenView). alive (resized_to height width x.state).state) at.screen
      ∙ ap alive (sym (acts_follow rows cols capacity acts (Resized height width ∷ [])));
}

pub resized_state_after : {C : Type 0} (scrolls : C → RowView → Bool → C → Type 0) (p q : ParserView C)
    (height width : ℕ)
    (result : Result (Unit {0}) ScreenError) → q.reader ≡ p.reader
    → Tries scrolls (resized_to height width) p.screen p.callbacks result q.screen q.callbacks
    → (rows cols capacity : ℕ) (acts : List Act) → ParserIsAfter p rows cols capacity acts
    → OnOk result (ParserIsAfter q rows cols capacity (acts ++ Resized height width ∷ []))
resized_state_after scrolls p q height width (Ok u) reader t rows cols capacity acts at =
    state_after_resized p q height width reader t.screen rows cols capacity acts at
resized_state_after scrolls p q height width (Err e) reader t rows cols capacity acts at = tt

pub put_in : ResizedScreensArePutIn
put_in p w height width rows cols capacity acts at screen =
    state_after_resized p (record p { screen = w }) height width refl screen rows cols capacity acts at
