-- Callbacks to which a sink reports rows, and calls of a screen that succeed or in which an allocation fails.
use Rattle.std.proofs.Common.{◌≡◌, ◌∙◌, ℕ, Bool, true, false, List, [], ◌∷◌, ◌++◌, refl, ap, sym, subst, append-nil}
use Rattle.std.proofs.Common.{nat_lt}
use Rattle.std.proofs.Common.{Ok, Err, Result, OnOk, OnErr, arith, inl, inr, not, nat_le, ◌-◌, ◌^◌, ◌<◌, ◌==◌, ◌&&◌}
use Rattle.std.proofs.Common.{◌||◌}
use Rattle.std.specs.Prelude.{IsOk, IsErr}
use Rattle.std.proofs.lemmas.Bool.Decides.{nat_tests}
use Rattle.std.proofs.lemmas.Bool.{cases_Bool, false≢true}
use Rattle.vt100_rows.specs.Row.{RowView}
use Rattle.vt100_forms.proofs.ChangeLemmas.{on_ok}
use Rattle.vt100_rows.specs.Sink.{TakesAll}
use Rattle.vt100_rows.proofs.TextLemmas.{on-err}
use Rattle.vt100_core.specs.Grid.{GridView, IsAllocated, SameLimits}
use Rattle.vt100_core.specs.Scroll.{Scrolled, ScrollsNoneOff}
use Rattle.screen_model.specs.State.{State}
use Rattle.screen_model.specs.Step.{Report, Stepped, reports_of}
use Rattle.screen_model.specs.Call.{ScreenView, Receives}
use Rattle.vt100.specs.Draws.{Draws}
use Rattle.vt100.specs.Tries.{MayScroll, Tries, ReceivesPrefix, alive}
use Rattle.vt100.specs.declared.error.ScreenError.{ScreenError}
use Rattle.vt100.specs.declared.error.ScreenError.TheVariants.{Memory}
use Rattle.vt100.specs.declared.screen.reported.Reporter.{Reporter}
use Rattle.vt100.specs.declared.screen.wrapped.WrappedScreen.{WrappedScreen}
use Rattle.vt100.proofs.LimitsLemmas.{bounds_drawn}

at-err : {T E P : Type 0} (r : Result T E) → IsErr r → OnErr r P → P
at-err (Ok x) e h = absurd (false≢true e)
at-err (Err x) e h = h

not-ok : {T E P : Type 0} (r : Result T E) → IsErr r → IsOk r → P
not-ok (Ok x) e h = absurd (false≢true e)
not-ok (Err x) e h = absurd (false≢true h)

pub ok-along : {T E U F : Type 0} (answer : Result T E) (result : Result U F) → OnErr result (IsErr answer)
    → IsOk answer
    → IsOk result
ok-along answer (Ok x) refused done = refl
ok-along answer (Err e) refused done = not-ok answer refused done

-- what a reporter does with a row
abbrev pub Reports : {C : Type 0} → (C → RowView → Bool → C → Type 0) → Reporter C → RowView → Reporter C → Type 0
Reports scrolls s v t = scrolls s.callbacks.now v s.alternate_screen t.callbacks.now
    × (t.alternate_screen ≡ s.alternate_screen) × (t.callbacks.ghost_name ≡ s.callbacks.ghost_name)

module _ {C : Type 0} (scrolls : C → RowView → Bool → C → Type 0) where
  -- the callbacks of a reporter get the rows, and stay where they are
  pub receives_all : (s : Reporter C) (rows : List RowView) (t : Reporter C) → TakesAll (Reports scrolls) s rows t
      → Receives scrolls s.callbacks.now (reports_of s.alternate_screen rows) t.callbacks.now
      × (t.callbacks.ghost_name ≡ s.callbacks.ghost_name)
  receives_all s [] t h =
      (ap (λ (x : Reporter C). x.callbacks.now) h, ap (λ (x : Reporter C). x.callbacks.ghost_name) (sym h))
  receives_all s (v ∷ vs) t h =
      let rest = receives_all h.0 vs t h.2 in
      let later = subst (λ (a : Bool). Receives scrolls h.0.callbacks.now (reports_of a vs) t.callbacks.now) h.1.1
      rest.0 in
      ((h.0.callbacks.now, h.1.0, later), rest.1 ∙ h.1.2)

  -- one list of reports after another
  pub receives_append : (c : C) (xs ys : List Report) (b d : C) → Receives scrolls c xs b → Receives scrolls b ys d
      → Receives scrolls c (xs ++ ys) d
  receives_append c [] ys b d h k = subst (λ (x : C). Receives scrolls x ys d) (sym h) k
  receives_append c (x ∷ xs) ys b d h k = (h.0, h.1, receives_append h.0 xs ys b d h.2 k)

  -- all of some rows
  pub receives_whole : (c : C) (xs : List Report) (d : C) → Receives scrolls c xs d → ReceivesPrefix scrolls c xs d
  receives_whole c xs d h = (xs, [], sym (append-nil xs), h)

  -- ---- calls on a sheet

  pub draws_all : {A E : Type 0} {x : Scrolled} {g h : GridView} {s t : Reporter C} (result : Result A E)
      → OnOk result (h ≡ x.grid) → TakesAll (Reports scrolls) s x.sunk t → SameLimits g h
      → (g.kept.capacity ≡ 0 → IsOk result) → (ScrollsNoneOff g x.grid → IsOk result) → IsAllocated h
      → Draws scrolls x g s result h t
  draws_all {A} {E} {x} {g} {h} {s} {t} result is taken limits keeps stays some =
      let all = receives_all s x.sunk t taken in
      record {
        grid = is;
        same = all.1;
        receives = on_ok result (λ _. all.0);
        reported = on-err result (receives_whole s.callbacks.now (reports_of s.alternate_screen x.sunk) t.callbacks.now
            all.0);
        limits = limits;
        keeps_none = keeps;
        stays = stays;
        allocated = some;
      }

  -- ---- calls

  pub tries_ok : {A : Type 0} (f : State → Stepped) (v : ScreenView) (c : C) (a : A) (w : ScreenView) (d : C)
      → v.failed ≡ false → w ≡ alive (f v.state).state → Receives scrolls c (f v.state).reports d
      → Tries scrolls f v c (Ok a) w d
  tries_ok f v c a w d live screen receives = record {
    live = live;
    screen = screen;
    receives = receives;
    memory = λ e. cc;
    reported = λ e. cc;
    refused = λ e. cc;
    dead = λ e. absurd (false≢true (sym live ∙ e));
  }

  -- the screen has failed, and the callbacks got only a prefix of the rows
  pub tries_prefix : {A : Type 0} (f : State → Stepped) (v : ScreenView) (c : C) (w : ScreenView) (d : C)
      → v.failed ≡ false → w.failed ≡ true → ReceivesPrefix scrolls c (f v.state).reports d
      → Tries {A = A} scrolls f v c (Err Memory) w d
  tries_prefix f v c w d live failed reported = record {
    live = tt;
    screen = tt;
    receives = tt;
    memory = λ _. failed;
    reported = λ _. reported;
    refused = λ e. cc;
    dead = λ e. absurd (false≢true (sym live ∙ e));
  }

  -- after a call on the shown sheet
  pub scroll_refused : {A E : Type 0} {c d : C} {h : GridView} {failed : Bool} (f : State → Stepped) (v : ScreenView)
      (answer : Result A E) → v.failed ≡ false → failed ≡ true → IsErr answer
      → OnErr answer (ReceivesPrefix scrolls c (f v.state).reports d) → SameLimits v.state.shown h
      → (v.state.shown.kept.capacity ≡ 0 → IsOk answer)
      → (ScrollsNoneOff v.state.shown (f v.state).state.shown → IsOk answer)
      → MayScroll scrolls f (record { screen = v; callbacks = c }) (Err Memory)
      (record { screen = record { state = record (v.state) { shown = h }; failed = failed }; callbacks = d })
  scroll_refused {A} {E} {c} {d} {h} f v answer live failed refused reported limits keeps stays = record {
    tries = tries_prefix f v c _ d live failed (at-err answer refused reported);
    bounds = bounds_drawn v.state h v.state.last limits;
    keeps_none = λ _ none. not-ok answer refused (keeps none);
    stays = λ _ none. not-ok answer refused (stays none);
  }

  -- a call by which rows may leave, stated otherwise
  pub scroll_as : {f : State → Stepped} {p q : WrappedScreen C} {result : Result (Unit {0}) ScreenError}
      (g : State → Stepped) → f p.screen.state ≡ g p.screen.state → MayScroll scrolls f p result q
      → MayScroll scrolls g p result q
  scroll_as {f} {p} {q} {result} g e x =
      let t = x.tries in
      record {
        tries = record {
          live = t.live;
          screen = subst (λ (u : Stepped). OnOk result (q.screen ≡ alive u.state)) e t.screen;
          receives = subst (λ (u : Stepped). OnOk result (Receives scrolls p.callbacks u.reports q.callbacks)) e
              t.receives;
          memory = t.memory;
          reported = λ m. subst (λ (u : Stepped). ReceivesPrefix scrolls p.callbacks u.reports q.callbacks) e
              (t.reported m);
          refused = t.refused;
          dead = t.dead;
        };
        bounds = x.bounds;
        keeps_none = x.keeps_none;
        stays = λ live none. x.stays live
            (subst (λ (u : Stepped). ScrollsNoneOff p.screen.state.shown u.state.shown) (sym e) none);
      }

some-kept : (n : ℕ) → (n ≡ 0 → ⊥) → nat_lt 0 n ≡ true
some-kept n h = grind (arith, nat_tests)

-- a count goes from n to m where at most `capacity` rows are kept
abbrev pub grows : ℕ → ℕ → ℕ → Bool
grows capacity n m = nat_lt 0 capacity && (not (m == n) || nat_le (2 ^ 64 - 1) n)

pub not_grown : (capacity n m : ℕ) → nat_lt 0 capacity ≡ true → grows capacity n m ≡ false
    → (n < 2 ^ 64 - 1) × (m ≡ n)
not_grown capacity n m some e = (grind (arith, nat_tests), grind (arith, nat_tests))

grown : (capacity n m : ℕ) → nat_lt 0 capacity ≡ true → ((n < 2 ^ 64 - 1) × (m ≡ n) → ⊥) → grows capacity n m ≡ true
grown capacity n m some h =
    elim (cases_Bool (grows capacity n m)) [
      | inl e ↦ e
      | inr e ↦ absurd (h (not_grown capacity n m some e))
    ]

-- a call that is refused only where a row is kept
pub refused_keeps : {A L : Type 0} (capacity n m : ℕ) (result : Result A ScreenError)
    → (L → capacity ≡ 0 → IsOk result) → (L → (n < 2 ^ 64 - 1) × (m ≡ n) → IsOk result) → L → result ≡ Err Memory
    → grows capacity n m ≡ true
refused_keeps {A} capacity n m result h k live e =
    let no = λ (ok : IsOk result). false≢true (subst (λ (r : Result A ScreenError). IsOk r) e ok) in
    grown capacity n m (some-kept capacity (λ none. no (h live none))) (λ none. no (k live none))
