-- Effects, from what the calls of a screen did.
use Rattle.std.proofs.Common.{◌≡◌, ◌∙◌, ℕ, Bool, true, false, List, [], ◌∷◌, Result, Ok, Err, OnErr, ap, refl, sym}
use Rattle.std.proofs.Common.{replicate, cond, ◌⊎◌, inl, inr, subst, length, arith, ◌<◌}
use Rattle.std.proofs.lemmas.Bool.{false≢true}
use Rattle.vt100_rows.specs.Row.{RowView}
use Rattle.screen_model.specs.State.{State}
use Rattle.screen_model.specs.Step.{Stepped, Partly}
use Rattle.screen_model.specs.Call.{Call, ScreenView, Receives, unhandled_escape}
use Rattle.screen_model.specs.Effect.{Effect, changes, steps, calling, partly, first, second, row_effect, plain_effect}
use Rattle.screen_model.specs.Effect.{plain_rows, private_rows, other_rows, escape_effect}
use Rattle.screen_model.specs.Lookup.{lookup}
use Rattle.vt100.specs.declared.error.ScreenError.{ScreenError}
use Rattle.vt100.specs.declared.error.ScreenError.TheVariants.{Memory, Failed}
use Rattle.vt100_rows.proofs.TextLemmas.{on-err}
use Rattle.vt100.specs.declared.screen.wrapped.WrappedScreen.{WrappedScreen}
use Rattle.vt100.specs.Memory.{keeps_row, plain_may_allocate, private_may_allocate}
use Rattle.vt100.specs.Tries.{Changes, MayScroll, Tries, TriesParts, Counts, SameBounds, alive}
use Rattle.vt100.specs.Goes.{Either, MakesCalls, Acts, Fails, Does}
use Rattle.vt100.proofs.ReceiveLemmas.{refused_keeps}

pub is_alive : (v : ScreenView) → v.failed ≡ false → v ≡ alive v.state
is_alive v h = λ i. record { state = v.state; failed = h i }

-- ---- calls one after another

pub tells_failed : {C : Type 0} (step : C → ScreenView → Call → C → ScreenView → Type 0) (c : C) (v : ScreenView)
    (ks : List Call) → v.failed ≡ true → MakesCalls step c v ks c v
tells_failed step c v [] h = (refl, refl)
tells_failed step c v (k ∷ ks) h = rw h (refl, refl)

pub tells_more : {C : Type 0} (step : C → ScreenView → Call → C → ScreenView → Type 0) (c : C) (v : ScreenView)
    (k : Call) (ks : List Call) (b : C) (u : ScreenView) (d : C) (w : ScreenView) → v.failed ≡ false → step c v k b u
    → MakesCalls step b u ks d w → MakesCalls step c v (k ∷ ks) d w
tells_more {C} step c v k ks b u d w h one more =
    subst (λ (x : Bool). Either x ((d ≡ c) × (w ≡ v)) ((a : C) × (z : ScreenView) × step c v k a z
    × MakesCalls step a z ks d w)) (sym h) (b, u, one, more)

module _ {C : Type 0} {step : C → ScreenView → Call → C → ScreenView → Type 0}
    {scrolls : C → RowView → Bool → C → Type 0} where
  -- ---- what is done at once

  -- a call that changes the state
  pub does_change : {t : Bool} {f : State → State} {p q : WrappedScreen C} → Changes f p q
      → Does step scrolls (λ s. changes (f s)) t p.callbacks p.screen q.callbacks q.screen
  does_change {t} {f} {p} x =
      let is = λ (b : Bool) (e : p.screen.failed ≡ b).
      x.screen ∙ ap (λ (b : Bool). cond b p.screen (alive (f p.screen.state))) e in
      record { dead = λ e. (x.callbacks, is true e); live = λ e. inl (p.callbacks, refl, (x.callbacks, is false e)) }

  -- nothing
  pub does_nothing : {t : Bool} {c : C} {v : ScreenView} → Does step scrolls changes t c v c v
  does_nothing {t} {c} {v} = record { dead = λ e. (refl, refl); live = λ e. inl (c, refl, (refl, is_alive v e)) }

  -- anything, on a failed screen
  pub does_none : {t : Bool} {f : State → Effect} {c : C} {v : ScreenView} → v.failed ≡ true
      → Does step scrolls f t c v c v
  does_none h = record { dead = λ e. (refl, refl); live = λ e. absurd (false≢true (sym e ∙ h)) }

  -- what takes effect on a screen that hasn't failed
  pub does_live : {t : Bool} {c d : C} {v w : ScreenView} (f : State → Effect) → v.failed ≡ false
      → Acts step scrolls c (f v.state) d w ⊎ Fails scrolls t (f v.state).reports c v d w
      → Does step scrolls f t c v d w
  does_live f h x = record { dead = λ e. absurd (false≢true (sym h ∙ e)); live = λ _. x }

  -- ---- calls that may be refused

  pub does_steps : {A : Type 0} {t : Bool} {c d : C} {v w : ScreenView} (f : State → Stepped)
      (result : Result A ScreenError) → Tries scrolls f v c result w d → OnErr result (SameBounds v.state w.state)
      → (v.failed ≡ false → result ≡ Err Memory → t ≡ true) → Does step scrolls (λ s. steps (f s)) t c v d w
  does_steps {A} {t} {c} {d} f (Ok a) x k takes = record {
    dead = λ e. ((x.dead e).2, (x.dead e).1);
    live = λ e. inl (d, x.receives, (refl, x.screen));
  }
  does_steps f (Err Memory) x k takes = record {
    dead = λ e. ((x.dead e).2, (x.dead e).1);
    live = λ e. inr (record {
      is_allocating = takes e refl;
      failed = x.memory refl;
      bounds = k;
      reported = x.reported refl;
    });
  }
  does_steps f (Err Failed) x k takes = record {
    dead = λ e. ((x.dead e).2, (x.dead e).1);
    live = λ e. absurd (false≢true (sym e ∙ x.refused refl));
  }

  pub does_scroll : {f : State → Stepped} {p q : WrappedScreen C} {result : Result (Unit {0}) ScreenError}
      → MayScroll scrolls f p result q → Does step scrolls (λ s. steps (f s))
      (keeps_row p.screen.state (f p.screen.state).state) p.callbacks p.screen q.callbacks q.screen
  does_scroll {f} {p} {q} {result} x =
      does_steps f result x.tries (on-err result x.bounds)
      (refused_keeps p.screen.state.shown.kept.capacity p.screen.state.shown.kept.scrolled_off
      (f p.screen.state).state.shown.kept.scrolled_off result x.keeps_none x.stays)

  -- ---- calls

  -- a call, and then others
  does_calls : {t : Bool} {c d : C} {v w : ScreenView} (k : Call) (ks : List Call) (b : C) (u : ScreenView)
      → v.failed ≡ false → step c v k b u → MakesCalls step b u ks d w → Does step scrolls (calling (k ∷ ks)) t c v d w
  does_calls {t} {c} {d} {v} k ks b u h one more =
      does_live (calling (k ∷ ks)) h
      (inl (c, refl, (b, u, subst (λ (z : ScreenView). step c z k b u) (is_alive v h) one, more)))

  -- one call
  pub does_call : {t : Bool} {c d : C} {v w : ScreenView} (k : Call) → v.failed ≡ false → step c v k d w
      → Does step scrolls (calling (k ∷ [])) t c v d w
  does_call {t} {c} {d} {v} {w} k h one = does_calls k [] d w h one (refl, refl)

  -- two calls, the second unless the screen has failed by then
  pub does_two_calls : {t : Bool} {c d : C} {v w : ScreenView} (k l : Call) (b : C) (u : ScreenView) → v.failed ≡ false
      → step c v k b u → u.failed ≡ false → step b u l d w → Does step scrolls (calling (k ∷ l ∷ [])) t c v d w
  does_two_calls {t} {c} {d} {v} {w} k l b u h one live two =
      does_calls k (l ∷ []) b u h one (tells_more step b u l [] d w d w live two (refl, refl))

  pub does_first_call : {t : Bool} {c d : C} {v w : ScreenView} (k : Call) (ks : List Call) → v.failed ≡ false
      → step c v k d w → w.failed ≡ true → Does step scrolls (calling (k ∷ ks)) t c v d w
  does_first_call {t} {c} {d} {v} {w} k ks h one dead = does_calls k ks d w h one (tells_failed step d w ks dead)

  -- a call of which parts can be unknown, and then the calls that report these
  does_unhandled : {t : Bool} {c d : C} {v w : ScreenView} (f : State → Partly) (k : Call) (n : ℕ) (b : C)
      (u : ScreenView) → v.failed ≡ false → Receives scrolls c (f v.state).reports b → u ≡ alive (f v.state).state
      → n ≡ (f v.state).unhandled → MakesCalls step b u (replicate n k) d w → Does step scrolls (λ s. partly (f s) k) t
      c v d w
  does_unhandled f k n b u h receives screen count calls =
      does_live (λ s. partly (f s) k) h (inl (b, receives, rw (count, screen) at calls))

  pub does_counts : {t : Bool} {c b d : C} {v u w : ScreenView} {n : ℕ} {f : State → Partly} (k : Call)
      → v.failed ≡ false → Counts scrolls f v c n u b → MakesCalls step b u (replicate n k) d w
      → Does step scrolls (λ s. partly (f s) k) t c v d w
  does_counts {t} {c} {b} {d} {v} {u} {w} {n} {f} k h x calls =
      does_unhandled f k _ _ _ h (x.receives h) (x.screen h) (x.count h) calls

  pub does_parts : {t : Bool} {c b d : C} {v u w : ScreenView} {n : ℕ} {f : State → Partly} (k : Call)
      → v.failed ≡ false → TriesParts scrolls f v c (Ok n) u b → MakesCalls step b u (replicate n k) d w
      → Does step scrolls (λ s. partly (f s) k) t c v d w
  does_parts {t} {c} {b} {d} {v} {u} {w} {n} {f} k h x calls =
      does_unhandled f k _ _ _ h x.tries.receives x.tries.screen x.count calls

  -- the same effect, stated otherwise
  pub does_as : {t : Bool} {g : State → Effect} {c d : C} {v w : ScreenView} (f : State → Effect)
      → f v.state ≡ g v.state → Does step scrolls f t c v d w → Does step scrolls g t c v d w
  does_as {t} {g} {c} {d} {v} {w} f same x = record {
    dead = x.dead;
    live = λ e. subst (λ (y : Effect). Acts step scrolls c y d w ⊎ Fails scrolls t y.reports c v d w) same (x.live e);
  }

  -- the same, where memory may be taken alike
  pub does_where : {t u : Bool} {f : State → Effect} {c d : C} {v w : ScreenView} → t ≡ u
      → Does step scrolls f t c v d w → Does step scrolls f u c v d w
  does_where e x = rw e at x

  -- ---- rows of tables

  pub plain_does : {a b : ℕ} {c d : C} {v w : ScreenView} (gs : List (List ℕ)) → a ≡ b
      → Does step scrolls (plain_effect (lookup b plain_rows) gs b) (plain_may_allocate gs b v.state) c v d w
      → Does step scrolls (plain_effect (lookup a plain_rows) gs a) (plain_may_allocate gs a v.state) c v d w
  plain_does gs e x = rw e x

  pub private_does : {a b : ℕ} {c d : C} {v w : ScreenView} (gs : List (List ℕ)) (k : Call) → a ≡ b
      → Does step scrolls (row_effect (lookup b private_rows) gs k) (private_may_allocate gs b v.state) c v d w
      → Does step scrolls (row_effect (lookup a private_rows) gs k) (private_may_allocate gs a v.state) c v d w
  private_does gs k e x = rw e x

  pub other_does : {t : Bool} {a b : ℕ} {c d : C} {v w : ScreenView} (gs : List (List ℕ)) (k : Call) → a ≡ b
      → Does step scrolls (row_effect (lookup b other_rows) gs k) t c v d w
      → Does step scrolls (row_effect (lookup a other_rows) gs k) t c v d w
  other_does gs k e x = rw e x

pub escape_more : (ms : List ℕ) (b : ℕ) (s : State) → 0 < length ms
    → calling (unhandled_escape (first ms) (second ms) b ∷ []) s ≡ escape_effect ms b s
escape_more [] b s h = absurd (omega arith)
escape_more (m ∷ ms) b s h = refl
