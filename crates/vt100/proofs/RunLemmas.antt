-- Characters that are printed at once, as event by event.
use Rattle.std.proofs.Common.{◌≡◌, ◌∙◌, ◌^◌, ◌<◌, ◌==◌, ℕ, zero, Bool, true, false, cond, List, [], ◌∷◌, ◌++◌, ap}
use Rattle.std.proofs.Common.{sym}
use Rattle.std.proofs.Common.{Option, Some, Result, Ok, Err, OnOk, OnErr, length, map, refl, subst, inl, inr, arith}
use Rattle.std.proofs.Common.{nat_lt, get_or, take, drop, ◌⊎◌, ◌&&◌, ◌||◌, ◌≤◌, not, append_assoc, append-nil}
use Rattle.std.specs.Prelude.{All, IsOk}
use Rattle.std.specs.Char.{encode_utf8}
use Rattle.std.specs.Str.{IsUtf8, chars}
use Rattle.std.proofs.lemmas.Grind.{common_steps}
use Rattle.std.proofs.lemmas.Str.{chars_past_char, chars-IsAscii, chars-nil}
use Rattle.vte_core.proofs.Telling.{performs-append, same_events}
use Rattle.std.proofs.lemmas.Bool.{cases_Bool, and_parts}
use Rattle.std.proofs.lemmas.Bool.Decides.{nat_tests}
use Rattle.std.proofs.lemmas.List.{map-append, map-id}
use Rattle.std.proofs.lemmas.List.Elements.{All-drop, All-map}
use Rattle.printable.specs.Printable.{IsPrintable}
use Rattle.vt100_cells.specs.Cell.{columns_of, drawn_columns, is_undrawable}
use Rattle.vt100_cells.specs.Runs.{IsShown}
use Rattle.vt100_cells.proofs.WidthLemmas.{drawn-is}
use Rattle.vt100_forms.specs.declared.attrs.Attrs.{Attrs}
use Rattle.vt100_rows.specs.Row.{RowView}
use Rattle.vt100_rows.specs.Sink.{TakesAll}
use Rattle.vt100_core.specs.Grid.{IsKept, GridView, IsAllocated, SameLimits}
use Rattle.vt100_core.specs.Scroll.{ScrollsNoneOff}
use Rattle.vt100_core.specs.Text.{PrintedGrid, printed, spaced, printed_all, TakesPrefix}
use Rattle.vt100_core.specs.declared.printed.Printed.{Printed}
use Rattle.vt100_cells.proofs.GlyphLemmas.{columns-fit, some-column}
use Rattle.vt100_core.proofs.TextLemmas.{IsMade-made, printed-spaced}
use Rattle.vt100_core.proofs.CountLemmas.{Counts, Counts-map, Counts-trans, counts-same, counts-printed}
use Rattle.screen_model.specs.State.{State, IsState}
use Rattle.screen_model.specs.Step.{Report, Stepped, reports_of, typed, last_after}
use Rattle.screen_model.specs.Call as said
use Rattle.screen_model.specs.Call.{Call, ScreenView, Receives}
use Rattle.screen_model.specs.Effect.{is_unhandled, calling, steps}
use Rattle.vte_core.specs.Event.{Event, Print, Performs}
use Rattle.vt100.specs.declared.error.ScreenError.{ScreenError}
use Rattle.vt100.specs.declared.error.ScreenError.TheVariants.{Memory, Failed}
use Rattle.vt100.specs.declared.screen.wrapped.WrappedScreen.{WrappedScreen}
use Rattle.vt100.specs.Memory.{keeps_row}
use Rattle.vt100.specs.Tries.{MayScroll, SameBounds, ReceivesPrefix, alive}
use Rattle.vt100.specs.Goes.{Fails, Goes, GoesThrough, Steps}
use Rattle.vt100.specs.Runs.{IsHandled, typed_all, last_of, PrintsPrefix}
use Rattle.vt100.specs.Draws.{Draws}
use Rattle.vt100.specs.declared.screen.reported.Reporter.{Reporter}
use Rattle.vt100.proofs.ReceiveLemmas.{Reports, receives_all, receives_whole, draws_all, scroll_as, refused_keeps}
use Rattle.vt100.proofs.ReceiveLemmas.{not_grown}
use Rattle.printable.proofs.PrintableLemmas.{printable-ascii, printable-chars}
use Rattle.vt100.proofs.EventLemmas.{is_alive, does_as, does_live, does_none, does_where}
use Rattle.vt100.proofs.LimitsLemmas.{bounds_typed, bounds_back, capacity_typed}

-- ---- a character that has a cell of its own

-- on a sheet of w columns
pub record IsSpacing (w c : ℕ) : Type 0 where
  pub drawn : is_undrawable c ≡ false
  pub some : 0 < columns_of c
  pub fits : columns_of c ≤ w

spacing : (w n c : ℕ) → 0 < n → n ≤ w → (is_undrawable c ≡ false) × (columns_of c ≡ n) → IsSpacing w c
spacing w n c some fits h = record { drawn = h.0; some = omega (arith, h.1); fits = omega (arith, h.1) }

-- characters of n columns each, in some form
pub run-spacing : {X : Type 0} (code : X → ℕ) (takes : X → Type 0) (n w : ℕ) → (n ≡ 1) ⊎ (n ≡ 2) → 0 < w
    → (n ≡ 2 → 2 ≤ w) → ((x : X) → takes x → drawn_columns (code x) ≡ Some n) → (xs : List X) → All takes xs
    → All (IsSpacing w) (map code xs)
run-spacing code takes n w o some room drawn xs p =
    All-map (IsSpacing w) code xs (λ k d l. spacing w n _ (some-column n o) (columns-fit n w o room some)
    (drawn-is _ n (drawn _ (p k d l))))

not-dropped : (u : Bool) (k w col : ℕ) → u ≡ false → 0 < k → k ≤ w
    → (u || (nat_lt w k || ((k == 0) && (col == 0)))) ≡ false
not-dropped u k w col eu some fits = grind (arith, nat_tests)

printed-spacing : (g : GridView) (c : ℕ) (a : Attrs) → IsSpacing g.width c → printed g c a ≡ spaced g c a
printed-spacing g c a s =
    printed-spaced g c a (not-dropped (is_undrawable c) (columns_of c) g.width g.col s.drawn s.some s.fits) s.some

-- a sheet stays as wide
width-printed : (g : GridView) (c : ℕ) (a : Attrs) → IsSpacing g.width c → (printed g c a).grid.width ≡ g.width
width-printed g c a s =
    ap (λ (d : PrintedGrid). d.grid.width) (printed-spacing g c a s) ∙ (IsMade-made g (columns_of c) true s.fits).width

-- ---- a run, as characters that are typed

-- a state with another shown sheet and another last character, and the rows that left
abbrev pub drawn_as : State → GridView → Option ℕ → List RowView → Stepped
drawn_as s g last sunk = record {
  state = record s { shown = g; last = last };
  reports = reports_of s.alternate sunk;
}

typed-spacing : (c : ℕ) (s : State) → IsSpacing s.shown.width c
    → typed c s ≡ drawn_as s (printed s.shown c s.attrs).grid (Some c) (printed s.shown c s.attrs).sunk
typed-spacing c s p =
    let d = printed s.shown c s.attrs in
    ap (λ (q : Printed). drawn_as s d.grid (last_after q c s.last) d.sunk)
    (ap (λ (x : PrintedGrid). x.printed) (printed-spacing s.shown c s.attrs p))

pub reports-append : (b : Bool) (xs ys : List RowView) → reports_of b xs ++ reports_of b ys ≡ reports_of b (xs ++ ys)
reports-append b [] ys = refl
reports-append b (x ∷ xs) ys =
    ap (λ (rs : List Report). record { row = x; alternate = b } ∷ rs) (reports-append b xs ys)

-- a run on the shown sheet
abbrev pub run_drawn : List ℕ → State → Stepped
run_drawn xs s = let d = printed_all s.shown xs s.attrs in drawn_as s d.grid (last_of xs s.last) d.sunk

abbrev then_typed : Stepped → List ℕ → Stepped
then_typed t xs = record { state = (typed_all xs t.state).state; reports = t.reports ++ (typed_all xs t.state).reports }

pub typed_all-is : (xs : List ℕ) (s : State) → All (IsSpacing s.shown.width) xs
    → typed_all xs s ≡ run_drawn xs s
typed_all-is [] s p = refl
typed_all-is (x ∷ xs) s p =
    let d = printed s.shown x s.attrs in
    let o = printed_all d.grid xs s.attrs in
    let one = drawn_as s d.grid (Some x) d.sunk in
    let wide : d.grid.width ≡ s.shown.width = width-printed s.shown x s.attrs (p zero 0 (omega arith)) in
    let more = typed_all-is xs one.state
    (subst (λ w. All (IsSpacing w) xs) (sym wide) (All-drop (IsSpacing s.shown.width) 1 (x ∷ xs) p)) in
    ap (λ (t : Stepped). then_typed t xs) (typed-spacing x s (p zero 0 (omega arith)))
    ∙ ap (λ (t : Stepped). let u : Stepped = record { state = t.state; reports = one.reports ++ t.reports } in u) more
    ∙ (λ i. record {
      state = record s { shown = o.grid; last = last_of xs (Some x) };
      reports = reports-append s.alternate d.sunk o.sunk i;
    })

-- the rows that leave while some characters are printed, and then others
sunk-append : (g : GridView) (xs ys : List ℕ) (a : Attrs) → (printed_all g (xs ++ ys) a).sunk
    ≡ (printed_all g xs a).sunk ++ (printed_all (printed_all g xs a).grid ys a).sunk
sunk-append g [] ys a = refl
sunk-append g (x ∷ xs) ys a =
    let first = printed g x a in
    let others = printed_all first.grid xs a in
    ap (λ (rows : List RowView). first.sunk ++ rows) (sunk-append first.grid xs ys a)
    ∙ sym (append_assoc first.sunk others.sunk (printed_all others.grid ys a).sunk)

pub printable-handled : (c : ℕ) → IsPrintable c → IsHandled c
printable-handled c p = grind (arith, nat_tests)

shown-handled : (c : ℕ) → IsShown c → IsHandled c
shown-handled c (inl h, known) = grind (arith, nat_tests)
shown-handled c (inr h, known) = grind (arith, nat_tests)

pub all-handled : (xs : List ℕ) → All IsShown xs → All IsHandled xs
all-handled xs p k d l = shown-handled (get_or xs k d) (p k d l)

module _ {C : Type 0} (scrolls : C → RowView → Bool → C → Type 0) where
  -- drawing a run is typing it
  pub run_scrolls : {p q : WrappedScreen C} {result : Result (Unit {0}) ScreenError} (xs : List ℕ)
      → All (IsSpacing p.screen.state.shown.width) xs → MayScroll scrolls (run_drawn xs) p result q
      → MayScroll scrolls (typed_all xs) p result q
  run_scrolls {p} xs is x = scroll_as scrolls (typed_all xs) (sym (typed_all-is xs p.screen.state is)) x

  -- a run on a sheet; at a refusal the callbacks got the rows that left while a prefix was printed
  pub draws_run : {A E : Type 0} {g h : GridView} {s t : Reporter C} (xs : List ℕ) (a : Attrs)
      (result : Result A E) → OnOk result (h ≡ (printed_all g xs a).grid)
      → OnOk result (TakesAll (Reports scrolls) s (printed_all g xs a).sunk t)
      → OnErr result (TakesPrefix (Reports scrolls) s g xs a t) → SameLimits g h
      → (g.kept.capacity ≡ 0 → IsOk result) → (ScrollsNoneOff g (printed_all g xs a).grid → IsOk result)
      → IsAllocated h → Draws scrolls (printed_all g xs a) g s result h t
  draws_run xs a (Ok u) is taken begun limits keeps stays some =
      draws_all scrolls (Ok u) is taken limits keeps stays some
  draws_run {A} {E} {g} {h} {s} {t} xs a (Err e) is taken begun limits keeps stays some =
      let prefix = printed_all g begun.0 a in
      let rest = printed_all prefix.grid begun.1 a in
      let reports = reports_of s.alternate_screen in
      let heard = receives_all scrolls s prefix.sunk t begun.3 in
      record {
        grid = tt;
        same = heard.1;
        receives = tt;
        reported = (
          reports prefix.sunk,
          reports rest.sunk,
          ap (λ (ys : List ℕ). reports (printed_all g ys a).sunk) begun.2
              ∙ ap reports (sunk-append g begun.0 begun.1 a)
              ∙ sym (reports-append s.alternate_screen prefix.sunk rest.sunk),
          heard.0,
        );
        limits = limits;
        keeps_none = keeps;
        stays = stays;
        allocated = some;
      }

  -- reports of two changes come one change after the other
  receives-split : (c : C) (xs ys : List Report) (d : C) → Receives scrolls c (xs ++ ys) d
      → (b : C) × Receives scrolls c xs b × Receives scrolls b ys d
  receives-split c [] ys d h = (c, refl, h)
  receives-split c (x ∷ xs) ys d h =
      let r = receives-split h.0 xs ys d h.2 in
      (r.0, (h.0, h.1, r.1), r.2)

  -- and of a prefix of both, which ends in the first of them, or has all of it
  prefix-split : (c : C) (xs ys : List Report) (d : C) → ReceivesPrefix scrolls c (xs ++ ys) d
      → ReceivesPrefix scrolls c xs d ⊎ ((b : C) × Receives scrolls c xs b × ReceivesPrefix scrolls b ys d)
  prefix-split c [] ys d h = inr (c, refl, h)
  prefix-split c (x ∷ xs) ys d ([], rest, e, h) = inl ([], x ∷ xs, refl, h)
  prefix-split c (x ∷ xs) ys d (f ∷ prefix, rest, e, h) =
      let heads : x ≡ f = cc in
      let tails : xs ++ ys ≡ prefix ++ rest = cc in
      elim (prefix-split h.0 xs ys d (prefix, rest, tails, h.2)) [
        | inl k ↦ inl (x ∷ k.0, k.1, ap (λ (rs : List Report). x ∷ rs) k.2, (h.0, rw heads h.1, k.3))
        | inr k ↦ inr (k.0, (h.0, rw heads h.1, k.1), k.2)
      ]

-- ---- how many rows scroll off, and which are reported

counts-typed : (c : ℕ) (s : State) → s.shown.kept.scrolled_off < 2 ^ 64
    → Counts s.shown.kept (typed c s).state.shown.kept (typed c s).reports
counts-typed c s h = Counts-map (λ v. record { row = v; alternate = s.alternate }) (counts-printed s.shown c s.attrs h)

counts-typed_all : (xs : List ℕ) (s : State) → s.shown.kept.scrolled_off < 2 ^ 64
    → Counts s.shown.kept (typed_all xs s).state.shown.kept (typed_all xs s).reports
counts-typed_all [] s h = counts-same s.shown.kept h
counts-typed_all (x ∷ xs) s h =
    let t = typed x s in
    let all = typed_all xs t.state in
    let first = counts-typed x s h in
    Counts-trans s.shown.kept t.state.shown.kept all.state.shown.kept t.reports all.reports first
    (counts-typed_all xs t.state first.on.bounded)

-- the shown sheet keeps rows
record IsKeeping (s : State) : Type 0 where
  some : nat_lt 0 s.shown.kept.capacity ≡ true
  keeps : s.shown.kept.keeps ≡ true
  few : s.shown.kept.scrolled_off < 2 ^ 64
  fits : length s.shown.kept.rows ≤ s.shown.kept.capacity

IsKeeping-typed : (c : ℕ) (s : State) → IsKeeping s → IsKeeping (typed c s).state
IsKeeping-typed c s k =
    let one = counts-typed c s k.few in
    record {
      some = ap (λ n. nat_lt 0 n) (capacity_typed c s) ∙ k.some;
      keeps = one.keeps ∙ k.keeps;
      few = one.on.bounded;
      fits = one.fits k.fits;
    }

not-zero : (n : ℕ) → nat_lt 0 n ≡ true → n ≡ 0 → ⊥
not-zero n e z = grind (arith, nat_tests)

IsKeeping-of : (s : State) → IsKept s.shown.kept → nat_lt 0 s.shown.kept.capacity ≡ true → IsKeeping s
IsKeeping-of s i some = record {
  some = some;
  keeps = elim (cases_Bool s.shown.kept.keeps) [
    | inl e ↦ e
    | inr e ↦ absurd (not-zero s.shown.kept.capacity some (i.none e).0)
  ];
  few = i.bounded;
  fits = i.fits;
}

-- of a row that is kept on the way from s by t to u, where none is kept up to t, or none from there on
late-keeps : (s t u : State) → t.shown.kept.capacity ≡ s.shown.kept.capacity
    → t.shown.kept.scrolled_off ≡ s.shown.kept.scrolled_off → keeps_row s u ≡ true → keeps_row t u ≡ true
late-keeps s t u e f h = rw (e, f) h

first-keeps : (s t u : State) → u.shown.kept.scrolled_off ≡ t.shown.kept.scrolled_off → keeps_row s u ≡ true
    → keeps_row s t ≡ true
first-keeps s t u e h = rw (← e) h

-- ---- a run, event by event

module _ {C : Type 0} (step : C → ScreenView → Call → C → ScreenView → Type 0)
    (scrolls : C → RowView → Bool → C → Type 0) where
  -- callbacks that got no rows are the same
  prefix-none : (c : C) (rows : List Report) (d : C) → rows ≡ [] → ReceivesPrefix scrolls c rows d → d ≡ c
  prefix-none c rows d e ([], rest, parts, h) = sym h
  prefix-none c rows d e (f ∷ prefix, rest, parts, h) = absurd (cc (sym e ∙ parts))

  -- one character of a run
  goes-typed : (ch : ℕ) (c : C) (v : ScreenView) (d : C) (w : ScreenView) → is_unhandled ch ≡ false → v.failed ≡ false
      → (Receives scrolls c (typed ch v.state).reports d × (w ≡ alive (typed ch v.state).state)) ⊎ Fails scrolls
      (keeps_row v.state (typed ch v.state).state) (typed ch v.state).reports c v d w → Goes step scrolls (Print ch) c v
      d w
  goes-typed ch c v d w p live h =
      does_where (ap (λ (b : Bool). not b && keeps_row v.state (typed ch v.state).state) (sym p))
      (does_as (λ t. steps (typed ch t))
      (ap (λ (b : Bool). cond b (calling (said.unhandled_char ch ∷ []) v.state) (steps (typed ch v.state))) (sym p))
      (does_live (λ t. steps (typed ch t)) live (elim h [
        | inl a ↦ inl (d, a.0, (refl, a.1))
        | inr f ↦ inr f
      ])))

  goes-failed : (xs : List ℕ) (c : C) (v : ScreenView) → v.failed ≡ true
      → GoesThrough step scrolls (map Print xs) c v c v
  goes-failed [] c v h = (refl, refl)
  goes-failed (x ∷ xs) c v h = (c, v, does_none h, goes-failed xs c v h)

  goes-run : (xs : List ℕ) (c : C) (v : ScreenView) (d : C) (w : ScreenView) → All IsHandled xs → v.failed ≡ false
      → Receives scrolls c (typed_all xs v.state).reports d → w ≡ alive (typed_all xs v.state).state
      → GoesThrough step scrolls (map Print xs) c v d w
  goes-run [] c v d w p live receives screen = (sym receives, screen ∙ sym (is_alive v live))
  goes-run (x ∷ xs) c v d w p live receives screen =
      let t = typed x v.state in
      let s = receives-split scrolls c t.reports (typed_all xs t.state).reports d receives in (
        s.0,
        alive t.state,
        goes-typed x c v s.0 (alive t.state) (p zero 0 (omega arith)) live (inl (s.1, refl)),
        goes-run xs s.0 (alive t.state) d w (All-drop IsHandled 1 (x ∷ xs) p) refl s.2 screen,
      )

  -- the screen fails at the first of some characters, where it is w then
  goes-here : (x : ℕ) (xs : List ℕ) (c : C) (v : ScreenView) (d : C) (w : ScreenView) → IsHandled x → v.failed ≡ false
      → w.failed ≡ true → keeps_row v.state (typed x v.state).state ≡ true → SameBounds v.state w.state
      → ReceivesPrefix scrolls c (typed x v.state).reports d → GoesThrough step scrolls (map Print (x ∷ xs)) c v d w
  goes-here x xs c v d w h live failed keeps bounds reported =
      let one : Fails scrolls (keeps_row v.state (typed x v.state).state) (typed x v.state).reports
      c v d w =
      record { is_allocating = keeps; failed = failed; bounds = bounds; reported = reported } in
      (d, w, goes-typed x c v d w h live (inr one), goes-failed xs d w failed)

  -- or at one of them, by which a row is kept: if the callbacks haven't got rows that leave by the others
  goes-refused : (x : ℕ) (xs : List ℕ) (c : C) (v : ScreenView) (d : C) (w : ScreenView) → All IsHandled (x ∷ xs)
      → v.failed ≡ false → w.failed ≡ true → IsKeeping v.state
      → keeps_row v.state (typed_all (x ∷ xs) v.state).state ≡ true → SameBounds v.state w.state
      → ReceivesPrefix scrolls c (typed_all (x ∷ xs) v.state).reports d
      → GoesThrough step scrolls (map Print (x ∷ xs)) c v d w
  goes-refused x [] c v d w p live failed k keeps bounds reported =
      goes-here x [] c v d w (p zero 0 (omega arith)) live failed keeps bounds (rw append-nil at reported)
  goes-refused x (y ∷ ys) c v d w p live failed k keeps bounds reported =
      let s = v.state in
      let t = typed x s in
      let all = typed_all (y ∷ ys) t.state in
      let handled = p zero 0 (omega arith) in
      let others = All-drop IsHandled 1 (x ∷ y ∷ ys) p in
      let one = counts-typed x s k.few in
      let more = counts-typed_all (y ∷ ys) t.state one.on.bounded in
      let next = IsKeeping-typed x s k in
      let later = bounds_back s t.state w.state (bounds_typed x s) bounds in
      elim (prefix-split scrolls c t.reports all.reports d reported) [
        | inl here ↦ elim (cases_Bool (keeps_row s t.state)) [
          | inl e ↦ goes-here x (y ∷ ys) c v d w handled live failed e bounds here
          | inr e ↦
              let none = not_grown s.shown.kept.capacity s.shown.kept.scrolled_off t.state.shown.kept.scrolled_off
              k.some e in
              let silent = one.quiet k.fits k.keeps none.0 none.1 in
              let same = prefix-none c t.reports d silent here in (
                c,
                alive t.state,
                goes-typed x c v c (alive t.state) handled live
                    (inl (subst (λ (rows : List Report). Receives scrolls c rows c) (sym silent) refl, refl)),
                goes-refused y ys c (alive t.state) d w others refl failed next
                    (late-keeps s t.state all.state (capacity_typed x s) none.1 keeps) later (
                      [],
                      all.reports,
                      refl,
                      sym
                          same,
                    ),
              )
        ]
        | inr h ↦ elim (cases_Bool (keeps_row t.state all.state)) [
          | inl e ↦ (
            h.0,
            alive t.state,
            goes-typed x c v h.0 (alive t.state) handled live (inl (h.1, refl)),
            goes-refused y ys h.0 (alive t.state) d w others refl failed next e later h.2,
          )
          | inr e ↦
              let none = not_grown t.state.shown.kept.capacity t.state.shown.kept.scrolled_off
              all.state.shown.kept.scrolled_off next.some e in
              let silent = more.quiet next.fits next.keeps none.0 none.1 in
              let same = prefix-none h.0 all.reports d silent h.2 in
              goes-here x (y ∷ ys) c v d w handled live failed (first-keeps s t.state all.state none.1 keeps) bounds
              (receives_whole scrolls c t.reports d (subst (λ (b : C). Receives scrolls c t.reports b) (sym same) h.1))
        ]
      ]

  -- a run, where the kept rows are such as a sheet's are
  pub goes-kept : (xs : List ℕ) {p q : WrappedScreen C} (result : Result (Unit {0}) ScreenError) → 0 < length xs
      → All IsHandled xs → (p.screen.failed ≡ false → IsKept p.screen.state.shown.kept)
      → MayScroll scrolls (typed_all xs) p result q
      → GoesThrough step scrolls (map Print xs) p.callbacks p.screen q.callbacks q.screen
  goes-kept xs {p} {q} (Ok a) some h is x =
      goes-run xs p.callbacks p.screen q.callbacks q.screen h x.tries.live x.tries.receives x.tries.screen
  goes-kept [] (Err Memory) some h is x = absurd (omega arith)
  goes-kept (y ∷ ys) {p} {q} (Err Memory) some h is x =
      elim (cases_Bool p.screen.failed) [
        | inl f ↦ absurd (cc ((x.tries.dead f).0))
        | inr f ↦
            let s = p.screen.state in
            let keeps = refused_keeps {A = Unit {0}} s.shown.kept.capacity s.shown.kept.scrolled_off
            (typed_all (y ∷ ys) s).state.shown.kept.scrolled_off (Err Memory) x.keeps_none x.stays f refl in
            goes-refused y ys p.callbacks p.screen q.callbacks q.screen h f (x.tries.memory refl)
            (IsKeeping-of s (is f) (and_parts (nat_lt 0 s.shown.kept.capacity) _ keeps).0) keeps x.bounds
            (x.tries.reported refl)
      ]
  goes-kept xs {p} {q} (Err Failed) some h is x =
      let f = x.tries.refused refl in
      rw ((x.tries.dead f).2, (x.tries.dead f).1) (goes-failed xs p.callbacks p.screen f)

  pub goes-typed_all : (xs : List ℕ) {p q : WrappedScreen C} (result : Result (Unit {0}) ScreenError) → 0 < length xs
      → All IsHandled xs → (p.screen.failed ≡ false → IsState p.screen.state)
      → MayScroll scrolls (typed_all xs) p result q
      → GoesThrough step scrolls (map Print xs) p.callbacks p.screen q.callbacks q.screen
  goes-typed_all xs result some h is x = goes-kept xs result some h (λ f. (is f).shown.kept) x

  -- ---- a performer's steps

  pub performs-goes : (es : List Event) (p q : WrappedScreen C)
      → GoesThrough step scrolls es p.callbacks p.screen q.callbacks q.screen → Performs (Steps step scrolls) p es q
  performs-goes [] p q h = λ i. record { screen = h.1 i; callbacks = h.0 i }
  performs-goes (e ∷ es) p q h =
      let m : WrappedScreen C = record { screen = h.1; callbacks = h.0 } in
      (m, h.2, performs-goes es m q h.3)

  -- bytes, which are their own characters
  bytes-typed : (bs : List ℕ) {p q : WrappedScreen C} {result : Result (Unit {0}) ScreenError}
      → MayScroll scrolls (typed_all (map (λ (b : ℕ). b) bs)) p result q → MayScroll scrolls (typed_all bs) p result q
  bytes-typed bs {p} {q} {result} x = subst (λ (ys : List ℕ). MayScroll scrolls (typed_all ys) p result q) (map-id bs) x

  -- a text of printable ASCII
  pub ascii-run : (bs : List ℕ) {p q : WrappedScreen C} (result : Result (Unit {0}) ScreenError) → 0 < length bs
      → All IsPrintable bs → (p.screen.failed ≡ false → IsState p.screen.state)
      → MayScroll scrolls (typed_all (map (λ (b : ℕ). b) bs)) p result q
      → Performs (Steps step scrolls) p (map Print (chars bs)) q
  ascii-run bs {p} {q} result some printable is x =
      same_events (Steps step scrolls) p q (map Print bs) (map Print (chars bs))
      (ap (map Print) (sym (chars-IsAscii bs (printable-ascii bs printable))))
      (performs-goes (map Print bs) p q
      (goes-typed_all bs result some (λ i e l. printable-handled (get_or bs i e) (printable i e l))
      is (bytes-typed bs x)))

  -- ---- the start of a text

  -- printable ASCII
  pub prefix-run : (bs : List ℕ) (n : ℕ) {p q : WrappedScreen C} (result : Result (Unit {0}) ScreenError) → 0 < n
      → n ≤ length bs → All IsPrintable (take n bs) → (p.screen.failed ≡ false → IsState p.screen.state)
      → MayScroll scrolls (typed_all (map (λ (b : ℕ). b) (take n bs))) p result q
      → PrintsPrefix step scrolls bs (drop n bs) p.callbacks p.screen q.callbacks q.screen
  prefix-run bs n result pos within h is x =
      let some : 0 < length (take n bs) = grind (arith, common_steps) in (
        take n bs,
        printable-chars bs n h,
        goes-typed_all (take n bs) result some (λ i e l. printable-handled (get_or (take n bs) i e) (h i e l)) is
            (bytes-typed (take n bs) x),
      )

  -- a character
  pub prefix-char : (bs rest : List ℕ) (ch : ℕ) (c : C) (v : ScreenView) (d : C) (w : ScreenView) → IsUtf8 bs
      → bs ≡ encode_utf8 ch ++ rest → Goes step scrolls (Print ch) c v d w → PrintsPrefix step scrolls bs rest c v d w
  prefix-char bs rest ch c v d w u e goes =
      (ch ∷ [], chars_past_char bs rest ch u e, (d, w, goes, (refl, refl)))

  -- and then the others
  pub prefix-then : (bs rest : List ℕ) (p m q : WrappedScreen C)
      → PrintsPrefix step scrolls bs rest p.callbacks p.screen m.callbacks m.screen
      → Performs (Steps step scrolls) m (map Print (chars rest)) q
      → Performs (Steps step scrolls) p (map Print (chars bs)) q
  prefix-then bs rest p m q h more =
      same_events (Steps step scrolls) p q (map Print h.0 ++ map Print (chars rest)) (map Print (chars bs))
      (sym (map-append Print h.0 (chars rest)) ∙ ap (map Print) (sym h.1))
      (performs-append (Steps step scrolls) p m q (map Print h.0) (map Print (chars rest))
      (performs-goes (map Print h.0) p m h.2) more)

  pub prefix-end : (bs : List ℕ) (p : WrappedScreen C) → length bs ≡ 0
      → Performs (Steps step scrolls) p (map Print (chars bs)) p
  prefix-end [] p none =
      same_events (Steps step scrolls) p p [] (map Print (chars [])) (ap (map Print) (sym chars-nil)) refl
  prefix-end (x ∷ xs) p none = absurd (omega arith)
