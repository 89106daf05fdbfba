-- A character that is printed again and again.
use Rattle.std.proofs.Common.{◌≡◌, ◌∙◌, ◌+◌, ◌++◌, ℕ, zero, suc, Bool, Result, List, [], ◌∷◌, Option, Some, replicate, refl, ap, sym}
use Rattle.std.proofs.Common.{arith, append-nil}
use Rattle.std.proofs.lemmas.List.{replicate_more}
use Rattle.vt100_rows.specs.Row.{RowView}
use Rattle.vt100_core.specs.declared.printed.Printed.{Printed}
use Rattle.vt100_core.specs.declared.printed.Printed.TheVariants.{Nothing, Spacing, Joined}
use Rattle.vt100_core.specs.Scroll.{Scrolled}
use Rattle.vt100_core.specs.Text.{printed, printed_all}
use Rattle.vt100_core.proofs.RunLemmas.{printed_all-append}
use Rattle.screen_model.specs.State.{State}
use Rattle.screen_model.specs.Step.{Report, Stepped, reports_of, typed, typed_times, repeated, repeated_last, last_after}
use Rattle.vt100.specs.Tries.{MayScroll}
use Rattle.vt100.specs.declared.error.ScreenError.{ScreenError}
use Rattle.vt100.specs.declared.screen.wrapped.WrappedScreen.{WrappedScreen}
use Rattle.vt100.proofs.ReceiveLemmas.{scroll_as}
use Rattle.vt100.proofs.RunLemmas.{drawn_as, reports-append}

-- a character on the shown sheet, n times
abbrev pub again_drawn : ℕ → ℕ → State → Stepped
again_drawn n c s =
    let d = printed_all s.shown (replicate n c) s.attrs in
    drawn_as s d.grid s.last d.sunk

last-same : (p : Printed) (c : ℕ) (last : Option ℕ) → last ≡ Some c → last_after p c last ≡ last
last-same Nothing c last e = refl
last-same Spacing c last e = sym e
last-same Joined c last e = refl

-- once more on a sheet
printed-more : (n c : ℕ) (s : State) → printed_all s.shown (replicate (suc n) c) s.attrs ≡ (
    let d = printed_all s.shown (replicate n c) s.attrs in
    let p = printed d.grid c s.attrs in
    let o : Scrolled = record { grid = p.grid; sunk = d.sunk ++ p.sunk } in
    o
    )
printed-more n c s =
    let d = printed_all s.shown (replicate n c) s.attrs in
    let p = printed d.grid c s.attrs in
    let one : suc n ≡ n + 1 = omega arith in
    ap (λ m. printed_all s.shown (replicate m c) s.attrs) one
    ∙ ap (λ xs. printed_all s.shown xs s.attrs) (sym (replicate_more n c))
    ∙ printed_all-append (replicate n c) (c ∷ []) s.shown s.attrs
    ∙ ap (λ (rows : List RowView). let o : Scrolled = record { grid = p.grid; sunk = d.sunk ++ rows } in o)
    (append-nil p.sunk)

times-drawn : (n c : ℕ) (s : State) → s.last ≡ Some c → typed_times n c s ≡ again_drawn n c s
times-drawn zero c s e = refl
times-drawn (suc n) c s e =
    let d = printed_all s.shown (replicate n c) s.attrs in
    let p = printed d.grid c s.attrs in
    let more : Stepped → Stepped = λ t. record {
      state = (typed c t.state).state;
      reports = t.reports ++ (typed c t.state).reports;
    } in
    ap more (times-drawn n c s e)
    ∙ (λ j. record {
      state = record s { shown = p.grid; last = last-same p.printed c s.last e j };
      reports = reports-append s.alternate d.sunk p.sunk j;
    })
    ∙ sym (ap (λ (o : Scrolled). drawn_as s o.grid s.last o.sunk) (printed-more n c s))

repeated-drawn : (n c : ℕ) (s : State) → s.last ≡ Some c → again_drawn n c s ≡ repeated n s
repeated-drawn n c s e = sym (times-drawn n c s e) ∙ ap (λ (o : Option ℕ). repeated_last o n s) (sym e)

-- printing it on the sheet is repeating it (REP)
pub repeated-scrolls : {C : Type 0} (scrolls : C → RowView → Bool → C → Type 0) {p q : WrappedScreen C}
    {result : Result (Unit {0}) ScreenError} (n c : ℕ) → p.screen.state.last ≡ Some c
    → MayScroll scrolls (again_drawn n c) p result q → MayScroll scrolls (repeated n) p result q
repeated-scrolls scrolls {p} n c last x = scroll_as scrolls (repeated n) (repeated-drawn n c p.screen.state last) x
