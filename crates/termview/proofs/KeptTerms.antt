-- Every call keeps the invariant of a terminal.
use Rattle.std.proofs.Common.{◌≡◌, ℕ, ◌+◌, ◌-◌, ◌<◌, ◌≤◌, ◌==◌, Bool}
use Rattle.std.proofs.Common.{true, false, cond, ◌&&◌, nat_lt, nat_eq, min, List}
use Rattle.std.proofs.Common.{[], ◌∷◌, Option, None, Some, sym, refl, ap, subst, ◌∙◌, arith, ⊎_elim}
use Rattle.std.specs.List.{AllByRecursion}
use Rattle.std.proofs.lemmas.Bool.{cond_both, cond-true, cond-false, lt-ltb, le-ltb, cases_lt, false≢true}
use Rattle.std.proofs.Math.Bool.{and-false}
use mathlib.Core.Path.{fun_ext}
use Rattle.vte_core.specs.Shapes.{events}
use Rattle.vte_types.specs.declared.clear.ClearMode.TheVariants as screen
use Rattle.vte_types.specs.declared.clear.LineClearMode.TheVariants as line
use Rattle.vte_types.specs.Call as call
use Rattle.vte_types.specs.Call.{Call}
use Rattle.vte_types.specs.Lookup.{lookup}
use Rattle.vte_types.specs.Mode.{private_raw_of}
use Rattle.vte.specs.Performed.{calls_of_all}
use Rattle.vt100_forms.specs.declared.attrs.Attrs.{Attrs}
use Rattle.vt100_forms.specs.declared.modes.CursorStyle.{CursorStyle}
use Rattle.vt100_forms.specs.Form.{SaveCursor, RestoreCursor}
use Rattle.vt100_cells.specs.Cell.{CellView, default_cell, empty_cell, is_filled}
use Rattle.vt100_cells.specs.Line.{IsPaired, Bounded}
use Rattle.terminal_model.specs.Term.{Size, Modes, Term, IsTerm, blank_term}
use Rattle.terminal_model.specs.Apply.{erase, input, apply}
use Rattle.terminal_model.proofs.TermLemmas.{IsTerm-moved, IsTerm-set, IsTerm-down, IsTerm-erase, IsTerm-input}
use Rattle.terminal_model.proofs.TermLemmas.{IsTerm-apply}
use Rattle.termview.specs.Step.{printed, erase_below, with_style, style_of, with_attr, by_row, set_rows, reset_rows}
use Rattle.termview.specs.Step.{line_of, view_step, view_steps}
use Rattle.termview.specs.Laws.{EachCallKeepsTerminals, EachStreamShowsATerminal}

-- ---- erasing up to the screen's end

-- an erased row
abbrev erased : Size → Attrs → ℕ → ℕ → CellView
erased z a r k = cond (nat_lt r z.rows && nat_lt k z.cols) (empty_cell a) default_cell

narrow : (b : Bool) (a : Attrs) → (cond b (empty_cell a) default_cell).wide ≡ false
narrow true a = refl
narrow false a = refl

whole : (b : Bool) (a : Attrs) → (cond b (empty_cell a) default_cell).continuation ≡ false
whole true a = refl
whole false a = refl

IsPaired-erased : (z : Size) (a : Attrs) (r : ℕ) → IsPaired (erased z a r)
IsPaired-erased z a r = record {
  first = whole (nat_lt r z.rows && nat_lt 0 z.cols) a;
  next = λ k. whole (nat_lt r z.rows && nat_lt (k + 1) z.cols) a ∙ sym (narrow (nat_lt r z.rows && nat_lt k z.cols) a);
  blank = λ k e. absurd (false≢true (sym (whole (nat_lt r z.rows && nat_lt k z.cols) a) ∙ e));
}

Bounded-erased : (z : Size) (a : Attrs) (r : ℕ) → Bounded z.cols (erased z a r)
Bounded-erased z a r k h =
    ap (λ b. cond (nat_lt r z.rows && b) (empty_cell a) default_cell) (le-ltb k z.cols h)
    ∙ ap (λ b. cond b (empty_cell a) default_cell) (and-false (nat_lt r z.rows))

line-below : (z : Size) (t : Term) (r : ℕ) → t.row < r → (erase_below z t).cell r ≡ erased z t.attrs r
unfolding erase_below
line-below z t r h = fun_ext (λ k. cond-true (nat_lt t.row r) _ _ (lt-ltb t.row r h))

line-above : (z : Size) (t : Term) (r : ℕ) → r ≤ t.row → (erase_below z t).cell r ≡ (erase z z.cols t).cell r
unfolding erase_below
line-above z t r h = fun_ext (λ k. cond-false (nat_lt t.row r) _ _ (le-ltb t.row r h))

flag-below : (z : Size) (t : Term) (r : ℕ) → t.row < r → (erase_below z t).wrapped r ≡ false
unfolding erase_below
flag-below z t r h = cond-true (nat_lt t.row r) _ _ (lt-ltb t.row r h)

flag-above : (z : Size) (t : Term) (r : ℕ) → r ≤ t.row → (erase_below z t).wrapped r ≡ (erase z z.cols t).wrapped r
unfolding erase_below
flag-above z t r h = cond-false (nat_lt t.row r) _ _ (le-ltb t.row r h)

-- a fact of each line, and of each flag
each-line : (P : (ℕ → CellView) → Type 0) (z : Size) (t : Term) (r : ℕ) → P (erased z t.attrs r)
    → P ((erase z z.cols t).cell r) → P ((erase_below z t).cell r)
each-line P z t r p q =
    ⊎_elim (λ (h : t.row < r). subst P (sym (line-below z t r h)) p)
    (λ (h : r ≤ t.row). subst P (sym (line-above z t r h)) q) (cases_lt t.row r)

no-flag : (z : Size) (t : Term) (r : ℕ) → (erase z z.cols t).wrapped r ≡ false → (erase_below z t).wrapped r ≡ false
no-flag z t r e =
    ⊎_elim (λ (h : t.row < r). flag-below z t r h) (λ (h : r ≤ t.row). flag-above z t r h ∙ e) (cases_lt t.row r)

past-line : (z : Size) (a : Attrs) (r k : ℕ) → z.rows ≤ r → erased z a r k ≡ default_cell
past-line z a r k h = ap (λ b. cond (b && nat_lt k z.cols) (empty_cell a) default_cell) (le-ltb r z.rows h)

IsTerm-erase_below : (z : Size) (t : Term) → IsTerm z t → IsTerm z (erase_below z t)
unfolding erase_below
IsTerm-erase_below z t h =
    let s = erase z z.cols t in
    let hs = IsTerm-erase z z.cols t h (omega arith) in
    record {
      some_row = hs.some_row;
      some_col = hs.some_col;
      paired = λ r. each-line IsPaired z t r (IsPaired-erased z t.attrs r) (hs.paired r);
      beyond = λ r. each-line (Bounded z.cols) z t r (Bounded-erased z t.attrs r) (hs.beyond r);
      below = λ r k l. each-line (λ f. f k ≡ default_cell) z t r (past-line z t.attrs r k l) (hs.below r k l);
      below_flag = λ r l. no-flag z t r (hs.below_flag r l);
      filled = λ r w.
          ⊎_elim (λ (l : t.row < r). absurd (false≢true (sym (flag-below z t r l) ∙ w)))
          (λ (l : r ≤ t.row). subst (λ (f : ℕ → CellView). is_filled (f (z.cols - 1)) ≡ true)
          (sym (line-above z t r l)) (hs.filled r (sym (flag-above z t r l) ∙ w)))
          (cases_lt t.row r);
      last = no-flag z t (z.rows - 1) hs.last;
      in_rows = hs.in_rows;
      in_cols = hs.in_cols;
      saved_in_rows = hs.saved_in_rows;
      saved_in_cols = hs.saved_in_cols;
    }

-- ---- modes

IsTerm-modes : (f : Term → Modes) (z : Size) (t : Term) → IsTerm z t → IsTerm z (record t { modes = f t })
IsTerm-modes f z t h = IsTerm-set z t t.hidden t.attrs (f t) t.style h

IsTerm-hidden : (f : Term → Bool) (z : Size) (t : Term) → IsTerm z t → IsTerm z (record t { hidden = f t })
IsTerm-hidden f z t h = IsTerm-set z t (f t) t.attrs t.modes t.style h

-- every change of a table keeps it
abbrev Keeps : Size → ℕ × (Term → Term) → Type 0
Keeps z row = (t : Term) → IsTerm z t → IsTerm z (row.1 t)

IsTerm-row : (z : Size) (rows : List (ℕ × (Term → Term))) → AllByRecursion (Keeps z) rows → (n : ℕ) (t : Term)
    → IsTerm z t → IsTerm z (by_row (lookup n rows) t)
IsTerm-row z [] each n t h = h
IsTerm-row z (row ∷ rows) each n t h =
    cond_both (nat_eq n row.0) (Some row.1) (lookup n rows) (λ o. IsTerm z (by_row o t)) (λ _. each.0 t h)
    (λ _. IsTerm-row z rows each.1 n t h)

sets-keep : (z : Size) → AllByRecursion (Keeps z) set_rows
sets-keep z =
    let m = λ (f : Term → Modes). IsTerm-modes f z in
    (m _, (m _, (IsTerm-hidden _ z, (m _, (m _, (m _, (m _, (m _, (m _, tt)))))))))

resets-keep : (z : Size) → AllByRecursion (Keeps z) reset_rows
resets-keep z =
    let m = λ (f : Term → Modes). IsTerm-modes f z in
    (m _, (m _, (IsTerm-hidden _ z, (m _, (m _, (m _, (m _, (m _, (m _, tt)))))))))

IsTerm-style : (z : Size) (s : Option CursorStyle) (t : Term) → IsTerm z t → IsTerm z (with_style s t)
IsTerm-style z None t h = h
IsTerm-style z (Some s) t h = IsTerm-set z t t.hidden t.attrs t.modes s h

-- ---- calls

pub calls-keep : EachCallKeepsTerminals
unfolding view_step printed apply
calls-keep z (call.input x) t h =
    cond_both (x == 0xFFFD) t (input z x t) (IsTerm z) (λ _. h) (λ _. IsTerm-input z x t h)
calls-keep z call.backspace t h = IsTerm-moved z t t.row (t.col - 1) h h.in_rows (omega (arith, h.in_cols))
calls-keep z call.carriage_return t h = IsTerm-moved z t t.row 0 h h.in_rows (omega arith)
calls-keep z call.linefeed t h = IsTerm-down z t t.col h h.in_cols
calls-keep z (call.goto r k) t h =
    IsTerm-moved z t (min (line_of r) (z.rows - 1)) (min k (z.cols - 1)) h (omega (arith, h.some_row))
    (omega (arith, h.some_col))
calls-keep z (call.move_forward n) t h =
    IsTerm-moved z t t.row (min (t.col + n) (z.cols - 1)) h h.in_rows (omega (arith, h.some_col))
calls-keep z (call.erase_chars n) t h = IsTerm-erase z (min (t.col + n) z.cols) t h (omega arith)
calls-keep z (call.clear_line line.Right) t h = IsTerm-erase z z.cols t h (omega arith)
calls-keep z (call.clear_screen screen.Below) t h = IsTerm-erase_below z t h
calls-keep z call.save_cursor_position t h = IsTerm-apply z SaveCursor t h
calls-keep z call.restore_cursor_position t h = IsTerm-apply z RestoreCursor t h
calls-keep z call.set_keypad_application_mode t h = IsTerm-set z t t.hidden t.attrs _ t.style h
calls-keep z call.unset_keypad_application_mode t h = IsTerm-set z t t.hidden t.attrs _ t.style h
calls-keep z (call.set_cursor_style s) t h = IsTerm-style z (style_of s) t h
calls-keep z (call.set_private_mode m) t h = IsTerm-row z set_rows (sets-keep z) (private_raw_of m) t h
calls-keep z (call.unset_private_mode m) t h = IsTerm-row z reset_rows (resets-keep z) (private_raw_of m) t h
calls-keep z (call.terminal_attribute x) t h = IsTerm-set z t t.hidden (with_attr x t.attrs) t.modes t.style h
calls-keep z _ t h = h

steps-keep : (z : Size) (cs : List Call) (t : Term) → IsTerm z t → IsTerm z (view_steps z cs t)
steps-keep z [] t h = h
steps-keep z (c ∷ cs) t h = steps-keep z cs (view_step z c t) (calls-keep z c t h)

IsPaired-none : IsPaired (λ k. default_cell)
IsPaired-none = record { first = refl; next = λ k. refl; blank = λ k e. absurd (false≢true e) }

IsTerm-blank : (z : Size) → 0 < z.rows → 0 < z.cols → IsTerm z blank_term
IsTerm-blank z h k = record {
  some_row = h;
  some_col = k;
  paired = λ r. IsPaired-none;
  beyond = λ r i l. refl;
  below = λ r i l. refl;
  below_flag = λ r l. refl;
  filled = λ r e. absurd (false≢true e);
  last = refl;
  in_rows = h;
  in_cols = omega arith;
  saved_in_rows = h;
  saved_in_cols = omega arith;
}

pub streams-show : EachStreamShowsATerminal
streams-show z bytes h k = steps-keep z (calls_of_all None (events 1024 bytes)) blank_term (IsTerm-blank z h k)
