-- Copies of what a screen shows, whether kept rows are shown or not.
use Rattle.std.proofs.Common.{◌≡◌, ◌∙◌, ℕ, ◌+◌, ◌-◌, ◌<◌, ◌≤◌, ◌==◌, Bool, true, false, ◌&&◌, nat_lt, nat_le, Contains}
use Rattle.std.proofs.Common.{cond, refl, sym, subst, ap, arith, ⊎_elim}
use Rattle.std.proofs.lemmas.Bool.{cond_both, cases_lt, le-ltb, lt-ltb, false≢true}
use Rattle.std.proofs.lemmas.Bool.Decides.{nat_tests}
use mathlib.Core.Path.{fun_ext}
use Rattle.vt100_forms.specs.declared.attrs.Attrs.{Attrs}
use Rattle.vt100_forms.specs.Attrs.{default_attrs}
use Rattle.vt100_cells.specs.Cell.{CellView, default_cell, empty_cell, is_filled}
use Rattle.vt100_cells.specs.Cells.{cell_at}
use Rattle.vt100_cells.specs.Line.{cut}
use Rattle.terminal_model.specs.Term.{Size, Shown}
use Rattle.terminal_model.specs.Leads.{Leads}
use Rattle.screen_drawing.specs.Laws.{with_modes}
use Rattle.vt100_core.specs.Grid.{GridView, IsAllocated, visible_at}
use Rattle.vt100_core.specs.Copy.{visible_as_drawn}
use Rattle.vt100_core.specs.Picture.{grid_size, visible_lines, visible_wraps}
use Rattle.vt100_core.specs.declared.scrollback.Scrollback.TheVariants.{Disabled}
use Rattle.vt100_core.proofs.CopyLemmas.{IsGrid-new}
use Rattle.vt100_core.proofs.PictureLemmas.{visible_lines-drawn, visible_wraps-drawn}
use Rattle.vt100_core.proofs.VisibleLemmas.{IsGrid-visible, some-fitted, lines-fitted, wraps-fitted, visible-drawn}
use Rattle.screen_model.specs.State.{State, IsState}
use Rattle.screen_model.specs.Shown.{shown_state}
use Rattle.screen_model.proofs.ProperSheets.{proper_new}
use Rattle.vt100.specs.WriterLaws.{IsUnscrolled, IsPlainlyShown}
use Rattle.vt100.specs.Writers.{contents_formatted, state_formatted, contents_diff, state_diff}
use Rattle.vt100.specs.Copies.{with_sheet, visible_alone, fitted, IsFitting, EachVisibleCopyShowsTheSame}
use Rattle.vt100.specs.Copies.{EachVisibleRedrawLeads, EachVisibleDifferenceLeads}
use Rattle.vt100.proofs.CopyLemmas.{proper-visible}
use Rattle.vt100.proofs.ShownLemmas.{redraws-lead, differences-lead}

-- ---- such a copy is a screen

some-visible : (s : State) → IsState s → IsAllocated (visible_as_drawn s.shown)
some-visible s i = some-fitted s.shown (visible_as_drawn s.shown).rows i.drawn refl

visible-state : (s : State) → IsState s → IsState (visible_alone s)
visible-state s i = record {
  shown = IsGrid-visible s.shown i.shown i.drawn;
  other = IsGrid-new s.shown i.shown;
  drawn = some-visible s i;
  main_drawn = some-visible s i;
  height = refl;
  width = refl;
  main_keeps = refl;
  alternate_keeps = refl;
  attrs = i.attrs;
  saved_attrs = i.saved_attrs;
  proper = proper-visible s.shown i.shown i.drawn i.proper;
  other_proper = proper_new s.shown.height s.shown.width Disabled;
}

pub visible-unscrolled : (s : State) → IsState s → IsUnscrolled (visible_alone s)
visible-unscrolled s i = record { state = visible-state s i; offset = refl }

-- ---- what it shows

pub visible-shown : (s : State) → IsState s
    → shown_state (visible_alone s) ≡ fitted (grid_size s.shown) (shown_state s)
visible-shown s i =
    let g = s.shown in
    let grid = IsGrid-visible g i.shown i.drawn in
    let some = some-visible s i in
    let cells = visible_lines-drawn (visible_as_drawn g) grid some refl ∙ lines-fitted g i.shown i.drawn in
    let wraps = visible_wraps-drawn (visible_as_drawn g) grid some refl ∙ wraps-fitted g i.shown i.drawn in
    λ j. record (shown_state s) { cell = cells j; wrapped = wraps j }

-- ---- a picture that fits

cut-narrow : (n : ℕ) (f : ℕ → CellView) (k : ℕ) → k < n → (f k).wide ≡ false → cut n f k ≡ f k
cut-narrow n f k l e = grind (arith, nat_tests)

cut-before : (n : ℕ) (f : ℕ → CellView) (k : ℕ) → k + 1 < n → cut n f k ≡ f k
cut-before n f k l = grind (arith, nat_tests)

cut-past : (n : ℕ) (f : ℕ → CellView) (k : ℕ) → n ≤ k → cut n f k ≡ default_cell
cut-past n f k l = grind (arith, nat_tests)

neither : (b : Bool) (x y : CellView) → cond (b && false) x y ≡ y
neither true x y = refl
neither false x y = refl

no-column : (g : GridView) (r k : ℕ) → g.width ≤ k → visible_lines g r k ≡ default_cell
no-column g r k l =
    rw (le-ltb k g.width l) (neither (nat_lt r g.height) (cell_at (visible_at g r).cells k) default_cell)

whole-cell : (g : GridView) (r k : ℕ) → (visible_lines g r (g.width - 1)).wide ≡ false
    → cut g.width (visible_lines g r) k ≡ visible_lines g r k
whole-cell g r k whole =
    let f = visible_lines g r in
    ⊎_elim
    (λ (l : k < g.width). ⊎_elim (λ (m : k + 1 < g.width). cut-before g.width f k m)
    (λ (m : g.width ≤ k + 1). let last : k ≡ g.width - 1 = omega arith in
    cut-narrow g.width f k l (ap (λ n. (f n).wide) last ∙ whole))
    (cases_lt (k + 1) g.width))
    (λ (l : g.width ≤ k). cut-past g.width f k l ∙ sym (no-column g r k l))
    (cases_lt k g.width)

-- the flag b of a row with one below it if c, and whose last column shows something if d
flag-stays : (b c d : Bool) → (b ≡ true → c ≡ true) → (b ≡ true → d ≡ true) → (b && (c && d)) ≡ b
flag-stays b c d p q = grind (arith, p, q)

no-row : (g : GridView) (r : ℕ) → g.height ≤ r → visible_wraps g r ≡ false
no-row g r l = rw (le-ltb r g.height l) refl

wrap-followed : (g : GridView) (r : ℕ) → visible_wraps g (g.height - 1) ≡ false → visible_wraps g r ≡ true
    → nat_lt (r + 1) g.height ≡ true
wrap-followed g r last w =
    ⊎_elim (λ (l : r + 1 < g.height). lt-ltb (r + 1) g.height l)
    (λ (l : g.height ≤ r + 1). absurd (false≢true (⊎_elim
    (λ (m : r < g.height). let end : r ≡ g.height - 1 = omega arith in
    sym (ap (visible_wraps g) end ∙ last) ∙ w)
    (λ (m : g.height ≤ r). sym (no-row g r m) ∙ w)
    (cases_lt r g.height))))
    (cases_lt (r + 1) g.height)

fitting-same : (s : State) → IsFitting (grid_size s.shown) (shown_state s)
    → fitted (grid_size s.shown) (shown_state s) ≡ shown_state s
fitting-same s h =
    let g = s.shown in
    let cells : (λ r. cut g.width (visible_lines g r)) ≡ visible_lines g =
    fun_ext (λ r. fun_ext (λ k. whole-cell g r k (h.whole r))) in
    let wraps : (λ r. visible_wraps g r
    && (nat_lt (r + 1) g.height && is_filled (cut g.width (visible_lines g r) (g.width - 1)))) ≡ visible_wraps g =
    fun_ext (λ r. flag-stays (visible_wraps g r) (nat_lt (r + 1) g.height)
    (is_filled (cut g.width (visible_lines g r) (g.width - 1))) (wrap-followed g r h.last)
    (λ w. ap is_filled (whole-cell g r (g.width - 1) (h.whole r)) ∙ h.filled r w)) in
    λ j. record (shown_state s) { cell = cells j; wrapped = wraps j }

pub visible-same : EachVisibleCopyShowsTheSame
visible-same s i =
    let shown = visible-shown s i in
    record {
      unscrolled = visible-unscrolled s i;
      size = refl;
      shown = shown;
      same = λ h. shown ∙ fitting-same s h;
      drawn = λ none. ap (with_sheet s) (visible-drawn s.shown i.shown i.drawn none);
    }

-- ---- where its forms lead

no-character : (a : Attrs) (c : ℕ) → Contains (empty_cell a).text c → ⊥
no-character a c h = absurd (omega (arith, h.1))

cut-plain : (n : ℕ) (f : ℕ → CellView) (k c : ℕ) → (Contains (f k).text c → ⊥) → Contains (cut n f k).text c → ⊥
cut-plain n f k c p =
    cond_both (nat_le n k) default_cell (cond (((k + 1) == n) && (f k).wide) (empty_cell (f k).attrs) (f k))
    (λ (x : CellView). Contains x.text c → ⊥) (λ _. no-character default_attrs c)
    (λ _. cond_both (((k + 1) == n) && (f k).wide) (empty_cell (f k).attrs) (f k)
    (λ (x : CellView). Contains x.text c → ⊥) (λ _. no-character (f k).attrs c) (λ _. p))

plain-fitted : (z : Size) (x : Shown) → IsPlainlyShown x → IsPlainlyShown (fitted z x)
plain-fitted z x p r k = cut-plain z.cols (x.cell r) k 0xFE0F (p r k)

plain-visible : (s : State) → IsState s → IsPlainlyShown (shown_state s)
    → IsPlainlyShown (shown_state (visible_alone s))
plain-visible s i p =
    subst IsPlainlyShown (sym (visible-shown s i)) (plain-fitted (grid_size s.shown) (shown_state s) p)

pub visible-redraws_lead : EachVisibleRedrawLeads
visible-redraws_lead s from i p =
    let z = grid_size s.shown in
    let v = visible_alone s in
    let leads = redraws-lead v from (visible-unscrolled s i) (plain-visible s i p) in
    let shown = visible-shown s i in
    record {
      contents = subst (λ (x : Shown). Leads z (contents_formatted v) from (with_modes from.modes from.style x)) shown
          leads.contents;
      state = λ m e y. subst (λ (x : Shown). Leads z (state_formatted v) from x) shown (leads.state m e y);
    }

pub visible-differences_lead : EachVisibleDifferenceLeads
visible-differences_lead old new o i e p =
    let z = grid_size new.shown in
    let u = visible_alone old in
    let v = visible_alone new in
    let leads = differences-lead u v (visible-unscrolled old o) (visible-unscrolled new i) e (plain-visible new i p) in
    let was = visible-shown old o in
    let is = visible-shown new i in
    let now = fitted z (shown_state new) in
    record {
      contents = λ m y. subst (λ (x : Shown). Leads z (contents_diff u v) (with_modes m y x) (with_modes m y now)) was
          (subst (λ (x : Shown). Leads z (contents_diff u v) (with_modes m y (shown_state u)) (with_modes m y x)) is
          (leads.contents m y));
      state = subst (λ (x : Shown). Leads z (state_diff u v) x now) was
          (subst (λ (x : Shown). Leads z (state_diff u v) (shown_state u) x) is leads.state);
    }
