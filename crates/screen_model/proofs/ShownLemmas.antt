-- What a terminal shows is what its screen's getters return.
use Rattle.std.proofs.Common.{◌≡◌, ◌∙◌, ℕ, ◌+◌, ◌-◌, ◌<◌, ◌≤◌, ◌==◌, Bool, true, false, cond, ◌&&◌, List, [], ◌∷◌}
use Rattle.std.proofs.Common.{length, refl, sym, ap, arith, ⊎_elim, nat_lt, Some, None, Option, subst}
use Rattle.std.proofs.Common.{Contains}
use Rattle.std.specs.Prelude.{unwrap_or}
use Rattle.std.specs.Option.{option_map}
use Rattle.std.proofs.lemmas.Bool.{cond_both, cases_lt, cases_Bool, eqb-true, lt-ltb, le-ltb, ltb-true, and_parts}
use Rattle.std.proofs.lemmas.Bool.{agree_below_at}
use Rattle.std.proofs.lemmas.Option.{slice_get-get_or}
use Rattle.std.proofs.lemmas.List.Elements.{All-nil, All-contains}
use Rattle.vt100_forms.specs.declared.attrs.Attrs.{Attrs}
use Rattle.vt100_forms.specs.Attrs.{flags_of, IsProper, with_mode, default_attrs}
use Rattle.vt100_cells.specs.Cell.{CellView, default_cell}
use Rattle.vt100_cells.specs.Cells.{cell_at}
use Rattle.vt100_rows.specs.Row.{RowView}
use Rattle.vt100_rows.specs.Sheet.{row_at}
use Rattle.vt100_core.specs.Grid.{GridView, IsGrid, IsAllocated, visible_at, visible_row_at, cell_in}
use Rattle.vt100_core.specs.Picture.{visible_lines}
use Rattle.screen_model.specs.State.{State, IsState}
use Rattle.screen_model.specs.Shown.{shown_state, EachCellIsReported, EachWrapIsReported, AreReportedAlike}
use Rattle.screen_model.specs.Shown.{AlikeShowTheSame, IsShownSomewhere, IsReportedSomewhere, EachCharacterIsReported}

-- ---- rows and cells

row-reported : (g : GridView) → IsGrid g → IsAllocated g → (r : ℕ) → r < g.height
    → visible_row_at g r ≡ Some (visible_at g r)
row-reported g i a r h = ap (λ b. cond b (Some (visible_at g r)) None) (lt-ltb r (length g.rows)
    (omega (arith, h, i.sheet.count a)))

-- a row that is shown is as wide as the screen, or wider
wide-enough : (g : GridView) → IsGrid g → IsAllocated g → (r : ℕ) → r < g.height
    → g.width ≤ length (visible_at g r).cells
wide-enough g i a r h =
    let kept = length g.kept.rows - g.kept.offset + r in
    let drawn = r - g.kept.offset in
    cond_both (nat_lt r g.kept.offset) (row_at g.kept.rows kept) (row_at g.rows drawn)
    (λ v. g.width ≤ length v.cells)
    (λ e. let l = ltb-true r g.kept.offset e in
    i.shown kept (omega arith) (omega (arith, h)) (omega (arith, l, i.kept.offset)))
    (λ _. let wide = (i.sheet.each drawn (omega (arith, h, i.sheet.count a))).wide in omega (arith, wide))

none-reported : (g : GridView) → IsGrid g → IsAllocated g → (r : ℕ) → g.height ≤ r → visible_row_at g r ≡ None
none-reported g i a r h = ap (λ b. cond b (Some (visible_at g r)) None) (le-ltb r (length g.rows)
    (omega (arith, h, i.sheet.count a)))

here : (g : GridView) (r c : ℕ) → r < g.height → c < g.width
    → visible_lines g r c ≡ cell_at (visible_at g r).cells c
here g r c h w =
    let x = cell_at (visible_at g r).cells c in
    ap (λ b. cond (b && nat_lt c g.width) x default_cell) (lt-ltb r g.height h)
    ∙ ap (λ b. cond b x default_cell) (lt-ltb c g.width w)

outside : (g : GridView) (r c : ℕ) → (nat_lt r g.height && nat_lt c g.width) ≡ false → visible_lines g r c
    ≡ default_cell
outside g r c e = ap (λ b. cond b (cell_at (visible_at g r).cells c) default_cell) e

pub each-cell_is_reported : EachCellIsReported
each-cell_is_reported s i r c h w =
    let g = s.shown in
    let v = visible_at g r in
    ap (λ o. cell_in o c) (row-reported g i.shown i.drawn r h)
    ∙ slice_get-get_or v.cells c default_cell (omega (arith, w, wide-enough g i.shown i.drawn r h))
    ∙ ap Some (sym (here g r c h w))

pub each-wrap_is_reported : EachWrapIsReported
each-wrap_is_reported s i r =
    let g = s.shown in
    let v = visible_at g r in
    let f : Option RowView → Bool = λ o. unwrap_or (option_map (λ (x : RowView). x.wrapped) o) false in
    ⊎_elim
    (λ (h : r < g.height). ap f (row-reported g i.shown i.drawn r h)
    ∙ ap (λ b. b && v.wrapped) (sym (lt-ltb r g.height h)))
    (λ (h : g.height ≤ r). ap f (none-reported g i.shown i.drawn r h)
    ∙ ap (λ b. b && v.wrapped) (sym (le-ltb r g.height h)))
    (cases_lt r g.height)

-- ---- characters

some-same : (x y : CellView) → Some x ≡ Some y → x ≡ y
some-same x y e = ap (λ o. unwrap_or o x) e

none-state_after : (x : CellView) (c : ℕ) → x ≡ default_cell → Contains x.text c → ⊥
none-state_after x c e h =
    All-contains (λ _. ⊥) [] c (All-nil (λ _. ⊥)) (subst (λ (y : CellView). Contains y.text c) e h)

state_after-reported : (s : State) → IsState s → (c : ℕ) → IsShownSomewhere s c → IsReportedSomewhere s c
state_after-reported s i c h =
    let x = (shown_state s).cell h.0 h.1 in
    let on = nat_lt h.0 s.shown.height && nat_lt h.1 s.shown.width in
    ⊎_elim
    (λ (e : on ≡ true).
    let parts = and_parts (nat_lt h.0 s.shown.height) (nat_lt h.1 s.shown.width) e in
    let l = ltb-true h.0 s.shown.height parts.0 in
    let w = ltb-true h.1 s.shown.width parts.1 in
    record {
      row = h.0;
      col = h.1;
      in_rows = l;
      in_cols = w;
      cell = x;
      reported = each-cell_is_reported s i h.0 h.1 l w;
      state_after = h.2;
    })
    (λ (e : on ≡ false). absurd (none-state_after x c (outside s.shown h.0 h.1 e) h.2)) (cases_Bool on)

pub each-character_is_reported : EachCharacterIsReported
each-character_is_reported s i c = record {
  reported = state_after-reported s i c;
  shown = λ h. let e = each-cell_is_reported s i h.row h.col h.in_rows h.in_cols in (
    h.row,
    h.col,
    subst (λ (y : CellView). Contains y.text c)
        (some-same h.cell ((shown_state s).cell h.row h.col) (sym h.reported ∙ e)) h.state_after,
  );
}

-- ---- attributes by what is asked of them

abbrev bit : Bool → ℕ → ℕ
bit b n = cond b n 0

abbrev mode_of : List Bool → ℕ
mode_of (bold ∷ dim ∷ italic ∷ underlined ∷ inverse ∷ []) =
    bit bold 1 + bit dim 2 + bit italic 4 + bit underlined 8 + bit inverse 16
mode_of flags = 0

mode-read : (a : Attrs) → IsProper a → mode_of (flags_of a) ≡ a.mode
mode-read a h =
    let read : ℕ → Bool = λ m. mode_of (flags_of (with_mode default_attrs m)) == m in
    eqb-true (mode_of (flags_of a)) a.mode (agree_below_at read (λ _. true) 32 a.mode refl h.small)

same-attrs : (a b : Attrs) → IsProper a → IsProper b → a.fgcolor ≡ b.fgcolor → a.bgcolor ≡ b.bgcolor
    → flags_of a ≡ flags_of b → a ≡ b
same-attrs a b p q fg bg flags =
    let mode : a.mode ≡ b.mode = sym (mode-read a p) ∙ ap (λ (xs : List Bool). mode_of xs) flags ∙ mode-read b q in
    λ i. record { fgcolor = fg i; bgcolor = bg i; mode = mode i }

-- ---- two screens

cells-same : (s t : State) → IsState s → IsState t → AreReportedAlike s t → (r c : ℕ)
    → (shown_state s).cell r c ≡ (shown_state t).cell r c
cells-same s t i j a r c =
    let on = nat_lt r s.shown.height && nat_lt c s.shown.width in
    ⊎_elim
    (λ (e : on ≡ true).
    let parts = and_parts (nat_lt r s.shown.height) (nat_lt c s.shown.width) e in
    let h = ltb-true r s.shown.height parts.0 in
    let w = ltb-true c s.shown.width parts.1 in
    some-same ((shown_state s).cell r c) ((shown_state t).cell r c)
    (sym (each-cell_is_reported s i r c h w) ∙ a.cells r c h w
    ∙ each-cell_is_reported t j r c (omega (arith, h, a.height)) (omega (arith, w, a.width))))
    (λ (e : on ≡ false). outside s.shown r c e
    ∙ sym (outside t.shown r c ((λ k. nat_lt r (sym a.height k) && nat_lt c (sym a.width k)) ∙ e)))
    (cases_Bool on)

wraps-same : (s t : State) → IsState s → IsState t → AreReportedAlike s t → (r : ℕ)
    → (shown_state s).wrapped r ≡ (shown_state t).wrapped r
wraps-same s t i j a r =
    ⊎_elim
    (λ (h : r < s.shown.height). sym (each-wrap_is_reported s i r) ∙ a.wraps r h ∙ each-wrap_is_reported t j r)
    (λ (h : s.shown.height ≤ r).
    ap (λ b. b && (visible_at s.shown r).wrapped) (le-ltb r s.shown.height h)
    ∙ sym (ap (λ b. b && (visible_at t.shown r).wrapped) (le-ltb r t.shown.height (omega (arith, h, a.height)))))
    (cases_lt r s.shown.height)

pub alike-show_the_same : AlikeShowTheSame
alike-show_the_same s t i j a =
    let attrs = same-attrs s.attrs t.attrs i.attrs j.attrs a.fgcolor a.bgcolor a.flags in
    λ k. record {
      cell = λ r c. cells-same s t i j a r c k;
      wrapped = λ r. wraps-same s t i j a r k;
      row = a.row k;
      col = a.col k;
      hidden = a.hidden k;
      attrs = attrs k;
      modes = a.modes k;
      style = a.style k;
    }

pub ruleset reported = (each-cell_is_reported, each-wrap_is_reported, each-character_is_reported, alike-show_the_same)
