-- A text that is printed on a grid is input to the terminal that shows its rows.
use Rattle.std.proofs.Common.{◌≡◌, ℕ, suc, ◌+◌, ◌-◌, ◌<◌, ◌≤◌, ◌==◌, Bool, true, false, not, ◌&&◌, ◌||◌, nat_lt}
use Rattle.std.proofs.Common.{List, [], ◌∷◌, length, Some, sym, refl, ap, subst, ◌∙◌, arith, length-set, ⊎_elim}
use Rattle.std.specs.Prelude.{All, Contains}
use Rattle.std.specs.Char.{IsScalar}
use Rattle.std.proofs.lemmas.Bool.{cond_both, ne_eqb, cases_lt, cases_Bool}
use Rattle.vt100_forms.specs.declared.attrs.Attrs.{Attrs}
use Rattle.vt100_cells.specs.Cell.{CellView, IsCell, cell_of, columns_of, has_room, has_text, text_with, appended}
use Rattle.vt100_cells.specs.Cells.{cell_at}
use Rattle.vt100_cells.specs.Line.{span_of, base_col}
use Rattle.unicode_width.specs.Width.{str_width}
use Rattle.vt100_cells.proofs.CellLemmas.{IsCell-of}
use Rattle.vt100_cells.proofs.ListLemmas.{length-by_position}
use Rattle.vt100_rows.specs.Row.{RowView, placed, joined_row, is_widening}
use Rattle.vt100_rows.proofs.JoinLemmas.{IsRow-joined}
use Rattle.terminal_model.specs.Apply.{is_dropped, input, inputs, apply}
use Rattle.vt100_rows.specs.Sheet.{row_at, IsRowOf}
use Rattle.vt100_rows.proofs.SheetLemmas.{IsSheet-with_row}
use Rattle.vt100_core.specs.Grid.{GridView, row_of_cursor, with_cursor_row}
use Rattle.vt100_core.specs.Picture.{grid_size, Extras, term_of_grid, EachTextIsInput}
use Rattle.vt100_core.specs.Scroll.{made_to_fit}
use Rattle.vt100_core.specs.Text.{PrintedGrid, put_at, printed, printed_all}
use Rattle.vt100_core.proofs.TextLemmas.{printed-dropped, printed-joined, printed-spaced, IsDrawn-here}
use Rattle.vt100_core.proofs.TextLemmas.{span_of-cell, IsMade-made, IsRowOf-placed, unwrapped-placed, or-false}
use Rattle.vt100_core.proofs.InputLemmas.{IsDrawable, IsDrawable-parts, IsDrawable-col, IsDrawable-plain, IsNext}
use Rattle.vt100_core.proofs.InputLemmas.{IsNext-made, here, cursor_row, spaced-is, joined-plain, joined-is}
use Rattle.vt100_core.proofs.InputLemmas.{input-dropped, input-joined, input-spaced}

-- ---- only U+FE0F makes a cell wide

none-more : (p : Bool) → ((p || false) && not p) ≡ false
none-more true = refl
none-more false = refl

and-not : (p : Bool) → (p && not p) ≡ false
and-not true = refl
and-not false = refl

plain-narrow : (y : CellView) (c : ℕ) → (c == 0xFE0F) ≡ false → ((appended y c).wide && not y.wide) ≡ false
plain-narrow y c e =
    cond_both (has_room y.text) _ y (λ (w : CellView). (w.wide && not y.wide) ≡ false)
    (λ _. ap (λ b. (y.wide || (b && nat_lt 1 (str_width false (text_with y.text c)))) && not y.wide) e
    ∙ none-more y.wide)
    (λ _. and-not y.wide)

pub narrow-plain : (v : RowView) (col c : ℕ) → (c ≡ 0xFE0F → ⊥) → is_widening v col c ≡ false
narrow-plain v col c ne = plain-narrow (cell_at v.cells (base_col (cell_at v.cells) col)) c (ne_eqb c 0xFE0F ne)

-- ---- the grid after a character

IsDrawable-row : (g : GridView) (v : RowView) → IsDrawable g → IsRowOf g.width v
    → ((row_of_cursor g).wrapped ≡ false → v.wrapped ≡ false) → IsDrawable (with_cursor_row g v)
IsDrawable-row g v d row keeps =
    IsDrawable-parts g _ g.row g.col g.kept d
    (IsSheet-with_row g.height g.width g.rows g.row v d.sheet (here g d) row (λ e.
    let at : g.row ≡ g.height - 1 = omega (arith, e) in keeps (ap (λ k. (row_at g.rows k).wrapped) at ∙ d.sheet.last)))
    (omega (arith, length-set g.rows g.row v, d.some)) d.row d.col

IsDrawable-put : (g : GridView) (x : CellView) (a : Attrs) (n : ℕ) → IsDrawable g → IsCell x → has_text x ≡ true
    → n ≡ span_of x → g.col + n ≤ g.width → IsDrawable (put_at g x a n)
IsDrawable-put g x a n d cell text e l =
    let v = row_of_cursor g in
    IsDrawable-col (with_cursor_row g (placed v g.col x a)) (g.col + n)
    (IsDrawable-row g (placed v g.col x a) d
    (IsRowOf-placed g.width v g.col x a (cursor_row g d) cell text (omega (arith, e))) (unwrapped-placed v g.col x a))
    l

IsNext-printed : (g : GridView) (x : Extras) (c : ℕ) → IsDrawable g → IsScalar c → (c ≡ 0xFE0F → ⊥)
    → IsNext g x (input (grid_size g) c (term_of_grid g x)) (printed g c x.attrs).grid
IsNext-printed g x c d scalar plain =
    let z = grid_size g in
    let t = term_of_grid g x in
    let a = x.attrs in
    let n = columns_of c in
    ⊎_elim
    (λ (e : is_dropped g.width g.col c ≡ true).
    subst (IsNext g x (input z c t)) (sym (ap (λ (s : PrintedGrid). s.grid) (printed-dropped g c a e)))
    (record { shows = sym (input-dropped z c t e); size = refl; drawable = d }))
    (λ (e : is_dropped g.width g.col c ≡ false).
    let drawn = IsDrawn-here g c n e refl in
    ⊎_elim
    (λ (h : 0 < n).
    let next = IsNext-made g x n d in
    let visible = (or-false _ _ e).0 in
    subst (IsNext g x (input z c t)) (sym (ap (λ (s : PrintedGrid). s.grid) (printed-spaced g c a e h)))
    (record {
      shows = spaced-is g x c d h drawn.fits ∙ sym (input-spaced z c t e h);
      size = next.size;
      drawable = IsDrawable-put (made_to_fit g n true).grid (cell_of c a) a n next.drawable
          (IsCell-of c a scalar visible h) refl (span_of-cell c n a refl h) (IsMade-made g n true drawn.fits).fits;
    }))
    (λ (h : n ≤ 0).
    let k : n ≡ 0 = omega (arith, h) in
    let after = drawn.after k in
    let v = row_of_cursor g in
    let r = cursor_row g d in
    let narrow = narrow-plain v g.col c plain in
    subst (IsNext g x (input z c t))
    (sym (ap (λ (s : PrintedGrid). s.grid) (printed-joined g c a e k) ∙ joined-plain g c a narrow))
    (record {
      shows = ap (λ (s : GridView). term_of_grid s x) (sym (joined-plain g c a narrow)) ∙ joined-is g x c d after narrow
          ∙ sym (input-joined z c t e k);
      size = refl;
      drawable = IsDrawable-row g (joined_row v g.col c) d
          (record {
            row = IsRow-joined v g.col c r.row scalar (drawn.drawn ∙ ap Some k) after (omega (arith, r.wide, d.col))
                narrow;
            wide = length-by_position (length v.cells) _ ∙ r.wide;
          })
          (λ w. w);
    }))
    (cases_lt 0 n))
    (cases_Bool (is_dropped g.width g.col c))

all-input : (cs : List ℕ) (g : GridView) (x : Extras) → IsDrawable g → All IsScalar cs → (Contains cs 0xFE0F → ⊥)
    → term_of_grid (printed_all g cs x.attrs).grid x ≡ inputs (grid_size g) cs (term_of_grid g x)
all-input [] g x d scalars plain = refl
all-input (c ∷ cs) g x d scalars plain =
    let next = IsNext-printed g x c d (scalars 0 c (omega arith)) (λ e. plain (0, omega arith, e)) in
    let after = (printed g c x.attrs).grid in
    all-input cs after x next.drawable (λ k b l. scalars (suc k) b (omega arith))
    (λ q. plain (suc q.0, (let l = q.1 in omega arith), q.2))
    ∙ ap (λ z. inputs z cs (term_of_grid after x)) next.size ∙ ap (inputs (grid_size g) cs) next.shows

pub text-is_input : EachTextIsInput
unfolding apply
text-is_input g x cs p scalars plain = all-input cs g x (IsDrawable-plain g p) scalars plain
