-- The calls of forms have the forms' effect on a view.
use Rattle.std.proofs.Common.{◌≡◌, ℕ, ◌+◌, ◌<◌, ◌≤◌, ◌==◌, Bool, true, false, cond, not, ◌&&◌, ◌||◌}
use Rattle.std.proofs.Common.{nat_lt, nat_le, Some, refl, sym, ap, ◌∙◌, arith, rules, ⊎_elim}
use Rattle.std.proofs.lemmas.Bool.{cond_both, ne_eqb, eq-eqb, lt-ltb, le-ltb, ltb-true, cases_lt}
use Rattle.std.proofs.lemmas.Bool.Decides.{nat_tests}
use Rattle.std.proofs.Math.Bool.{and-false}
use mathlib.Core.Path.{fun_ext}
use Rattle.vte_types.specs.Call as call
use Rattle.vte_types.specs.declared.attr.Attr.TheVariants as a
use Rattle.vte_types.specs.declared.clear.ClearMode.TheVariants as screen
use Rattle.vte_types.specs.declared.color.NamedColor.TheVariants as n
use Rattle.vt100_forms.specs.declared.attrs.Attrs.{Attrs}
use Rattle.vt100_forms.specs.declared.attrs.Color.{Color}
use Rattle.vt100_forms.specs.declared.attrs.Color.TheVariants.{Default, Idx, Rgb}
use Rattle.vt100_forms.specs.declared.modes.CursorStyle.{CursorStyle}
use Rattle.vt100_forms.specs.declared.modes.CursorStyle.TheVariants as style
use Rattle.vt100_forms.specs.declared.modes.MouseProtocolEncoding.{MouseProtocolEncoding}
use Rattle.vt100_forms.specs.declared.modes.MouseProtocolEncoding.TheVariants as encoding
use Rattle.vt100_forms.specs.declared.modes.MouseProtocolMode.{MouseProtocolMode}
use Rattle.vt100_forms.specs.declared.modes.MouseProtocolMode.TheVariants as mouse
use Rattle.vt100_forms.specs.Form.{ClearScreen, mouse_number, encoding_number}
use Rattle.vt100_cells.specs.Cell.{CellView, default_cell, empty_cell}
use Rattle.vt100_cells.specs.Line.{wiped, wipe_unflags}
use Rattle.terminal_model.specs.Position.{update}
use Rattle.terminal_model.specs.Term.{Size, Term, IsTerm}
use Rattle.terminal_model.specs.Apply.{input, erase, with_line, apply, switched}
use Rattle.forms_read.specs.Calls.{name_of, color_reported, style_reported, set_call, reset_call}
use Rattle.forms_read.specs.Terminals.{ReadsAttributes, ReadsCalls}
use Rattle.forms_read.proofs.Reported.{Below, each-below}
use Rattle.termview.specs.Step.{printed, erase_below, named_color, with_foreground, with_background, with_attr}
use Rattle.termview.specs.Step.{view_step}

-- ---- colours

names : Below (λ i. named_color (name_of i) ≡ Some (Idx i)) 16
names = search rules

named-is : (i : ℕ) → i < 16 → named_color (name_of i) ≡ Some (Idx i)
named-is i l = each-below (λ j. named_color (name_of j) ≡ Some (Idx j)) 16 i names l

fore-is : (c : Color) (x : Attrs) → with_attr (a.Foreground (color_reported n.Foreground c)) x
    ≡ record x { fgcolor = c }
fore-is Default x = refl
fore-is (Idx i) x =
    cond_both (nat_lt i 16) _ _ (λ y. with_attr (a.Foreground y) x ≡ record x { fgcolor = Idx i })
    (λ e. ap (λ o. with_foreground o x) (named-is i (ltb-true i 16 e))) (λ _. refl)
fore-is (Rgb r g b) x = refl

back-is : (c : Color) (x : Attrs) → with_attr (a.Background (color_reported n.Background c)) x
    ≡ record x { bgcolor = c }
back-is Default x = refl
back-is (Idx i) x =
    cond_both (nat_lt i 16) _ _ (λ y. with_attr (a.Background y) x ≡ record x { bgcolor = Idx i })
    (λ e. ap (λ o. with_background o x) (named-is i (ltb-true i 16 e))) (λ _. refl)
back-is (Rgb r g b) x = refl

pub attributes-read : ReadsAttributes with_attr
attributes-read = record {
  reset = λ x. refl;
  bold = λ x. refl;
  dim = λ x. refl;
  normal = λ x. refl;
  italic = λ x. refl;
  upright = λ x. refl;
  underline = λ x. refl;
  no_line = λ x. refl;
  inverse = λ x. refl;
  positive = λ x. refl;
  foreground = λ c x _. fore-is c x;
  background = λ c x _. back-is c x;
}

-- ---- the screen

below-first : (row r : ℕ) → nat_lt row r ≡ false → row ≡ 0 → r ≡ row
below-first row r e z = grind (arith, nat_tests)

wiped-in : (f : ℕ → CellView) (s e : ℕ) (x : Attrs) (k : ℕ) → s ≡ 0 → k < e → wiped f s e x k ≡ empty_cell x
wiped-in f s e x k z l = grind (arith, nat_tests)

half-none : (p q r : Bool) (x y : CellView) → cond (p && ((q && false) || (r && false))) x y ≡ y
half-none false q r x y = refl
half-none true q r x y = simp and-false

wiped-out : (f : ℕ → CellView) (s e : ℕ) (x : Attrs) (k : ℕ) → e ≤ k → f k ≡ default_cell
    → wiped f s e x k ≡ default_cell
wiped-out f s e x k l d =
    let past : (nat_le s k && nat_lt k e) ≡ false = grind (arith, nat_tests) in
    let of : Bool → CellView → CellView = λ b y. cond b (empty_cell x)
    (cond (nat_lt s e && ((((k + 1) == s) && y.wide) || ((k == e) && y.continuation))) (empty_cell y.attrs) y) in
    (λ i. of (past i) (d i))
    ∙ half-none (nat_lt s e) ((k + 1) == s) (k == e) (empty_cell default_cell.attrs) default_cell

all-unflags : (f : ℕ → CellView) (cols s : ℕ) → s ≡ 0 → 0 < cols → wipe_unflags cols f s cols ≡ true
all-unflags f cols s z some = grind (arith, nat_tests)

cleared-cell : (z : Size) (t : Term) (r k : ℕ) → IsTerm z t → t.row ≡ 0 → t.col ≡ 0
    → cond (nat_lt t.row r) (cond (nat_lt r z.rows && nat_lt k z.cols) (empty_cell t.attrs) default_cell)
    (update t.cell t.row (wiped (t.cell t.row) t.col z.cols t.attrs) r k)
    ≡ cond (nat_lt r z.rows && nat_lt k z.cols) (empty_cell t.attrs) default_cell
unfolding update
cleared-cell z t r k h row col =
    cond_both (nat_lt t.row r) _ _ (λ x. x
    ≡ cond (nat_lt r z.rows && nat_lt k z.cols) (empty_cell t.attrs) default_cell) (λ _. refl)
    (λ e. let zero-row : r ≡ t.row = below-first t.row r e row in
    let at : (r == t.row) ≡ true = eq-eqb r t.row zero-row in
    let tall : nat_lt r z.rows ≡ true = lt-ltb r z.rows (omega (arith, zero-row, row, h.some_row)) in
    let w = wiped (t.cell t.row) t.col z.cols t.attrs in
    let blank = empty_cell t.attrs in
    ap (λ b. (cond b w (t.cell r)) k) at
    ∙ ⊎_elim
    (λ (l : k < z.cols). wiped-in (t.cell t.row) t.col z.cols t.attrs k col l
    ∙ sym (ap (λ b. cond (b && nat_lt k z.cols) blank default_cell) tall
    ∙ ap (λ b. cond b blank default_cell) (lt-ltb k z.cols l)))
    (λ (l : z.cols ≤ k). wiped-out (t.cell t.row) t.col z.cols t.attrs k l (h.beyond t.row k l)
    ∙ sym (ap (λ b. cond (b && nat_lt k z.cols) blank default_cell) tall
    ∙ ap (λ b. cond b blank default_cell) (le-ltb k z.cols l)))
    (cases_lt k z.cols))

cleared-flag : (z : Size) (t : Term) (r : ℕ) → IsTerm z t → t.row ≡ 0 → t.col ≡ 0
    → cond (nat_lt t.row r) false (cond (not (wipe_unflags z.cols (t.cell t.row) t.col z.cols)) t.wrapped
    (update t.wrapped t.row false) r) ≡ false
unfolding update
cleared-flag z t r h row col =
    cond_both (nat_lt t.row r) _ _ (λ x. x ≡ false) (λ _. refl)
    (λ e. let zero-row : r ≡ t.row = below-first t.row r e row in
    let at : (r == t.row) ≡ true = eq-eqb r t.row zero-row in
    let goes : wipe_unflags z.cols (t.cell t.row) t.col z.cols ≡ true =
    all-unflags (t.cell t.row) z.cols t.col col h.some_col in
    rw (goes, at) refl)

screen-is : (z : Size) (t : Term) → IsTerm z t → t.row ≡ 0 → t.col ≡ 0
    → view_step z (call.clear_screen screen.Below) t ≡ apply z ClearScreen t
unfolding view_step erase_below erase with_line apply
screen-is z t h row col =
    let cells = fun_ext (λ r. fun_ext (λ k. cleared-cell z t r k h row col)) in
    let flags = fun_ext (λ r. cleared-flag z t r h row col) in
    λ i. record t { cell = cells i; wrapped = flags i; row = row i; col = col i }

-- ---- modes

mouse-set : (z : Size) (m : MouseProtocolMode) (t : Term) → (m ≡ mouse.None → ⊥)
    → view_step z (set_call (mouse_number m)) t ≡ record t { modes = record (t.modes) { mouse = m } }
unfolding view_step
mouse-set z mouse.None t ne = absurd (ne refl)
mouse-set z _ t ne = refl

mouse-reset : (z : Size) (m : MouseProtocolMode) (t : Term) → (m ≡ mouse.None → ⊥)
    → view_step z (reset_call (mouse_number m)) t ≡ record t {
      modes = record (t.modes) { mouse = switched mouse_number mouse.None m t.modes.mouse };
    }
unfolding view_step
mouse-reset z mouse.None t ne = absurd (ne refl)
mouse-reset z _ t ne = refl

encoding-set : (z : Size) (m : MouseProtocolEncoding) (t : Term) → (m ≡ encoding.Default → ⊥)
    → view_step z (set_call (encoding_number m)) t ≡ record t { modes = record (t.modes) { encoding = m } }
unfolding view_step
encoding-set z encoding.Default t ne = absurd (ne refl)
encoding-set z _ t ne = refl

encoding-reset : (z : Size) (m : MouseProtocolEncoding) (t : Term) → (m ≡ encoding.Default → ⊥)
    → view_step z (reset_call (encoding_number m)) t ≡ record t {
      modes = record (t.modes) { encoding = switched encoding_number encoding.Default m t.modes.encoding };
    }
unfolding view_step
encoding-reset z encoding.Default t ne = absurd (ne refl)
encoding-reset z _ t ne = refl

style-is : (z : Size) (s : CursorStyle) (t : Term)
    → view_step z (call.set_cursor_style (style_reported s)) t ≡ record t { style = s }
unfolding view_step
style-is z style.Default t = refl
style-is z _ t = refl

input-is : (z : Size) (c : ℕ) (t : Term) → (c ≡ 0xFFFD → ⊥) → view_step z (call.input c) t ≡ input z c t
unfolding view_step printed
input-is z c t ne = ap (λ b. cond b t (input z c t)) (ne_eqb c 0xFFFD ne)

pub calls-read : (z : Size) → ReadsCalls view_step with_attr z
unfolding view_step
calls-read z = record {
  prints = input-is z;
  goto = λ r k t. refl;
  forward = λ k t. refl;
  backspace = λ t. refl;
  carriage_return = λ t. refl;
  linefeed = λ t. refl;
  erase_chars = λ k t. refl;
  clear_line = λ t. refl;
  clear_screen = screen-is z;
  saves = λ t. refl;
  restores = λ t. refl;
  attributes = λ x t. refl;
  style = style-is z;
  keypad = λ t. refl;
  no_keypad = λ t. refl;
  keys = λ t. refl;
  no_keys = λ t. refl;
  hides = λ t. refl;
  reveals = λ t. refl;
  paste = λ t. refl;
  no_paste = λ t. refl;
  mouse_set = mouse-set z;
  mouse_reset = mouse-reset z;
  encoding_set = encoding-set z;
  encoding_reset = encoding-reset z;
}
