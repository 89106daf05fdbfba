-- Moving the cursor to its place: what the forms make of a terminal, and which cells they touch.
use Rattle.std.proofs.Common.{◌≡◌, ℕ, ◌+◌, ◌-◌, ◌<◌, true, false, nat_lt, List, [], ◌∷◌, ◌++◌, Option, Some, None}
use Rattle.std.proofs.Common.{arith}
use Rattle.std.proofs.Common.{refl, sym, ap, subst, ◌∙◌}
use Rattle.std.specs.Prelude.{replicate}
use Rattle.std.proofs.lemmas.Bool.{cond_both, false≢true, ltb-true, ltb-false}
use Rattle.unicode_width.specs.Width.{char_width}
use Rattle.vt100_forms.specs.declared.attrs.Attrs.{Attrs}
use Rattle.vt100_forms.specs.declared.position.Pos.{Pos}
use Rattle.vt100_forms.specs.Attrs.{IsProper}
use Rattle.vt100_forms.specs.Form.{Form, Text, EraseChar, Lf, Backspace, SaveCursor, RestoreCursor, change}
use Rattle.vt100_forms.proofs.AttrsLemmas.{default-proper}
use Rattle.vt100_cells.specs.Cell.{CellView, has_text, empty_cell, cell_of}
use Rattle.vt100_cells.specs.Line.{put}
use Rattle.terminal_model.specs.Position.{update}
use Rattle.terminal_model.specs.Term.{Size, Shown, Saved, Term, shown_of, term_of}
use Rattle.terminal_model.specs.Apply.{apply, run}
use Rattle.terminal_model.specs.Touch.{Within}
use Rattle.terminal_model.proofs.FormLemmas.{run-joined, change-read}
use Rattle.terminal_model.proofs.TouchLemmas.{within-joined}
use Rattle.row_drawing.proofs.Steps.{at, sends-space, span-space}
use Rattle.row_drawing.proofs.RowEnd.{span-few}
use Rattle.screen_drawing.specs.Cursor.{place, arriving, is_pen_at, end_col, end_cell, row_with_end, wait_behind}
use Rattle.screen_drawing.specs.Cursor.{wait_on_empty, wait, cursor_position_formatted}
use Rattle.screen_drawing.specs.Screen.{cursor_state_formatted}
use Rattle.screen_drawing.specs.Laws.{IsDrawable, EachCursorIsPlaced, EachCursorStateIsSet}
use Rattle.screen_drawing.specs.Local.{row_or, waiting_row}
use Rattle.screen_drawing.proofs.CursorForms.{last-of, Known, arrives, stays-at, fed, printed-again, no-text_end}
use Rattle.screen_drawing.proofs.CursorForms.{space-printed, saved_at, wiped-back, Ends, ends, known-at}
use Rattle.screen_drawing.proofs.LocalCursor.{change-within, arriving-within, fed-within, IsEndRoom, print-within}
use Rattle.screen_drawing.proofs.LocalCursor.{wipes-within}

-- ---- lists of forms

-- they take t to u, and touch only cells of S
record Comes (S : ℕ → ℕ → Type 0) (z : Size) (fs : List Form) (t u : Term) : Type 0 where
  leads : run z fs t ≡ u
  within : Within S z fs t

comes-then : {S : ℕ → ℕ → Type 0} {z : Size} {fs gs : List Form} {t u v : Term} → Comes S z fs t u
    → Comes S z gs u v → Comes S z (fs ++ gs) t v
comes-then {S = S} {z = z} {fs = fs} {gs = gs} {t = t} a b = record {
  leads = run-joined z fs gs t ∙ ap (run z gs) a.leads ∙ b.leads;
  within = within-joined S z fs gs t a.within (subst (Within S z gs) (sym a.leads) b.within);
}

-- ---- the end of a row

module _ (S : ℕ → ℕ → Type 0) (z : Size) (s : Shown) (h : IsDrawable z s) where
  changes : (t : Term) (r c : ℕ) (C : ℕ → ℕ → CellView) (a b : Attrs) → IsProper a → IsProper b
      → Comes S z (change a b) (at t C s.wrapped r c a) (at t C s.wrapped r c b)
  changes t r c C a b ha hb = record {
    leads = change-read z (at t C s.wrapped r c a) a b refl ha hb;
    within = change-within S z a b (at t C s.wrapped r c a);
  }

  goes : (t : Term) (a : Attrs) (p : Option Pos) (r c row col : ℕ) → Known p r c → row < z.rows → col < z.cols
      → Comes S z (arriving p (place row col)) (at t s.cell s.wrapped r c a) (at t s.cell s.wrapped row col a)
  goes t a p r c row col k hr hc = record {
    leads = arrives z t s.cell s.wrapped a p r c row col k hr hc;
    within = arriving-within S z p r c row col (at t s.cell s.wrapped r c a) k refl hr;
  }

  module _ (row : ℕ) (l : row < z.rows) (room : IsEndRoom S z s row) (t : Term) (p : Option Pos) (a : Attrs) (r c : ℕ)
      (ha : IsProper a) (k : Known p r c) where
    -- the last cell is printed again
    behind : has_text (end_cell z s.cell row) ≡ true
        → Comes S z (wait_behind z s.cell p a row) (at t s.cell s.wrapped r c a) (at t s.cell s.wrapped row z.cols a)
    unfolding wait_behind
    behind some =
        let last = last-of z t s row h l in
        let n = end_col z s.cell row in
        let x = end_cell z s.cell row in
        let few = span-few x in
        let u = at t s.cell s.wrapped r c a in
        let v = at t s.cell s.wrapped row z.cols a in
        let prints : Comes S z (Text x.text ∷ []) (at t s.cell s.wrapped row n x.attrs)
        (at t s.cell s.wrapped row z.cols x.attrs) = record {
          leads = printed-again z t s row h l some;
          within = print-within S z s h row l room t n x x.attrs (last.sent some) last.up_to last.whole (λ e. e);
        } in
        cond_both (is_pen_at p (place row z.cols)) [] _ (λ fs. Comes S z fs u v)
        (λ e. record { leads = stays-at t s.cell s.wrapped a p r c row z.cols k e; within = tt })
        (λ _. comes-then (goes t a p r c row n k l (omega (arith, last.up_to, few)))
        (comes-then (changes t row n s.cell a x.attrs ha (h.proper row n))
        (comes-then prints (changes t row z.cols s.cell x.attrs a (h.proper row n) ha))))

    -- a space is printed in the last column, and erased
    on_empty : has_text (end_cell z s.cell row) ≡ false
        → Comes S z (wait_on_empty z p a row (s.cell row (z.cols - 1))) (at t s.cell s.wrapped r c a)
        (at (saved_at t row (z.cols - 1 + 1) (s.cell row (z.cols - 1)).attrs) s.cell s.wrapped row (z.cols - 1 + 1) a)
    unfolding wait_on_empty char_width
    on_empty none =
        let n = z.cols - 1 in
        let b = (s.cell row n).attrs in
        let hb = h.proper row n in
        let end : n + 1 ≡ z.cols = omega (arith, h.shown.some_col) in
        let is : s.cell row n ≡ empty_cell b = no-text_end z t s row h l none in
        let one = span-space a in
        let D = update s.cell row (put (s.cell row) n (cell_of 32 a) a) in
        let spaces : Comes S z (Text (32 ∷ []) ∷ []) (at t s.cell s.wrapped row n a) (at t D s.wrapped row (n + 1) a) =
        record {
          leads = space-printed z t s.cell s.wrapped row n a (omega (arith, end));
          within = print-within S z s h row l room t n (cell_of 32 a) a (sends-space a) (omega (arith, one, end))
              (ap (λ (y : CellView). y.continuation) is) (λ e. absurd (false≢true e));
        } in
        let wipes : Comes S z (SaveCursor ∷ Backspace ∷ EraseChar 1 ∷ RestoreCursor ∷ [])
        (at t D s.wrapped row (n + 1) b) (at (saved_at t row (n + 1) b) s.cell s.wrapped row (n + 1) b) = record {
          leads = wiped-back z t s row a h l none;
          within = wipes-within S z s h row l room t n a b end;
        } in
        comes-then (goes t a p r c row n k l (omega (arith, end)))
        (comes-then spaces (comes-then (changes t row (n + 1) D a b ha hb)
        (comes-then wipes (changes (saved_at t row (n + 1) b) row (n + 1) s.cell b a hb ha))))

  -- ---- the cursor

  -- the picture is as before, but the cursor is that of s
  record IsPlaced (fs : List Form) (t : Term) (a : Attrs) (u : Term) : Type 0 where
    leads : shown_of (run z fs u) ≡ shown_of (at t s.cell s.wrapped s.row s.col a)
    within : Within S z fs u

  module _ (t : Term) (p : Option Pos) (a : Attrs) (r c : ℕ) (ha : IsProper a) (k : Known p r c) where
    waits : (o : Option ℕ) → s.col ≡ z.cols → Ends z s s.row o → IsEndRoom S z s (row_or s.row o)
        → IsPlaced (wait z s.cell p a s.row o) t a (at t s.cell s.wrapped r c a)
    unfolding wait Ends
    waits None there e room =
        let b = (s.cell s.row (z.cols - 1)).attrs in
        let all : z.cols - 1 + 1 ≡ s.col = omega (arith, h.shown.some_col, there) in
        let w = on_empty s.row h.shown.in_rows room t p a r c ha k e in
        record {
          leads = ap shown_of w.leads ∙ ap (λ m. shown_of (at t s.cell s.wrapped s.row m a)) all;
          within = w.within;
        }
    waits (Some i) there e room =
        let up = e.0 in
        let inside : i < z.rows = omega (arith, up, h.shown.in_rows) in
        let feeds : Comes S z (replicate (s.row - i) Lf) (at t s.cell s.wrapped i z.cols a)
        (at t s.cell s.wrapped s.row z.cols a) = record {
          leads = fed z t s.cell s.wrapped a z.cols (s.row - i) i s.row (omega (arith, up)) h.shown.in_rows;
          within = fed-within S z t s.cell s.wrapped a z.cols (s.row - i) i s.row (omega (arith, up))
              h.shown.in_rows;
        } in
        let w = comes-then (behind i inside room t p a r c ha k e.1) feeds in
        record {
          leads = ap shown_of w.leads ∙ ap (λ m. shown_of (at t s.cell s.wrapped s.row m a)) (sym there);
          within = w.within;
        }

    cursor : (s.col ≡ z.cols → IsEndRoom S z s (waiting_row z s))
        → IsPlaced (cursor_position_formatted z s p a) t a (at t s.cell s.wrapped r c a)
    unfolding cursor_position_formatted
    cursor room =
        let u = at t s.cell s.wrapped r c a in
        cond_both (nat_lt s.col z.cols) (arriving p (place s.row s.col)) _ (λ fs. IsPlaced fs t a u)
        (λ l. let g = goes t a p r c s.row s.col k h.shown.in_rows (ltb-true s.col z.cols l) in
        record { leads = ap shown_of g.leads; within = g.within })
        (λ l. cond_both (is_pen_at p (place s.row s.col)) [] _ (λ fs. IsPlaced fs t a u)
        (λ e. record { leads = ap shown_of (stays-at t s.cell s.wrapped a p r c s.row s.col k e); within = tt })
        (λ _. let past = ltb-false s.col z.cols l in
        let there : s.col ≡ z.cols = omega (arith, past, h.shown.in_cols) in
        waits (row_with_end z s.cell s.row) there (ends z s s.row) (room there)))

-- if the cursor of s is past the last column, the last cell of one row may be touched
pub cursor-within : (S : ℕ → ℕ → Type 0) (z : Size) (t : Term) (s : Shown) (p : Option Pos) (a : Attrs) (r c : ℕ)
    → IsDrawable z s → IsProper a → Known p r c → (s.col ≡ z.cols → IsEndRoom S z s (waiting_row z s))
    → Within S z (cursor_position_formatted z s p a) (at t s.cell s.wrapped r c a)
cursor-within S z t s p a r c h ha k room = (cursor S z s h t p a r c ha k room).within

pub cursor-run : (z : Size) (t : Term) (s : Shown) (p : Option Pos) (a : Attrs) (r c : ℕ) → IsDrawable z s
    → IsProper a → Known p r c
    → shown_of (run z (cursor_position_formatted z s p a) (at t s.cell s.wrapped r c a))
    ≡ shown_of (at t s.cell s.wrapped s.row s.col a)
cursor-run z t s p a r c h ha k =
    (cursor (λ i j. Unit {0}) z s h t p a r c ha k
    (λ _. record { last = λ i e. tt; first = λ i e w. tt })).leads

-- ---- laws

drawn-as : (z : Size) (s from : Shown) (v : Saved) → from.cell ≡ s.cell → from.wrapped ≡ s.wrapped
    → term_of from v ≡ at (term_of from v) s.cell s.wrapped from.row from.col from.attrs
drawn-as z s from v ec ew = λ i. at (term_of from v) (ec i) (ew i) from.row from.col from.attrs

pub cursor-placed : EachCursorIsPlaced
cursor-placed z s from p h ha ec ew k v hv =
    ap (λ t. shown_of (run z (cursor_position_formatted z s p from.attrs) t)) (drawn-as z s from v ec ew)
    ∙ cursor-run z (term_of from v) s p from.attrs from.row from.col h ha (known-at p from k)
    ∙ (λ i. record from { cell = sym ec i; wrapped = sym ew i; row = s.row; col = s.col })

pub cursor-state_set : EachCursorStateIsSet
unfolding cursor_state_formatted apply
cursor-state_set z s from h ea ec ew v hv =
    let f : Shown = record from { hidden = s.hidden } in
    ap (λ (a : Attrs). shown_of (run z (cursor_position_formatted z s None a) (term_of f v))) (sym ea)
    ∙ cursor-placed z s f None h (subst IsProper (sym ea) default-proper) ec ew tt v hv
