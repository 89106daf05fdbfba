-- What each step keeps true of a terminal.
use Rattle.std.proofs.Common.{◌≡◌, ℕ, ◌+◌, ◌-◌, ◌<◌, ◌≤◌, ◌==◌, Bool, true, false, cond, not, ◌&&◌, ◌||◌, nat_lt}
use Rattle.std.proofs.Common.{nat_le, List, [], ◌∷◌, min, sym, refl, ap, ◌∙◌, arith}
use Rattle.std.proofs.lemmas.Bool.{false≢true, cond_both, eqb-true, ltb-true, ltb-false, leb-true, not-true, and_parts}
use Rattle.std.proofs.lemmas.Bool.Decides.{nat_tests}
use Rattle.vt100_forms.specs.Form.{Form, Text, MoveTo, MoveRight, EraseChar, ClearRowForward, ClearScreen}
use Rattle.vt100_forms.specs.Form.{Crlf, Lf, Backspace, SaveCursor, RestoreCursor}
use Rattle.vt100_forms.specs.declared.attrs.Attrs.{Attrs}
use Rattle.vt100_forms.specs.declared.modes.CursorStyle.{CursorStyle}
use Rattle.vt100_cells.specs.Cell.{CellView, default_cell, empty_cell, cell_of, columns_of, is_undrawable, is_filled}
use Rattle.vt100_cells.specs.Cell.{appended_in_place}
use Rattle.vt100_cells.specs.Line.{IsPaired, Bounded, span_of, put, put_unflags, base_col, wiped, wipe_unflags}
use Rattle.vt100_cells.proofs.LineLemmas.{Bounded-wiped, IsPaired-wiped, wiped-last, Bounded-put, IsPaired-put}
use Rattle.vt100_cells.proofs.LineLemmas.{put-filled}
use Rattle.vt100_cells.proofs.JoinedCells.{base_col-whole, base_col-within, plain-continuation, plain-wide}
use Rattle.vt100_cells.proofs.JoinedCells.{plain-filled, Bounded-update, update-last}
use Rattle.terminal_model.specs.Position.{update}
use Rattle.terminal_model.specs.Term.{Size, Modes, Term, IsTerm}
use Rattle.terminal_model.specs.Apply.{with_line, erase, print, join, down, wrap, made_to_fit, is_dropped, input}
use Rattle.terminal_model.specs.Apply.{inputs}
use Rattle.terminal_model.specs.Apply.{apply, run}

-- ---- another line, another cursor

kept_flag : (w : ℕ → Bool) (stays : Bool) (i r : ℕ) → (cond stays w (update w i false)) r ≡ true → (w r ≡ true)
    × (r ≡ i → stays ≡ true)
unfolding update
kept_flag w true i r h = (h, λ _. refl)
kept_flag w false i r h = (grind (arith, nat_tests), λ e. grind (arith, nat_tests))

cleared_flag : (w : ℕ → Bool) (stays : Bool) (i r : ℕ) → w r ≡ false → (cond stays w (update w i false)) r ≡ false
unfolding update
cleared_flag w true i r h = h
cleared_flag w false i r h = cond_both (r == i) false (w r) (λ b. b ≡ false) (λ _. refl) (λ _. h)

pub IsTerm-with_line : (z : Size) (t : Term) (g : ℕ → CellView) (stays : Bool) → IsTerm z t → IsPaired g
    → Bounded z.cols g
    → (stays ≡ true → t.wrapped t.row ≡ true → is_filled (g (z.cols - 1)) ≡ true) → IsTerm z (with_line t g stays)
unfolding with_line update
IsTerm-with_line z t g stays h p b full = record {
  some_row = h.some_row;
  some_col = h.some_col;
  paired = λ r. cond_both (r == t.row) g (t.cell r) IsPaired (λ _. p) (λ _. h.paired r);
  beyond = λ r. cond_both (r == t.row) g (t.cell r) (Bounded z.cols) (λ _. b) (λ _. h.beyond r);
  below = λ r k l. cond_both (r == t.row) g (t.cell r) (λ f. f k ≡ default_cell) (λ e.
      let at : r ≡ t.row = eqb-true r t.row e in absurd (omega (arith, h.in_rows))) (λ _. h.below r k l);
  below_flag = λ r l. cleared_flag t.wrapped stays t.row r (h.below_flag r l);
  filled = λ r w.
      let kept = kept_flag t.wrapped stays t.row r w in
      cond_both (r == t.row) g (t.cell r) (λ f. is_filled (f (z.cols - 1)) ≡ true)
      (λ e. let at : r ≡ t.row = eqb-true r t.row e in full (kept.1 at) (ap t.wrapped (sym at) ∙ kept.0))
      (λ _. h.filled r kept.0);
  last = cleared_flag t.wrapped stays t.row (z.rows - 1) h.last;
  in_rows = h.in_rows;
  in_cols = h.in_cols;
  saved_in_rows = h.saved_in_rows;
  saved_in_cols = h.saved_in_cols;
}

-- the same cells and flags, with the cursors and all else of another terminal
pub IsTerm-elsewhere : (z : Size) (t u : Term) → IsTerm z t → u.row < z.rows → u.col ≤ z.cols → u.saved_row < z.rows
    → u.saved_col ≤ z.cols → IsTerm z (record u { cell = t.cell; wrapped = t.wrapped })
IsTerm-elsewhere z t u h row col saved_row saved_col = record {
  some_row = h.some_row;
  some_col = h.some_col;
  paired = h.paired;
  beyond = h.beyond;
  below = h.below;
  below_flag = h.below_flag;
  filled = h.filled;
  last = h.last;
  in_rows = row;
  in_cols = col;
  saved_in_rows = saved_row;
  saved_in_cols = saved_col;
}

pub IsTerm-moved : (z : Size) (t : Term) (row col : ℕ) → IsTerm z t → row < z.rows → col ≤ z.cols
    → IsTerm z (record t { row = row; col = col })
IsTerm-moved z t row col h l m =
    IsTerm-elsewhere z t (record t { row = row; col = col }) h l m h.saved_in_rows h.saved_in_cols

-- what is drawn next, and the modes
pub IsTerm-set : (z : Size) (t : Term) (hidden : Bool) (a : Attrs) (m : Modes) (s : CursorStyle) → IsTerm z t
    → IsTerm z (record t { hidden = hidden; attrs = a; modes = m; style = s })
IsTerm-set z t hidden a m s h =
    IsTerm-elsewhere z t (record t { hidden = hidden; attrs = a; modes = m; style = s }) h h.in_rows h.in_cols
    h.saved_in_rows h.saved_in_cols

-- ---- the next row

IsPaired-default : IsPaired (λ k. default_cell)
IsPaired-default = record { first = refl; next = λ k. refl; blank = λ k e. absurd (false≢true e) }

and-off : (a b : Bool) → (a ≡ true → ⊥) → (a && b) ≡ false
and-off true b h = absurd (h refl)
and-off false b h = refl

-- the terminal with other flags, and the cursor in another column, moves down by a row
IsTerm-gone_down : (z : Size) (t : Term) (w : ℕ → Bool) (col : ℕ) → IsTerm z t
    → ((r : ℕ) → w r ≡ true → is_filled (t.cell r (z.cols - 1)) ≡ true) → ((r : ℕ) → z.rows ≤ r → w r ≡ false)
    → (t.row + 1 < z.rows → w (z.rows - 1) ≡ false) → col ≤ z.cols
    → IsTerm z (down z (record t { wrapped = w; col = col }))
unfolding down
IsTerm-gone_down z t w col h full below last l =
    cond_both (nat_lt (t.row + 1) z.rows)
    (record t { wrapped = w; col = col; row = t.row + 1 })
    (record t {
      cell = (λ r. cond (nat_lt (r + 1) z.rows) (t.cell (r + 1)) (λ k. default_cell));
      wrapped = (λ r. nat_lt (r + 1) z.rows && w (r + 1));
      col = col;
    })
    (IsTerm z)
    (λ e. let room : t.row + 1 < z.rows = ltb-true (t.row + 1) z.rows e in
    record {
      some_row = h.some_row;
      some_col = h.some_col;
      paired = h.paired;
      beyond = h.beyond;
      below = h.below;
      below_flag = below;
      filled = full;
      last = last room;
      in_rows = room;
      in_cols = l;
      saved_in_rows = h.saved_in_rows;
      saved_in_cols = h.saved_in_cols;
    })
    (λ e. record {
      some_row = h.some_row;
      some_col = h.some_col;
      paired = λ r. cond_both (nat_lt (r + 1) z.rows) (t.cell (r + 1)) (λ k. default_cell) IsPaired
          (λ _. h.paired (r + 1)) (λ _. IsPaired-default);
      beyond = λ r. cond_both (nat_lt (r + 1) z.rows) (t.cell (r + 1)) (λ k. default_cell) (Bounded z.cols)
          (λ _. h.beyond (r + 1)) (λ _ k m. refl);
      below = λ r k m. cond_both (nat_lt (r + 1) z.rows) (t.cell (r + 1)) (λ j. default_cell) (λ f. f k ≡ default_cell)
          (λ g. let on = ltb-true (r + 1) z.rows g in absurd (omega arith)) (λ _. refl);
      below_flag = λ r m. and-off (nat_lt (r + 1) z.rows) (w (r + 1)) (λ g. let on = ltb-true (r + 1) z.rows g
          in absurd (omega arith));
      filled = λ r x.
          let parts = and_parts (nat_lt (r + 1) z.rows) (w (r + 1)) x in
          cond_both (nat_lt (r + 1) z.rows) (t.cell (r + 1)) (λ k. default_cell) (λ f. is_filled (f (z.cols - 1))
          ≡ true) (λ _. full (r + 1) parts.1) (λ g. absurd (false≢true (sym g ∙ parts.0)));
      last = and-off (nat_lt (z.rows - 1 + 1) z.rows) (w (z.rows - 1 + 1)) (λ g.
          let on = ltb-true (z.rows - 1 + 1) z.rows g in absurd (omega arith));
      in_rows = h.in_rows;
      in_cols = l;
      saved_in_rows = h.saved_in_rows;
      saved_in_cols = h.saved_in_cols;
    })

pub IsTerm-down : (z : Size) (t : Term) (col : ℕ) → IsTerm z t → col ≤ z.cols
    → IsTerm z (down z (record t { col = col }))
IsTerm-down z t col h l = IsTerm-gone_down z t t.wrapped col h h.filled h.below_flag (λ _. h.last) l

pub IsTerm-wrap : (z : Size) (t : Term) → IsTerm z t → IsTerm z (wrap z t)
unfolding wrap update
IsTerm-wrap z t h =
    let b = is_filled (t.cell t.row (z.cols - 1)) in
    IsTerm-gone_down z t (update t.wrapped t.row b) 0 h
    (λ r x. (elim (r == t.row) as (λ c. (r == t.row) ≡ c → cond c b (t.wrapped r) ≡ true
    → is_filled (t.cell r (z.cols - 1)) ≡ true) [
      | true ↦ λ e y. ap (λ j. is_filled (t.cell j (z.cols - 1))) (eqb-true r t.row e) ∙ y
      | false ↦ λ e y. h.filled r y
    ]) refl x)
    (λ r l. cond_both (r == t.row) b (t.wrapped r) (λ c. c ≡ false) (λ e. let at : r ≡ t.row = eqb-true r t.row e
    in absurd (omega (arith, h.in_rows))) (λ _. h.below_flag r l))
    (λ room. cond_both ((z.rows - 1) == t.row) b (t.wrapped (z.rows - 1)) (λ c. c ≡ false) (λ e.
    let at : z.rows - 1 ≡ t.row = eqb-true (z.rows - 1) t.row e in absurd (omega arith)) (λ _. h.last))
    (omega arith)

wrap-col : (z : Size) (t : Term) → (wrap z t).col ≡ 0
unfolding wrap down
wrap-col z t = cond_both (nat_lt (t.row + 1) z.rows) _ _ (λ (u : Term). u.col ≡ 0) (λ _. refl) (λ _. refl)

pub IsTerm-made_to_fit : (z : Size) (n : ℕ) (t : Term) → IsTerm z t → IsTerm z (made_to_fit z n t)
unfolding made_to_fit
IsTerm-made_to_fit z n t h = cond_both (nat_le (t.col + n) z.cols) t (wrap z t) (IsTerm z) (λ _. h)
    (λ _. IsTerm-wrap z t h)

pub made_to_fit-room : (z : Size) (n : ℕ) (t : Term) → n ≤ z.cols → (made_to_fit z n t).col + n ≤ z.cols
unfolding made_to_fit
made_to_fit-room z n t l =
    cond_both (nat_le (t.col + n) z.cols) t (wrap z t) (λ (u : Term). u.col + n ≤ z.cols)
    (λ e. leb-true (t.col + n) z.cols e)
    (λ _. let zero : (wrap z t).col ≡ 0 = wrap-col z t in omega arith)

-- ---- the cursor's line

pub IsTerm-erase : (z : Size) (e : ℕ) (t : Term) → IsTerm z t → e ≤ z.cols → IsTerm z (erase z e t)
unfolding erase
IsTerm-erase z e t h l =
    let f = t.cell t.row in
    let p = h.paired t.row in
    let b = h.beyond t.row in
    IsTerm-with_line z t (wiped f t.col e t.attrs) (not (wipe_unflags z.cols f t.col e)) h
    (IsPaired-wiped f t.col e t.attrs p) (Bounded-wiped z.cols f t.col e t.attrs b l)
    (λ stays w. ap is_filled (wiped-last z.cols f t.col e t.attrs p b h.some_col l
    (not-true (wipe_unflags z.cols f t.col e) stays)) ∙ h.filled t.row w)

pub span-some : (x : CellView) → 1 ≤ span_of x
span-some x = cond_both x.wide 2 1 (λ n. 1 ≤ n) (λ _. omega arith) (λ _. omega arith)

pub IsTerm-print : (z : Size) (x : CellView) (t : Term) → IsTerm z t → x.continuation ≡ false → is_filled x ≡ true
    → t.col + span_of x ≤ z.cols → IsTerm z (print z x t)
unfolding print with_line
IsTerm-print z x t h c y l =
    let f = t.cell t.row in
    let p = h.paired t.row in
    let g = put f t.col x t.attrs in
    let some = span-some x in
    let stays = not (put_unflags z.cols f t.col x) in
    IsTerm-moved z (with_line t g stays) t.row (t.col + span_of x)
    (IsTerm-with_line z t g stays h (IsPaired-put f t.col x t.attrs p c)
    (Bounded-put z.cols f t.col x t.attrs (h.beyond t.row) p l)
    (λ s w. put-filled f t.col z.cols x t.attrs (omega arith) (not-true (put_unflags z.cols f t.col x) s) y
    (h.filled t.row w)))
    h.in_rows l

-- ---- a zero-width character

-- another cell of the same width, in a place that is no second half
IsPaired-updated : (f : ℕ → CellView) (i : ℕ) (x : CellView) → IsPaired f → x.wide ≡ (f i).wide
    → x.continuation ≡ false → (f i).continuation ≡ false → IsPaired (update f i x)
unfolding update
IsPaired-updated f i x p w c d = record {
  first = grind (arith, nat_tests, p.first);
  next = λ k. grind (arith, nat_tests, p.next k);
  blank = λ k h. grind (arith, nat_tests, p.blank k);
}

pub IsTerm-join : (z : Size) (c : ℕ) (t : Term) → IsTerm z t → 0 < t.col → IsTerm z (join c t)
unfolding join update
IsTerm-join z c t h some =
    let f = t.cell t.row in
    let p = h.paired t.row in
    let i = base_col f t.col in
    let x = appended_in_place (f i) c in
    let whole = base_col-whole f t.col p in
    let within = base_col-within f z.cols t.col some h.in_cols in
    IsTerm-with_line z t (update f i x) true h (IsPaired-updated f i x p (plain-wide (f i) c)
    (plain-continuation (f i) c ∙ whole) whole) (Bounded-update z.cols f i x (h.beyond t.row) within)
    (λ _ w. update-last f i (z.cols - 1) x (plain-filled (f i) c) (h.filled t.row w))

-- ---- characters

pub neither : (a b : Bool) → (a || b) ≡ false → (a ≡ false) × (b ≡ false)
neither true b e = absurd (false≢true (sym e))
neither false b e = (refl, e)

pub span-columns : (n : ℕ) → n ≤ 2 → (n == 0) ≡ false → cond (n == 2) 2 1 ≡ n
span-columns n l e = grind (arith, nat_tests)

pub columns-few : (c : ℕ) → columns_of c ≤ 2
columns-few c = omega arith

pub IsTerm-input : (z : Size) (c : ℕ) (t : Term) → IsTerm z t → IsTerm z (input z c t)
unfolding input
IsTerm-input z c t h =
    cond_both (is_dropped z.cols t.col c) t _ (IsTerm z) (λ _. h)
    (λ e. let wide = (neither (nat_lt z.cols (columns_of c)) _ (neither (is_undrawable c) _ e).1) in
    cond_both (columns_of c == 0) (join c t) _ (IsTerm z)
    (λ g. let later : 0 < t.col = grind (arith, nat_tests) in IsTerm-join z c t h later)
    (λ g. let span : span_of (cell_of c t.attrs) ≡ columns_of c = span-columns (columns_of c) (columns-few c) g in
    let room = made_to_fit-room z (columns_of c) t (ltb-false z.cols (columns_of c) wide.0) in
    IsTerm-print z (cell_of c t.attrs) (made_to_fit z (columns_of c) t) (IsTerm-made_to_fit z (columns_of c) t h) refl
    refl (omega arith)))

pub IsTerm-inputs : (z : Size) (cs : List ℕ) (t : Term) → IsTerm z t → IsTerm z (inputs z cs t)
IsTerm-inputs z [] t h = h
IsTerm-inputs z (c ∷ cs) t h = IsTerm-inputs z cs (input z c t) (IsTerm-input z c t h)

-- ---- forms

blank_either : (b : Bool) (a : Attrs) → ((cond b (empty_cell a) default_cell).wide ≡ false)
    × ((cond b (empty_cell a) default_cell).continuation ≡ false)
blank_either true a = (refl, refl)
blank_either false a = (refl, refl)

IsTerm-cleared : (z : Size) (t : Term) → IsTerm z t → IsTerm z (apply z ClearScreen t)
unfolding apply
IsTerm-cleared z t h = record {
  some_row = h.some_row;
  some_col = h.some_col;
  paired = λ r. record {
    first = (blank_either (nat_lt r z.rows && nat_lt 0 z.cols) t.attrs).1;
    next = λ k. (blank_either (nat_lt r z.rows && nat_lt (k + 1) z.cols) t.attrs).1
        ∙ sym (blank_either (nat_lt r z.rows && nat_lt k z.cols) t.attrs).0;
    blank = λ k e. absurd (false≢true (sym (blank_either (nat_lt r z.rows && nat_lt k z.cols) t.attrs).1 ∙ e));
  };
  beyond = λ r k l. cond_both (nat_lt r z.rows && nat_lt k z.cols) (empty_cell t.attrs) default_cell (λ x. x
      ≡ default_cell)
      (λ e. let on = ltb-true k z.cols (and_parts (nat_lt r z.rows) (nat_lt k z.cols) e).1
      in absurd (omega arith)) (λ _. refl);
  below = λ r k l. cond_both (nat_lt r z.rows && nat_lt k z.cols) (empty_cell t.attrs) default_cell (λ x. x
      ≡ default_cell)
      (λ e. let on = ltb-true r z.rows (and_parts (nat_lt r z.rows) (nat_lt k z.cols) e).0
      in absurd (omega arith)) (λ _. refl);
  below_flag = λ r l. refl;
  filled = λ r e. absurd (false≢true e);
  last = refl;
  in_rows = h.some_row;
  in_cols = omega arith;
  saved_in_rows = h.saved_in_rows;
  saved_in_cols = h.saved_in_cols;
}

pub IsTerm-apply : (z : Size) (f : Form) (t : Term) → IsTerm z t → IsTerm z (apply z f t)
unfolding apply
IsTerm-apply z (Text cs) t h = IsTerm-inputs z cs t h
IsTerm-apply z (MoveTo r c) t h = IsTerm-moved z t (min r (z.rows - 1)) (min c (z.cols - 1)) h
    (omega (arith, h.some_row)) (omega arith)
IsTerm-apply z (MoveRight n) t h =
    cond_both (n == 0) t (record t { col = min (t.col + n) (z.cols - 1) }) (IsTerm z) (λ _. h)
    (λ _. IsTerm-moved z t t.row (min (t.col + n) (z.cols - 1)) h h.in_rows (omega arith))
IsTerm-apply z (EraseChar n) t h = IsTerm-erase z (min (t.col + n) z.cols) t h (omega arith)
IsTerm-apply z ClearRowForward t h = IsTerm-erase z z.cols t h (omega arith)
IsTerm-apply z ClearScreen t h = IsTerm-cleared z t h
IsTerm-apply z Crlf t h = IsTerm-down z t 0 h (omega arith)
IsTerm-apply z Lf t h = IsTerm-down z t t.col h h.in_cols
IsTerm-apply z Backspace t h = IsTerm-moved z t t.row (t.col - 1) h h.in_rows (omega (arith, h.in_cols))
IsTerm-apply z SaveCursor t h =
    IsTerm-elsewhere z t (apply z SaveCursor t) h h.in_rows h.in_cols h.in_rows h.in_cols
IsTerm-apply z RestoreCursor t h =
    IsTerm-elsewhere z t (apply z RestoreCursor t) h h.saved_in_rows h.saved_in_cols h.saved_in_rows h.saved_in_cols
IsTerm-apply z f t h =
    IsTerm-elsewhere z t (apply z f t) h h.in_rows h.in_cols h.saved_in_rows h.saved_in_cols

pub IsTerm-run : (z : Size) (fs : List Form) (t : Term) → IsTerm z t → IsTerm z (run z fs t)
IsTerm-run z [] t h = h
IsTerm-run z (f ∷ fs) t h = IsTerm-run z fs (apply z f t) (IsTerm-apply z f t h)
