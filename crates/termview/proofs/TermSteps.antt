-- The cursor that goes to the next row, and erasing up to the screen's end, by the parts that the code takes.
use Rattle.std.proofs.Common.{◌≡◌, ℕ, ◌+◌, ◌-◌, ◌<◌, ◌≤◌, ◌==◌, Bool, true, false, cond, ◌&&◌, nat_lt, nat_le}
use Rattle.std.proofs.Common.{sym, ap, ◌∙◌, arith, ⊎_elim}
use Rattle.std.proofs.lemmas.Bool.{cond-true, cond-false, lt-ltb, ne_eqb, eq-eqb, cases_eq, cases_lt}
use Rattle.std.proofs.lemmas.Bool.Decides.{nat_tests}
use mathlib.Core.Path.{fun_ext}
use Rattle.vt100_cells.specs.Cell.{CellView, default_cell, is_filled}
use Rattle.terminal_model.specs.Position.{update}
use Rattle.terminal_model.specs.Term.{Size, Term}
use Rattle.terminal_model.specs.Apply.{down, wrap, made_to_fit}
use Rattle.termview.specs.Step.{flag_above}
use Rattle.termview.proofs.RowTerms.{down-stays, down-up}

flags-up : (w : ℕ → Bool) (row n : ℕ) (b : Bool) (r : ℕ) → 0 < row → row + 1 ≡ n
    → update (λ k. nat_lt (k + 1) n && w (k + 1)) (row - 1) b r ≡ (nat_lt (r + 1) n && update w row b (r + 1))
unfolding update
flags-up w row n b r h e =
    ⊎_elim
    (λ (q : r ≡ row - 1).
    let at : (r == (row - 1)) ≡ true = eq-eqb r (row - 1) q in
    let next : ((r + 1) == row) ≡ true = eq-eqb (r + 1) row (omega arith) in
    let within : nat_lt (r + 1) n ≡ true = lt-ltb (r + 1) n (omega arith) in
    ap (λ c. cond c b (nat_lt (r + 1) n && w (r + 1))) at
    ∙ sym (ap (λ c. c && cond ((r + 1) == row) b (w (r + 1))) within ∙ ap (λ c. cond c b (w (r + 1))) next))
    (λ ne.
    let off : (r == (row - 1)) ≡ false = ne_eqb r (row - 1) ne in
    let other : ((r + 1) == row) ≡ false = ne_eqb (r + 1) row (λ q. ne (omega (arith, q))) in
    ap (λ c. cond c b (nat_lt (r + 1) n && w (r + 1))) off
    ∙ sym (ap (λ c. nat_lt (r + 1) n && cond c b (w (r + 1))) other))
    (cases_eq r (row - 1))

flags-first : (w : ℕ → Bool) (row n : ℕ) (b : Bool) (r : ℕ) → row ≡ 0
    → (nat_lt (r + 1) n && w (r + 1)) ≡ (nat_lt (r + 1) n && update w row b (r + 1))
unfolding update
flags-first w row n b r z =
    let other : ((r + 1) == row) ≡ false = ne_eqb (r + 1) row (λ q. absurd (omega (arith, q))) in
    sym (ap (λ c. nat_lt (r + 1) n && cond c b (w (r + 1))) other)

-- the last column of the cursor's row
abbrev full : Size → Term → Bool
full z t = is_filled (t.cell t.row (z.cols - 1))

abbrev at_start : Term → Term
at_start t = record t { col = 0 }

-- in the middle of the screen
wraps-middle : (z : Size) (t : Term) → t.row + 1 < z.rows
    → flag_above z (down z (at_start t)) ≡ wrap z t
unfolding wrap flag_above
wraps-middle z t h =
    let n : t.row + 1 - 1 ≡ t.row = omega arith in
    ap (flag_above z) (down-stays z (at_start t) h)
    ∙ ap (λ m. record t {
      row = t.row + 1;
      col = 0;
      wrapped = update t.wrapped m (is_filled (t.cell m (z.cols - 1)));
    }) n
    ∙ sym (down-stays z (record t { wrapped = update t.wrapped t.row (full z t); col = 0 }) h)

-- in the last row
wraps-last : (z : Size) (t : Term) → 0 < t.row → t.row + 1 ≡ z.rows
    → flag_above z (down z (at_start t)) ≡ wrap z t
unfolding wrap flag_above
wraps-last z t h e =
    let n : t.row - 1 + 1 ≡ t.row = omega arith in
    let within : nat_lt (t.row - 1 + 1) z.rows ≡ true = lt-ltb (t.row - 1 + 1) z.rows (omega arith) in
    let above : cond (nat_lt (t.row - 1 + 1) z.rows) (t.cell (t.row - 1 + 1)) (λ k. default_cell) ≡ t.cell t.row =
    cond-true (nat_lt (t.row - 1 + 1) z.rows) _ _ within ∙ ap t.cell n in
    let flags = ap (λ (f : ℕ → CellView).
    update (λ r. nat_lt (r + 1) z.rows && t.wrapped (r + 1)) (t.row - 1) (is_filled (f (z.cols - 1)))) above
    ∙ fun_ext (λ r. flags-up t.wrapped t.row z.rows (full z t) r h e) in
    ap (flag_above z) (down-up z (at_start t) (omega arith))
    ∙ (λ i. record t {
      cell = (λ r. cond (nat_lt (r + 1) z.rows) (t.cell (r + 1)) (λ k. default_cell));
      wrapped = flags i;
      col = 0;
    })
    ∙ sym (down-up z (record t { wrapped = update t.wrapped t.row (full z t); col = 0 }) (omega arith))

-- on a screen of one row
pub wraps-gone : (z : Size) (t : Term) → t.row < z.rows → (down z (at_start t)).row ≤ 0
    → down z (at_start t) ≡ wrap z t
unfolding wrap
wraps-gone z t l q =
    ⊎_elim
    (λ (h : t.row + 1 < z.rows).
    let e : (down z (at_start t)).row ≡ t.row + 1 = ap (λ (s : Term). s.row) (down-stays z (at_start t) h) in
    absurd (omega arith))
    (λ (h : z.rows ≤ t.row + 1).
    let e : (down z (at_start t)).row ≡ t.row = ap (λ (s : Term). s.row) (down-up z (at_start t) h) in
    let flags = fun_ext (λ r. flags-first t.wrapped t.row z.rows (full z t) r (omega arith)) in
    down-up z (at_start t) h
    ∙ (λ i. record t {
      cell = (λ r. cond (nat_lt (r + 1) z.rows) (t.cell (r + 1)) (λ k. default_cell));
      wrapped = flags i;
      col = 0;
    })
    ∙ sym (down-up z (record t { wrapped = update t.wrapped t.row (full z t); col = 0 }) h))
    (cases_lt (t.row + 1) z.rows)

-- the row that the cursor leaves is flagged when it is above the cursor
pub wraps-flagged : (z : Size) (t : Term) → t.row < z.rows → 0 < (down z (at_start t)).row
    → flag_above z (down z (at_start t)) ≡ wrap z t
wraps-flagged z t l q =
    ⊎_elim (λ (h : t.row + 1 < z.rows). wraps-middle z t h)
    (λ (h : z.rows ≤ t.row + 1).
    let e : (down z (at_start t)).row ≡ t.row = ap (λ (s : Term). s.row) (down-up z (at_start t) h) in
    wraps-last z t (omega arith) (omega arith))
    (cases_lt (t.row + 1) z.rows)

-- ---- room

pub fits-here : (z : Size) (n : ℕ) (t : Term) → t.col + n ≤ z.cols → t ≡ made_to_fit z n t
unfolding made_to_fit
fits-here z n t h =
    let b : nat_le (t.col + n) z.cols ≡ true = grind (arith, nat_tests) in
    sym (cond-true (nat_le (t.col + n) z.cols) t (wrap z t) b)

pub wraps-here : (z : Size) (n : ℕ) (t : Term) → z.cols < t.col + n → wrap z t ≡ made_to_fit z n t
unfolding made_to_fit
wraps-here z n t h =
    let b : nat_le (t.col + n) z.cols ≡ false = grind (arith, nat_tests) in
    sym (cond-false (nat_le (t.col + n) z.cols) t (wrap z t) b)
