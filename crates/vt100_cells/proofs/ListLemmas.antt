-- Lists of cells and lines as functions of the column.
use Rattle.std.proofs.Common.{◌≡◌, ℕ, zero, suc, ◌+◌, ◌<◌, ◌≤◌, ◌==◌, true, cond, List, length, get_or, set, replicate}
use Rattle.std.proofs.Common.{sym, refl, ap, ◌∙◌, arith, length-set, ⊎_elim, Bor, Option, Some, None, nat_lt}
use Rattle.std.proofs.lemmas.Bool.{cond_both, false≢true, eqb-true, eqb-false, cases_lt, ltb-true, ltb-false}
use Rattle.std.proofs.lemmas.List.{get_or-set_same, get_or-set_other, get_or_past, get_or-replicate}
use Rattle.std.proofs.lemmas.List.FromFn.{fill_by_all, get_or-map-range_with_len, length-map-range_with_len}
use Rattle.std.specs.Prelude.{IfSome, slice_get}
use Rattle.std.specs.Option.{is_some, option_copied}
use Rattle.std.proofs.lemmas.Option.{slice_get_past, slice_get_read}
use mathlib.Core.Path.{fun_ext}
use Rattle.vt100_cells.specs.Cell.{CellView, default_cell}
use Rattle.vt100_cells.specs.Line.{IsPaired, Bounded}
use Rattle.vt100_cells.specs.Cells.{cell_at, by_position}

-- ---- reading

pub cell_at-by_position : (n : ℕ) (f : ℕ → CellView) (k : ℕ) → k < n → cell_at (by_position n f) k ≡ f k
cell_at-by_position n f k h = get_or-map-range_with_len f 0 n k k default_cell h (omega arith)

pub length-by_position : (n : ℕ) (f : ℕ → CellView) → length (by_position n f) ≡ n
length-by_position n f = length-map-range_with_len f 0 n

pub by_position_is : (n : ℕ) (f : ℕ → CellView) (cells : List CellView) → length cells ≡ n
    → ((k : ℕ) → k < n → cell_at cells k ≡ f k) → cells ≡ by_position n f
by_position_is n f cells e h = fill_by_all f cells n default_cell e h

pub cell_at_past : (cells : List CellView) (k : ℕ) → length cells ≤ k → cell_at cells k ≡ default_cell
cell_at_past cells k h = get_or_past cells k default_cell h

-- a row's cells lie within the row
pub Bounded-row : (cells : List CellView) → Bounded (length cells) (cell_at cells)
Bounded-row cells k l = cell_at_past cells k l

pub cell_at-set : (cells : List CellView) (i : ℕ) (x : CellView) (k : ℕ) → i < length cells
    → cell_at (set cells i x) k ≡ cond (k == i) x (cell_at cells k)
cell_at-set cells i x k h =
    cond_both (k == i) x (cell_at cells k) (λ y. cell_at (set cells i x) k ≡ y)
    (λ e. rw (eqb-true k i e) (get_or-set_same cells i x default_cell h))
    (λ e. get_or-set_other cells i k x default_cell (eqb-false k i e))

pub cell_at-set_within : (cells : List CellView) (i : ℕ) (x : CellView) (k : ℕ) → k < length cells
    → cell_at (set cells i x) k ≡ cond (k == i) x (cell_at cells k)
cell_at-set_within cells i x k h =
    cond_both (k == i) x (cell_at cells k) (λ y. cell_at (set cells i x) k ≡ y)
    (λ e. let same = eqb-true k i e in rw same (get_or-set_same cells i x default_cell (omega arith)))
    (λ e. get_or-set_other cells i k x default_cell (eqb-false k i e))

pub cell_at-replicate : (n : ℕ) (x : CellView) (k : ℕ) → k < n → cell_at (replicate n x) k ≡ x
cell_at-replicate n x k l = get_or-replicate n k x default_cell l

-- ---- lists that are given by position

pub set-by_position : (cells : List CellView) (i : ℕ) (x : CellView) (f : ℕ → CellView) → i < length cells
    → ((k : ℕ) → cond (k == i) x (cell_at cells k) ≡ f k) → set cells i x ≡ by_position (length cells) f
set-by_position cells i x f h same = by_position_is (length cells) f (set cells i x) (length-set cells i x)
    (λ k _. cell_at-set cells i x k h ∙ same k)

pub same-by_position : (cells : List CellView) (f : ℕ → CellView) → ((k : ℕ) → cell_at cells k ≡ f k)
    → cells ≡ by_position (length cells) f
same-by_position cells f same = by_position_is (length cells) f cells refl (λ k _. same k)

pub reads : (n : ℕ) (f : ℕ → CellView) (xs : List CellView) → xs ≡ by_position n f → (k : ℕ) → k < n
    → cell_at xs k ≡ f k
reads n f xs e k h = ap (λ ys. cell_at ys k) e ∙ cell_at-by_position n f k h

pub reads_len : (n : ℕ) (f : ℕ → CellView) (xs : List CellView) → xs ≡ by_position n f → length xs ≡ n
reads_len n f xs e = ap length e ∙ length-by_position n f

-- a write to cells that are given by position
pub sets : (n : ℕ) (f : ℕ → CellView) (ys : List CellView) (i : ℕ) (x : CellView) → ys ≡ by_position n f
    → set ys i x ≡ by_position n (λ k. cond (k == i) x (f k))
sets n f ys i x e =
    let l = reads_len n f ys e in
    by_position_is n (λ k. cond (k == i) x (f k)) (set ys i x) (length-set ys i x ∙ l)
    (λ k h. cell_at-set_within ys i x k (omega arith) ∙ ap (λ y. cond (k == i) x y) (reads n f ys e k h))

pub by_position-same : (n : ℕ) (f g : ℕ → CellView) → ((k : ℕ) → f k ≡ g k) → by_position n f ≡ by_position n g
by_position-same n f g h = by_position_is n g (by_position n f) (length-by_position n f)
    (λ k l. cell_at-by_position n f k l ∙ h k)

pub cell_at-by_position_total : (n : ℕ) (f : ℕ → CellView) → Bounded n f → (k : ℕ) → cell_at (by_position n f) k ≡ f k
cell_at-by_position_total n f past k =
    ⊎_elim (λ h. cell_at-by_position n f k h)
    (λ h. cell_at_past (by_position n f) k (omega (arith, length-by_position n f)) ∙ sym (past k h))
    (cases_lt k n)

-- a line of n columns is that of its first n cells
pub cell_at-whole : (n : ℕ) (f : ℕ → CellView) → Bounded n f → cell_at (by_position n f) ≡ f
cell_at-whole n f b = fun_ext (cell_at-by_position_total n f b)

-- ---- pairs in a list

pub second_half_within : (cells : List CellView) (i : ℕ) → IsPaired (cell_at cells) → (cell_at cells i).wide ≡ true
    → i + 1 < length cells
second_half_within cells i p w =
    ⊎_elim (λ l. l) (λ l. let e = cell_at_past cells (i + 1) l
    in absurd (false≢true (sym (ap (λ (c : CellView). c.continuation) e) ∙ p.next i ∙ w)))
    (cases_lt (i + 1) (length cells))

pub not_first : (f : ℕ → CellView) (i : ℕ) → IsPaired f → (f i).continuation ≡ true → 1 ≤ i
not_first f zero p e = absurd (false≢true (sym p.first ∙ e))
not_first f (suc i) p e = omega arith

-- ---- a look-up

pub looked_up : (xs : List CellView) (k : ℕ) (r : Option (Bor CellView)) → is_some r ≡ nat_lt k (length xs)
    → IfSome r (λ x. x.now ≡ get_or xs k x.now) → option_copied r ≡ slice_get xs k
looked_up xs k (Some x) e h = sym (slice_get_read xs (length xs) k x.now refl (ltb-true k (length xs) (sym e)) h)
looked_up xs k None e h = sym (slice_get_past xs k (ltb-false k (length xs) (sym e)))
