-- Each cell of an edited line is one that a cell can be.
use Rattle.std.proofs.Common.{ℕ, ◌+◌, ◌-◌, Bool, cond}
use Rattle.std.proofs.lemmas.Bool.{cond_both}
use Rattle.vt100_forms.specs.declared.attrs.Attrs.{Attrs}
use Rattle.vt100_cells.specs.Cell.{CellView, IsCell, default_cell}
use Rattle.vt100_forms.specs.Attrs.{default_attrs}
use Rattle.vt100_cells.specs.Line.{update, put, pair_wiped, wiped, cut, opened, closed, extended}
use Rattle.vt100_cells.proofs.CellLemmas.{IsCell-empty, IsCell-continuation, IsCell-space}

either : (b : Bool) (x y : CellView) → IsCell x → IsCell y → IsCell (cond b x y)
either b x y p q = cond_both b x y IsCell (λ _. p) (λ _. q)

default_is_cell : IsCell default_cell
default_is_cell = IsCell-empty default_attrs

pub IsCell-update : (f : ℕ → CellView) (i : ℕ) (x : CellView) → ((k : ℕ) → IsCell (f k)) → IsCell x → (k : ℕ)
    → IsCell (update f i x k)
IsCell-update f i x h y k = either _ _ _ y (h k)

pub IsCell-put : (f : ℕ → CellView) (i : ℕ) (x : CellView) (a : Attrs) → ((k : ℕ) → IsCell (f k)) → IsCell x → (k : ℕ)
    → IsCell (put f i x a k)
IsCell-put f i x a h y k =
    either _ _ _ y (either _ _ _ IsCell-continuation
    (either _ _ _ (IsCell-space a) (either _ _ _ (IsCell-empty (f k).attrs) (either _ _ _ (IsCell-empty a) (h k)))))

pub IsCell-pair_wiped : (f : ℕ → CellView) (i : ℕ) → ((k : ℕ) → IsCell (f k)) → (k : ℕ) → IsCell (pair_wiped f i k)
IsCell-pair_wiped f i h k = either _ _ _ (IsCell-empty (f k).attrs) (h k)

pub IsCell-wiped : (f : ℕ → CellView) (s e : ℕ) (a : Attrs) → ((k : ℕ) → IsCell (f k)) → (k : ℕ)
    → IsCell (wiped f s e a k)
IsCell-wiped f s e a h k = either _ _ _ (IsCell-empty a) (either _ _ _ (IsCell-empty (f k).attrs) (h k))

pub IsCell-cut : (n : ℕ) (f : ℕ → CellView) → ((k : ℕ) → IsCell (f k)) → (k : ℕ) → IsCell (cut n f k)
IsCell-cut n f h k = either _ _ _ default_is_cell (either _ _ _ (IsCell-empty (f k).attrs) (h k))

pub IsCell-opened : (f : ℕ → CellView) (i n : ℕ) → ((k : ℕ) → IsCell (f k)) → (k : ℕ) → IsCell (opened f i n k)
IsCell-opened f i n h k = either _ _ _ (h k) (either _ _ _ IsCell-continuation
    (either _ _ _ default_is_cell (h (k - n))))

pub IsCell-closed : (m : ℕ) (f : ℕ → CellView) (s n : ℕ) → ((k : ℕ) → IsCell (f k)) → (k : ℕ)
    → IsCell (closed m f s n k)
IsCell-closed m f s n h k =
    either _ _ _ (IsCell-empty (f k).attrs) (either _ _ _ (h k)
    (either _ _ _ default_is_cell (either _ _ _ (IsCell-empty (f (s + n)).attrs) (h (k + n)))))

pub IsCell-extended : (m : ℕ) (f : ℕ → CellView) (x : CellView) → ((k : ℕ) → IsCell (f k)) → IsCell x → (k : ℕ)
    → IsCell (extended m f x k)
IsCell-extended m f x h y k = either _ _ _ (h k) y
