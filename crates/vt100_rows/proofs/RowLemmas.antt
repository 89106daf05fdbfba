-- Each call of a row gives a row.
use Rattle.std.proofs.Common.{◌≡◌, ℕ, ◌+◌, ◌-◌, ◌^◌, ◌<◌, ◌≤◌, ◌==◌, Bool, true, false, cond, not, ◌&&◌, ◌||◌, List, []}
use Rattle.std.proofs.Common.{◌∷◌, ◌++◌, length, take, min, length-append, length-take, replicate, sym, refl, ap, ◌∙◌}
use Rattle.std.proofs.Common.{arith, nat_lt, nat_le, ⊎_elim}
use Rattle.std.proofs.Math.Bool.{and-true}
use Rattle.std.proofs.lemmas.Bool.{false≢true, cases_lt, and_parts, not-true, cond_both, ltb-true, le-ltb}
use Rattle.std.proofs.lemmas.Bool.Decides.{nat_tests}
use Rattle.std.proofs.lemmas.List.{places, length-replicate, get_or-take}
use Rattle.vt100_forms.specs.declared.attrs.Attrs.{Attrs}
use Rattle.vt100_forms.specs.Attrs.{default_attrs}
use Rattle.vt100_cells.specs.Cell.{CellView, IsCell, default_cell, empty_cell, is_filled, has_text}
use Rattle.vt100_cells.specs.Line.{IsPaired, Bounded, span_of, put, put_unflags, pair_wiped, wiped, wipe_unflags, cut}
use Rattle.vt100_cells.specs.Line.{opened, closed, extended}
use Rattle.vt100_cells.specs.Cells.{cell_at, by_position, last_cell}
use Rattle.vt100_rows.specs.Row.{RowView, IsRow, blank_row, cleared_row, with_wrap, unwrapped, placed, wiped_row}
use Rattle.vt100_rows.specs.Row.{pair_cleared, inserted, removed, truncated, grown, resized_row}
use Rattle.vt100_cells.proofs.CellLemmas.{IsCell-empty}
use Rattle.vt100_cells.proofs.ListLemmas.{cell_at-by_position, cell_at-by_position_total, length-by_position}
use Rattle.vt100_cells.proofs.ListLemmas.{by_position_is, same-by_position, cell_at_past, cell_at-whole, Bounded-row}
use Rattle.vt100_cells.proofs.ListLemmas.{cell_at-replicate}
use Rattle.vt100_cells.proofs.LineLemmas.{Bounded-wiped, IsPaired-wiped, wiped-last, Bounded-pair_wiped}
use Rattle.vt100_cells.proofs.LineLemmas.{IsPaired-pair_wiped, Bounded-put, IsPaired-put, put-filled}
use Rattle.vt100_cells.proofs.MoveLemmas.{Bounded-cut, IsPaired-cut, IsPaired-opened, IsPaired-closed, Bounded-closed}
use Rattle.vt100_cells.proofs.MoveLemmas.{IsPaired-extended}
use Rattle.vt100_cells.proofs.EditedCells.{IsCell-put, IsCell-pair_wiped, IsCell-wiped, IsCell-cut, IsCell-opened}
use Rattle.vt100_cells.proofs.EditedCells.{IsCell-closed, IsCell-extended}

-- a row's fields after its cells were lent as a slice
pub IsRow-at : (v w : RowView) → v ≡ w → IsRow w → IsRow v
IsRow-at v w e h = rw e h

pub IsPaired-like : (f g : ℕ → CellView) → ((k : ℕ) → f k ≡ g k) → IsPaired g → IsPaired f
IsPaired-like f g e p = record {
  first = ap (λ (c : CellView). c.continuation) (e 0) ∙ p.first;
  next = λ k. ap (λ (c : CellView). c.continuation) (e (k + 1)) ∙ p.next k ∙ ap (λ (c : CellView). c.wide) (sym (e k));
  blank = λ k h. e k ∙ p.blank k (ap (λ (c : CellView). c.continuation) (sym (e k)) ∙ h);
}

-- n cells of a line are a row
pub IsRow-by_position : (n : ℕ) (f : ℕ → CellView) (wrapped : Bool) → n < 2 ^ 16 → IsPaired f → Bounded n f
    → ((k : ℕ) → IsCell (f k)) → (wrapped ≡ true → is_filled (f (n - 1)) ≡ true)
    → IsRow (record { cells = by_position n f; wrapped = wrapped })
IsRow-by_position n f wrapped small p past cells filled =
    let e = length-by_position n f in
    record {
      paired = IsPaired-like (cell_at (by_position n f)) f (cell_at-by_position_total n f past) p;
      cells = λ k. rw (cell_at-by_position_total n f past k) (cells k);
      filled = λ w. ap (λ m. is_filled (cell_at (by_position n f) (m - 1))) e
          ∙ ap is_filled (cell_at-by_position_total n f past (n - 1)) ∙ filled w;
      narrow = omega arith;
    }

-- a row whose cells stay has any flag that its last cell allows
IsRow-flagged : (v : RowView) (b : Bool) → IsRow v → (b ≡ true → is_filled (last_cell v.cells) ≡ true)
    → IsRow (record { cells = v.cells; wrapped = b })
IsRow-flagged v b r h = record { paired = r.paired; cells = r.cells; filled = h; narrow = r.narrow }

pub IsRow-unwrapped : (v : RowView) → IsRow v → IsRow (unwrapped v)
IsRow-unwrapped v r = IsRow-flagged v false r (λ w. absurd (false≢true w))

pub IsRow-with_wrap : (v : RowView) (b : Bool) → IsRow v → IsRow (with_wrap v b)
IsRow-with_wrap v b r = IsRow-flagged v (b && is_filled (last_cell v.cells)) r
    (λ w. (and_parts b (is_filled (last_cell v.cells)) w).1)

-- ---- whole rows

IsPaired-empty : (f : ℕ → CellView) → ((k : ℕ) → (f k).wide ≡ false) → ((k : ℕ) → (f k).continuation ≡ false)
    → IsPaired f
IsPaired-empty f w c = record {
  first = c 0;
  next = λ k. c (k + 1) ∙ sym (w k);
  blank = λ k e. absurd (false≢true (sym (c k) ∙ e));
}

replicated : (n : ℕ) (a : Attrs) (P : CellView → Type 0) → P (empty_cell a) → P default_cell → (k : ℕ)
    → P (cell_at (replicate n (empty_cell a)) k)
replicated n a P p q k =
    ⊎_elim (λ l. rw (cell_at-replicate n (empty_cell a) k l) p)
    (λ l. rw (cell_at_past (replicate n (empty_cell a)) k (omega (arith, length-replicate n (empty_cell a)))) q)
    (cases_lt k n)

pub IsRow-empty : (n : ℕ) (a : Attrs) → n < 2 ^ 16
    → IsRow (record { cells = replicate n (empty_cell a); wrapped = false })
IsRow-empty n a h = record {
  paired = IsPaired-empty (cell_at (replicate n (empty_cell a))) (replicated n a (λ c. c.wide ≡ false) refl refl)
      (replicated n a (λ c. c.continuation ≡ false) refl refl);
  cells = replicated n a IsCell (IsCell-empty a) (IsCell-empty default_attrs);
  filled = λ w. absurd (false≢true w);
  narrow = omega (arith, length-replicate n (empty_cell a));
}

pub IsRow-blank : (n : ℕ) → n < 2 ^ 16 → IsRow (blank_row n)
IsRow-blank n h = IsRow-empty n default_attrs h

pub IsRow-cleared : (v : RowView) (a : Attrs) → IsRow v → IsRow (cleared_row v a)
IsRow-cleared v a r = IsRow-empty (length v.cells) a r.narrow

-- ---- one cell and several

pub whole_cell : (x : CellView) → IsCell x → has_text x ≡ true → x.continuation ≡ false
whole_cell x c t = (elim x.continuation as (λ b. x.continuation ≡ b → b ≡ false) [
  | true ↦ λ e. absurd (false≢true (ap (λ cs. not (length cs == 0)) (sym (c.blank e)) ∙ t))
  | false ↦ λ e. refl
]) refl

pub span_of-pos : (x : CellView) → 1 ≤ span_of x
span_of-pos x = cond_both x.wide 2 1 (λ n. 1 ≤ n) (λ _. omega arith) (λ _. omega arith)

filled-some : (cells : List CellView) → is_filled (last_cell cells) ≡ true → 0 < length cells
filled-some [] h = absurd (false≢true h)
filled-some (x ∷ xs) h = omega arith

pub IsRow-placed : (v : RowView) (i : ℕ) (x : CellView) (a : Attrs) → IsRow v → IsCell x → has_text x ≡ true
    → i + span_of x ≤ length v.cells → IsRow (placed v i x a)
IsRow-placed v i x a r c t l =
    let f = cell_at v.cells in
    let n = length v.cells in
    let whole = whole_cell x c t in
    let some : i < n = omega (arith, span_of-pos x) in
    IsRow-by_position n (put f i x a) (v.wrapped && not (put_unflags n f i x)) r.narrow
    (IsPaired-put f i x a r.paired whole) (Bounded-put n f i x a (Bounded-row v.cells) r.paired l)
    (IsCell-put f i x a r.cells c)
    (λ w. let parts = and_parts v.wrapped (not (put_unflags n f i x)) w in
    put-filled f i n x a some (not-true (put_unflags n f i x) parts.1) (ap (λ b. b || x.continuation) t)
    (r.filled parts.0))

pub IsRow-wiped : (v : RowView) (s e : ℕ) (a : Attrs) → IsRow v → e ≤ length v.cells → IsRow (wiped_row v s e a)
IsRow-wiped v s e a r l =
    let f = cell_at v.cells in
    let n = length v.cells in
    IsRow-by_position n (wiped f s e a) (v.wrapped && not (wipe_unflags n f s e)) r.narrow
    (IsPaired-wiped f s e a r.paired) (Bounded-wiped n f s e a (Bounded-row v.cells) l) (IsCell-wiped f s e a r.cells)
    (λ w. let parts = and_parts v.wrapped (not (wipe_unflags n f s e)) w in
    let full = r.filled parts.0 in
    let some = filled-some v.cells full in
    ap is_filled (wiped-last n f s e a r.paired (Bounded-row v.cells) some l (not-true (wipe_unflags n f s e) parts.1))
    ∙ full)

pub IsRow-pair_cleared : (v : RowView) (i : ℕ) → IsRow v → IsRow (pair_cleared v i)
IsRow-pair_cleared v i r =
    let f = cell_at v.cells in
    let n = length v.cells in
    let cells = by_position n (pair_wiped f i) in
    let e = length-by_position n (pair_wiped f i) in
    let past = Bounded-pair_wiped n f i (Bounded-row v.cells) in
    IsRow-by_position n (pair_wiped f i) (v.wrapped && is_filled (last_cell cells)) r.narrow
    (IsPaired-pair_wiped f i r.paired) past (IsCell-pair_wiped f i r.cells)
    (λ w. ap is_filled (sym (cell_at-by_position_total n (pair_wiped f i) past (n - 1)))
    ∙ ap (λ m. is_filled (cell_at cells (m - 1))) (sym e) ∙ (and_parts v.wrapped (is_filled (last_cell cells)) w).1)

-- ---- insertion and removal

unflagged : (n : ℕ) (f : ℕ → CellView) → n < 2 ^ 16 → IsPaired f → Bounded n f → ((k : ℕ) → IsCell (f k))
    → IsRow (record { cells = by_position n f; wrapped = false })
unflagged n f h p b c = IsRow-by_position n f false h p b c (λ w. absurd (false≢true w))

pub IsRow-inserted : (v : RowView) (i count : ℕ) → IsRow v → IsRow (inserted v i count)
IsRow-inserted v i count r =
    let f = cell_at v.cells in
    let n = length v.cells in
    let m = min count (n - i) in
    cond_both (nat_lt 0 m) (by_position n (cut n (opened f i m))) v.cells
    (λ cells. IsRow (record { cells = cells; wrapped = false }))
    (λ t. unflagged n (cut n (opened f i m)) r.narrow
    (IsPaired-cut n (opened f i m) (IsPaired-opened f i m r.paired (ltb-true 0 m t))) (Bounded-cut n (opened f i m))
    (IsCell-cut n (opened f i m) (IsCell-opened f i m r.cells)))
    (λ _. IsRow-unwrapped v r)

pub IsRow-removed : (v : RowView) (s e : ℕ) → IsRow v → e ≤ length v.cells → IsRow (removed v s e)
IsRow-removed v s e r l =
    let f = cell_at v.cells in
    let n = length v.cells in
    cond_both (nat_lt s e) (by_position n (closed n f s (e - s))) v.cells
    (λ cells. IsRow (record { cells = cells; wrapped = false }))
    (λ t. let h = ltb-true s e t in
    unflagged n (closed n f s (e - s)) r.narrow (IsPaired-closed n f s (e - s) r.paired (Bounded-row v.cells)
    (omega arith) (omega arith))
    (Bounded-closed n f s (e - s) (omega arith) (omega arith)) (IsCell-closed n f s (e - s) r.cells))
    (λ _. IsRow-unwrapped v r)

-- ---- another length

pub IsRow-truncated : (v : RowView) (n : ℕ) → IsRow v → IsRow (truncated v n)
IsRow-truncated v n r =
    let f = cell_at v.cells in
    let m = min n (length v.cells) in
    let small : m < 2 ^ 16 = omega (arith, r.narrow) in
    unflagged m (cut m f) small (IsPaired-cut m f r.paired) (Bounded-cut m f) (IsCell-cut m f r.cells)

-- a longer line ends in a narrow cell, so that its end cuts nothing
pub grown-by_position : (m n : ℕ) (f : ℕ → CellView) (x : CellView) → m < n → x.wide ≡ false
    → by_position n (extended m f x) ≡ by_position n (cut n (extended m f x))
grown-by_position m n f x h w =
    by_position_is n (cut n (extended m f x)) (by_position n (extended m f x)) (length-by_position n (extended m f x))
    (λ k l. cell_at-by_position n (extended m f x) k l ∙ grind (arith, nat_tests))

pub IsRow-grown : (v : RowView) (n : ℕ) (x : CellView) → IsRow v → IsCell x → x.wide ≡ false → x.continuation ≡ false
    → n < 2 ^ 16 → IsRow (grown v n x)
IsRow-grown v n x r c w q small =
    let f = cell_at v.cells in
    let m = length v.cells in
    cond_both (nat_lt m n) (record { cells = by_position n (extended m f x); wrapped = false }) v IsRow
    (λ t. let h = ltb-true m n t in
    IsRow-at (record { cells = by_position n (extended m f x); wrapped = false })
    (record { cells = by_position n (cut n (extended m f x)); wrapped = false })
    (ap (λ cells. record { cells = cells; wrapped = false }) (grown-by_position m n f x h w))
    (unflagged n (cut n (extended m f x)) small (IsPaired-cut n (extended m f x)
    (IsPaired-extended m f x r.paired (Bounded-row v.cells) w q)) (Bounded-cut n (extended m f x))
    (IsCell-cut n (extended m f x) (IsCell-extended m f x r.cells c))))
    (λ _. r)

pub IsRow-resized : (v : RowView) (n : ℕ) (x : CellView) → IsRow v → IsCell x → x.wide ≡ false → x.continuation ≡ false
    → n < 2 ^ 16 → IsRow (resized_row v n x)
IsRow-resized v n x r c w q small =
    cond_both (nat_lt n (length v.cells)) (truncated v n) (grown v n x) IsRow (λ _. IsRow-truncated v n r)
    (λ _. IsRow-grown v n x r c w q small)

-- a longer row
pub grows : (xs : List CellView) (n : ℕ) (x : CellView) → length xs < n
    → take n xs ++ replicate (n - length xs) x ≡ by_position n (extended (length xs) (cell_at xs) x)
grows xs n x h =
    by_position_is n (extended (length xs) (cell_at xs) x) (take n xs ++ replicate (n - length xs) x)
    (simp (length-append, length-take, length-replicate) (omega arith)) (λ k l. grind (arith, places, nat_tests))

pub grown-is : (v : RowView) (n : ℕ) (x : CellView) → length v.cells < n
    → record { cells = by_position n (extended (length v.cells) (cell_at v.cells) x); wrapped = false } ≡ grown v n x
grown-is v n x h = grind (arith, nat_tests)

-- a shorter one
cut-take : (xs : List CellView) (n m k : ℕ) → m ≡ min n (length xs) → k < m
    → cut m (cell_at (take n xs)) k ≡ cut m (cell_at xs) k
cut-take xs n m k e l =
    ap (λ (c : CellView). cond (nat_le m k) default_cell (cond (((k + 1) == m) && c.wide) (empty_cell c.attrs) c))
    (get_or-take n xs k default_cell (omega arith))

pub truncates : (xs ys : List CellView) (n : ℕ) → ys ≡ take n xs
    → by_position (length ys) (cut (length ys) (cell_at ys))
    ≡ by_position (min n (length xs)) (cut (min n (length xs)) (cell_at xs))
truncates xs ys n e =
    let m = min n (length xs) in
    let l : length (take n xs) ≡ m = length-take n xs in
    ap (λ (zs : List CellView). by_position (length zs) (cut (length zs) (cell_at zs))) e
    ∙ ap (λ j. by_position j (cut j (cell_at (take n xs)))) l
    ∙ by_position_is m (cut m (cell_at xs)) (by_position m (cut m (cell_at (take n xs))))
    (length-by_position m (cut m (cell_at (take n xs))))
    (λ k h. cell_at-by_position m (cut m (cell_at (take n xs))) k h ∙ cut-take xs n m k refl h)

-- ---- what changes nothing

pub wiped_row-none : (v : RowView) (s e : ℕ) (a : Attrs) → e ≤ s → v ≡ wiped_row v s e a
wiped_row-none v s e a h =
    let same = same-by_position v.cells (wiped (cell_at v.cells) s e a) (λ k. grind (arith, nat_tests)) in
    let no : nat_lt s e ≡ false = le-ltb s e h in
    let flag : v.wrapped ≡ (v.wrapped && not (wipe_unflags (length v.cells) (cell_at v.cells) s e)) =
    sym (and-true v.wrapped) ∙ ap (λ b. v.wrapped
    && not (b && (nat_le (length v.cells) e || (((e + 1) == length v.cells) && (cell_at v.cells e).continuation))))
    (sym no) in
    λ i. record { cells = same i; wrapped = flag i }

-- ---- the lines of rows that calls give

pub line-placed : (v : RowView) (i : ℕ) (x : CellView) (a : Attrs) → IsRow v → i + span_of x ≤ length v.cells
    → cell_at (placed v i x a).cells ≡ put (cell_at v.cells) i x a
line-placed v i x a r l = cell_at-whole (length v.cells) (put (cell_at v.cells) i x a)
    (Bounded-put (length v.cells) (cell_at v.cells) i x a (Bounded-row v.cells) r.paired l)

pub line-wiped : (v : RowView) (s e : ℕ) (a : Attrs) → e ≤ length v.cells
    → cell_at (wiped_row v s e a).cells ≡ wiped (cell_at v.cells) s e a
line-wiped v s e a l = cell_at-whole (length v.cells) (wiped (cell_at v.cells) s e a)
    (Bounded-wiped (length v.cells) (cell_at v.cells) s e a (Bounded-row v.cells) l)
