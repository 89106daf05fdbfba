-- Edits of a line that is blank from some column on.
use Rattle.std.proofs.Common.{◌≡◌, ◌∙◌, ℕ, ◌+◌, ◌-◌, ◌<◌, ◌≤◌, ◌==◌, true, false, List, ◌++◌, length, take, drop}
use Rattle.std.proofs.Common.{sym, refl, ap, subst, take-append-drop, if◌then◌else◌, arith, ⊎_elim, nat_lt, min}
use Rattle.std.proofs.Common.{length-append, length-take, length-drop}
use Rattle.std.proofs.lemmas.Bool.{cond_both, cases_lt, ltb-true, ltb-false, eqb-true}
use Rattle.std.proofs.lemmas.List.{get_or-take, places}
use Rattle.std.proofs.lemmas.Bool.Decides.{nat_tests}
use mathlib.Core.Path.{fun_ext}
use Rattle.vt100_forms.specs.declared.attrs.Attrs.{Attrs}
use Rattle.vt100_forms.specs.Attrs.{default_attrs}
use Rattle.vt100_cells.specs.Cell.{CellView, default_cell}
use Rattle.vt100_cells.specs.Cells.{cell_at, by_position, inserted_cells}
use Rattle.vt100_cells.specs.Line.{IsPaired, wiped, closed, opened, cut}
use Rattle.vt100_cells.proofs.ListLemmas.{cell_at_past, cell_at-by_position, length-by_position, by_position_is}
use Rattle.vt100_cells.proofs.ListLemmas.{same-by_position, reads, reads_len, Bounded-row}
use Rattle.vt100_rows.specs.Row.{RowView, IsBlankFrom, removed}
use Rattle.vt100_rows.proofs.BlankLemmas.{wiped-blank, blank-line}

-- the last cell before the blank ones takes one column
narrow-before : (f : ℕ → CellView) (m k : ℕ) → IsPaired f → ((j : ℕ) → m ≤ j → f j ≡ default_cell) → m ≤ k + 1
    → (f k).wide ≡ false
narrow-before f m k p b h = sym (p.next k) ∙ ap (λ (c : CellView). c.continuation) (b (k + 1) h)

-- ---- erasing

wiped-left : (f : ℕ → CellView) (s e m t k : ℕ) → IsPaired f → ((j : ℕ) → m ≤ j → f j ≡ default_cell) → s < e
    → t ≤ s → t ≡ min e m → k < m → wiped f s t default_attrs k ≡ wiped f s e default_attrs k
wiped-left f s e m t k p b h out et lt =
    ⊎_elim (λ left. grind (arith, nat_tests))
    (λ near. let narrow = narrow-before f m k p b (omega arith) in grind (arith, nat_tests)) (cases_lt (k + 1) s)

-- blank columns needn't be erased
wiped-filled : (f : ℕ → CellView) (s e m t k : ℕ) → IsPaired f → ((j : ℕ) → m ≤ j → f j ≡ default_cell) → s < e
    → t ≡ min e m → wiped f s t default_attrs k ≡ wiped f s e default_attrs k
wiped-filled f s e m t k p b h et =
    ⊎_elim (λ lt. ⊎_elim (λ some. grind (arith, nat_tests)) (λ none. wiped-left f s e m t k p b h none et lt)
    (cases_lt s t))
    (λ ge. let d = b k ge in wiped-blank f s t k d ∙ sym (wiped-blank f s e k d)) (cases_lt k m)

wipes-default : (xs : List CellView) (s e m t : ℕ) → IsPaired (cell_at xs) → IsBlankFrom xs m → s < e
    → t ≡ min e m → by_position (length xs) (wiped (cell_at xs) s t default_attrs)
    ≡ by_position (length xs) (wiped (cell_at xs) s e default_attrs)
wipes-default xs s e m t p b h et =
    by_position_is (length xs) (wiped (cell_at xs) s e default_attrs)
    (by_position (length xs) (wiped (cell_at xs) s t default_attrs))
    (length-by_position (length xs) (wiped (cell_at xs) s t default_attrs))
    (λ k l. cell_at-by_position (length xs) (wiped (cell_at xs) s t default_attrs) k l
    ∙ wiped-filled (cell_at xs) s e m t k p b h et)

none-default : (xs : List CellView) (s e m t : ℕ) → IsPaired (cell_at xs) → IsBlankFrom xs m → s < e
    → t ≡ min e m → t ≤ s → xs ≡ by_position (length xs) (wiped (cell_at xs) s e default_attrs)
none-default xs s e m t p b h et none =
    same-by_position xs (wiped (cell_at xs) s e default_attrs)
    (λ k. let same : cell_at xs k ≡ wiped (cell_at xs) s t default_attrs k = grind (arith, nat_tests) in
    same ∙ wiped-filled (cell_at xs) s e m t k p b h et)

pub wipes-filled : (xs : List CellView) (s e m t : ℕ) (a : Attrs) → a ≡ default_attrs → IsPaired (cell_at xs)
    → IsBlankFrom xs m → s < e → t ≡ min e m
    → by_position (length xs) (wiped (cell_at xs) s t a) ≡ by_position (length xs) (wiped (cell_at xs) s e a)
wipes-filled xs s e m t a is p b h et = rw is (wipes-default xs s e m t p b h et)

pub wipes-none : (xs : List CellView) (s e m t : ℕ) (a : Attrs) → a ≡ default_attrs → IsPaired (cell_at xs)
    → IsBlankFrom xs m → s < e → t ≡ min e m → t ≤ s → xs ≡ by_position (length xs) (wiped (cell_at xs) s e a)
wipes-none xs s e m t a is p b h et none = rw is (none-default xs s e m t p b h et none)

-- ---- the start of a line

pub line-of-prefix : (xs : List CellView) (t : ℕ) → IsBlankFrom xs t → cell_at (take t xs) ≡ cell_at xs
line-of-prefix xs t b =
    fun_ext (λ k. ⊎_elim (λ lt. get_or-take t xs k default_cell lt)
    (λ ge. cell_at_past (take t xs) k (omega (arith, length-take t xs)) ∙ sym (b k ge)) (cases_lt k t))

-- where ws is what an edit makes of the start, and g gives the cell at each column after it
prefixes : (xs ws : List CellView) (t : ℕ) (f g : ℕ → CellView) → t ≤ length xs → ws ≡ by_position t f
    → ((k : ℕ) → k < t → f k ≡ g k) → ((k : ℕ) → t ≤ k → k < length xs → cell_at xs k ≡ g k)
    → ws ++ drop t xs ≡ by_position (length xs) g
prefixes xs ws t f g h e before behind =
    let l = reads_len t f ws e in
    by_position_is (length xs) g (ws ++ drop t xs) (simp (length-append, length-drop) (omega (arith, l)))
    (λ k q. ⊎_elim (λ lt. let read = reads t f ws e k lt in let same = before k lt in grind (arith, places))
    (λ ge. let same = behind k ge q in grind (arith, places)) (cases_lt k t))

-- ---- removal

closed-prefix : (f : ℕ → CellView) (s n t len k : ℕ) → ((j : ℕ) → t ≤ j → f j ≡ default_cell) → s + n ≤ t → t ≤ len
    → k < t → closed t f s n k ≡ closed len f s n k
closed-prefix f s n t len k b h l lt =
    ⊎_elim (λ within. grind (arith, nat_tests)) (λ past. let d = b (k + n) past in grind (arith, nat_tests))
    (cases_lt (k + n) t)

closed-behind : (f : ℕ → CellView) (s n t len k : ℕ) → ((j : ℕ) → t ≤ j → f j ≡ default_cell) → s + n ≤ t → 0 < n
    → t ≤ k → f k ≡ closed len f s n k
closed-behind f s n t len k b h pos ge =
    let d = b k ge in let e = b (k + n) (omega (arith, ge)) in grind (arith, nat_tests)

pub removes-filled : (xs ws : List CellView) (s n t : ℕ) → IsBlankFrom xs t → s + n ≤ t → t ≤ length xs → 0 < n
    → ws ≡ by_position (length (take t xs)) (closed (length (take t xs)) (cell_at (take t xs)) s n)
    → ws ++ drop t xs ≡ by_position (length xs) (closed (length xs) (cell_at xs) s n)
removes-filled xs ws s n t b h l pos e =
    let prefix : length (take t xs) ≡ t = omega (arith, length-take t xs) in
    let same = line-of-prefix xs t b in
    let whole : ws ≡ by_position t (closed t (cell_at xs) s n) =
    e ∙ (λ i. by_position (prefix i) (closed (prefix i) (same i) s n)) in
    prefixes xs ws t (closed t (cell_at xs) s n) (closed (length xs) (cell_at xs) s n) l whole
    (λ k lt. closed-prefix (cell_at xs) s n t (length xs) k b h l lt)
    (λ k ge q. closed-behind (cell_at xs) s n t (length xs) k b h pos ge)

closed-none : (f : ℕ → CellView) (s n m len k : ℕ) → IsPaired f → ((j : ℕ) → m ≤ j → f j ≡ default_cell) → m ≤ s
    → f k ≡ closed len f s n k
closed-none f s n m len k p b h =
    ⊎_elim (λ left. ⊎_elim (λ far. grind (arith, nat_tests))
    (λ near. let narrow = narrow-before f m k p b (omega arith) in grind (arith, nat_tests)) (cases_lt (k + 1) s))
    (λ ge. let d = b k (omega arith) in let e = b (k + n) (omega arith) in let g = b (s + n) (omega arith) in
    grind (arith, nat_tests)) (cases_lt k s)

pub removes-none : (xs : List CellView) (s n m : ℕ) → IsPaired (cell_at xs) → IsBlankFrom xs m → m ≤ s
    → xs ≡ by_position (length xs) (closed (length xs) (cell_at xs) s n)
removes-none xs s n m p b h =
    same-by_position xs (closed (length xs) (cell_at xs) s n)
    (λ k. closed-none (cell_at xs) s n m (length xs) k p b h)

-- ---- insertion

opened-blank : (f : ℕ → CellView) (i n m k : ℕ) → ((j : ℕ) → m ≤ j → f j ≡ default_cell) → i < m → m + n ≤ k
    → opened f i n k ≡ default_cell
opened-blank f i n m k b h ge = let d = b (k - n) (omega arith) in grind (arith, nat_tests)

-- a cell before the blank ones that an insertion leaves takes one column
opened-narrow : (f : ℕ → CellView) (i n m k : ℕ) → IsPaired f → ((j : ℕ) → m ≤ j → f j ≡ default_cell) → i < m
    → k + 1 ≡ m + n → (opened f i n k).wide ≡ false
opened-narrow f i n m k p b h e =
    let narrow = narrow-before f m (k - n) p b (omega arith) in grind (arith, nat_tests)

cut-prefix : (f : ℕ → CellView) (i n m t len k : ℕ) → IsPaired f → ((j : ℕ) → m ≤ j → f j ≡ default_cell) → i < m
    → t ≡ min (m + n) len → k < t → cut t (opened f i n) k ≡ cut len (opened f i n) k
cut-prefix f i n m t len k p b h et lt =
    ⊎_elim (λ short. ⊎_elim (λ far. grind (arith, nat_tests))
    (λ near. let narrow = opened-narrow f i n m k p b h (omega arith) in grind (arith, nat_tests))
    (cases_lt (k + 1) t))
    (λ whole. ap (λ j. cut j (opened f i n) k) (omega arith)) (cases_lt t len)

cut-behind : (f : ℕ → CellView) (i n m len k : ℕ) → ((j : ℕ) → m ≤ j → f j ≡ default_cell) → i < m → m + n ≤ k
    → k < len → f k ≡ cut len (opened f i n) k
cut-behind f i n m len k b h ge lt =
    let d = b k (omega arith) in let e = opened-blank f i n m k b h ge in grind (arith, nat_tests)

prefix-inserted : (xs ws : List CellView) (i count m t : ℕ) → IsBlankFrom xs t → i < m → i ≤ length xs
    → t ≡ min (m + count) (length xs) → ws ≡ inserted_cells (take t xs) i count
    → ws ≡ (if nat_lt 0 (min count (length xs - i))
    then by_position t (cut t (opened (cell_at xs) i (min count (length xs - i)))) else take t xs)
prefix-inserted xs ws i count m t b h l et e =
    let prefix : length (take t xs) ≡ t = omega (arith, length-take t xs) in
    let same = line-of-prefix xs t b in
    let n : min count (length (take t xs) - i) ≡ min count (length xs - i) = omega (arith, prefix) in
    e ∙ (λ j. if nat_lt 0 (n j) then by_position (prefix j) (cut (prefix j) (opened (same j) i (n j))) else take t xs)

pub inserts-filled : (xs ws : List CellView) (i count m t : ℕ) → IsPaired (cell_at xs) → IsBlankFrom xs m → i < m
    → i ≤ length xs → t ≡ min (m + count) (length xs) → ws ≡ inserted_cells (take t xs) i count
    → ws ++ drop t xs ≡ inserted_cells xs i count
inserts-filled xs ws i count m t p b h l et e =
    let n = min count (length xs - i) in
    let f = cell_at xs in
    let blank : IsBlankFrom xs t = λ k ge. ⊎_elim (λ lt. b k (omega (arith, ge, et, lt)))
    (λ past. cell_at_past xs k past) (cases_lt k (length xs)) in
    let is = prefix-inserted xs ws i count m t blank h l et e in
    cond_both (nat_lt 0 n) (by_position (length xs) (cut (length xs) (opened f i n))) xs (λ cells. ws ++ drop t xs
    ≡ cells)
    (λ some. prefixes xs ws t (cut t (opened f i n)) (cut (length xs) (opened f i n)) (omega (arith, et))
    (is ∙ ap (λ b. if b then by_position t (cut t (opened f i n)) else take t xs) some)
    (λ k lt. cut-prefix f i n m t (length xs) k p b h (omega (arith, et, h, l)) lt)
    (λ k ge q. cut-behind f i n m (length xs) k b h (omega (arith, et, ge, q)) q))
    (λ none. ap (λ (zs : List CellView). zs ++ drop t xs) (is ∙ ap (λ b. if b then by_position t (cut t (opened f i n))
    else take t xs) none)
    ∙ take-append-drop t xs)

opened-none : (f : ℕ → CellView) (i n m k : ℕ) → ((j : ℕ) → m ≤ j → f j ≡ default_cell) → m ≤ i → i ≤ k
    → opened f i n k ≡ default_cell
opened-none f i n m k b h l =
    ⊎_elim (λ new. let d = b i h in grind (arith, nat_tests))
    (λ old. let d = b i h in let e = b (k - n) (omega (arith, h, old)) in grind (arith, nat_tests)) (cases_lt k (i + n))

cut-none : (f : ℕ → CellView) (i n m len k : ℕ) → IsPaired f → ((j : ℕ) → m ≤ j → f j ≡ default_cell)
    → ((j : ℕ) → len ≤ j → f j ≡ default_cell) → m ≤ i → k < len → f k ≡ cut len (opened f i n) k
cut-none f i n m len k p b past h lt =
    ⊎_elim (λ left. ⊎_elim (λ far. grind (arith, nat_tests))
    (λ near. let narrow = narrow-before f len k p past near in grind (arith, nat_tests)) (cases_lt (k + 1) len))
    (λ ge. let d = b k (omega (arith, h, ge)) in let e = opened-none f i n m k b h ge in grind (arith, nat_tests))
    (cases_lt k i)

pub inserts-none : (xs : List CellView) (i count m : ℕ) → IsPaired (cell_at xs) → IsBlankFrom xs m → m ≤ i
    → xs ≡ inserted_cells xs i count
inserts-none xs i count m p b h =
    let n = min count (length xs - i) in
    let f = cell_at xs in
    cond_both (nat_lt 0 n) (by_position (length xs) (cut (length xs) (opened f i n))) xs (λ cells. xs ≡ cells)
    (λ _. by_position_is (length xs) (cut (length xs) (opened f i n)) xs refl
    (λ k l. cut-none f i n m (length xs) k p b (Bounded-row xs) h l))
    (λ _. refl)

-- ---- from where on the line is blank then

closed-blank : (f : ℕ → CellView) (s n m len k : ℕ) → ((j : ℕ) → m ≤ j → f j ≡ default_cell) → m ≤ k
    → closed len f s n k ≡ default_cell
closed-blank f s n m len k b ge =
    let d = b k ge in let e = b (k + n) (omega arith) in
    cond_both (k == s) true false (λ _. closed len f s n k ≡ default_cell)
    (λ is. let at : k ≡ s = eqb-true k s is in
    let g : f (s + n) ≡ default_cell = b (s + n) (omega (arith, at, ge)) in grind (arith, nat_tests))
    (λ other. grind (arith, nat_tests))

blank-removed : (xs : List CellView) (s n m : ℕ) → IsBlankFrom xs m
    → IsBlankFrom (by_position (length xs) (closed (length xs) (cell_at xs) s n)) m
blank-removed xs s n m b =
    blank-line (length xs) m (closed (length xs) (cell_at xs) s n)
    (λ k ge lt. closed-blank (cell_at xs) s n m (length xs) k b ge)

cut-blank : (f : ℕ → CellView) (len k : ℕ) → f k ≡ default_cell → cut len f k ≡ default_cell
cut-blank f len k d = grind (arith, nat_tests)

pub blank-inserted : (xs : List CellView) (i count m : ℕ) → IsPaired (cell_at xs) → IsBlankFrom xs m
    → length xs < 65536
    → IsBlankFrom (inserted_cells xs i count) (if nat_lt i m then min (m + count) 65535 else m)
blank-inserted xs i count m p b few =
    let n = min count (length xs - i) in
    let f = cell_at xs in
    cond_both (nat_lt i m) (min (m + count) 65535) m (IsBlankFrom (inserted_cells xs i count))
    (λ before. let h = ltb-true i m before in
    cond_both (nat_lt 0 n) (by_position (length xs) (cut (length xs) (opened f i n))) xs
    (λ cells. IsBlankFrom cells (min (m + count) 65535))
    (λ _. blank-line (length xs) (min (m + count) 65535) (cut (length xs) (opened f i n))
    (λ k ge lt. cut-blank (opened f i n) (length xs) k (opened-blank f i n m k b h (omega (arith, ge, lt, few)))))
    (λ _. λ k ge. ⊎_elim (λ lt. b k (omega (arith, ge, lt, few))) (λ past. cell_at_past xs k past)
    (cases_lt k (length xs))))
    (λ behind. subst (λ (zs : List CellView). IsBlankFrom zs m)
    (inserts-none xs i count m p b (ltb-false i m behind)) b)

-- a line that is blank from m on is so from a later column on, or one past its end
pub blank-later : (xs : List CellView) (m t : ℕ) → IsBlankFrom xs m → min m (length xs) ≤ t → IsBlankFrom xs t
blank-later xs m t b h k ge =
    ⊎_elim (λ lt. b k (omega (arith, h, ge, lt))) (λ past. cell_at_past xs k past) (cases_lt k (length xs))

pub paired-prefix : (xs : List CellView) (t : ℕ) → IsBlankFrom xs t → IsPaired (cell_at xs)
    → IsPaired (cell_at (take t xs))
paired-prefix xs t b p = rw (line-of-prefix xs t b) p

pub blank-taken : (v : RowView) (s e m : ℕ) → IsBlankFrom v.cells m → IsBlankFrom (removed v s e).cells m
blank-taken v s e m b =
    cond_both (nat_lt s e) (by_position (length v.cells) (closed (length v.cells) (cell_at v.cells) s (e - s))) v.cells
    (λ cells. IsBlankFrom cells m) (λ _. blank-removed v.cells s (e - s) m b) (λ _. b)
