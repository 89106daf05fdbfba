-- Rows that come back at the top.
use Rattle.std.proofs.Common.{◌≡◌, ℕ, ◌+◌, ◌-◌, ◌^◌, ◌<◌, ◌≤◌, List, ◌++◌, length, take, drop, map, replicate}
use Rattle.std.proofs.Common.{append_assoc, min, refl, sym, ap, ◌∙◌, arith, length-take, length-take-le, length-drop}
use Rattle.std.proofs.Common.{length-append}
use Rattle.std.proofs.lemmas.Bool.Decides.{nat_tests}
use Rattle.std.proofs.lemmas.List.{places, length-map, length-replicate, replicate-append-replicate, take_at, drop_at}
use Rattle.std.proofs.lemmas.List.{get_or-map}
use Rattle.vt100_forms.specs.Attrs.{default_attrs}
use Rattle.vt100_cells.specs.Cell.{default_cell}
use Rattle.vt100_rows.specs.Row.{RowView, IsRow, blank_row, resized_row}
use Rattle.vt100_rows.proofs.RowLemmas.{IsRow-resized}
use Rattle.vt100_cells.proofs.CellLemmas.{IsCell-empty}
use Rattle.vt100_rows.specs.Sheet.{row_at, changed_between}
use Rattle.vt100_rows.proofs.SheetLemmas.{rows_equal}

pub IsRow-resized_default : (v : RowView) (width : ℕ) → IsRow v → width < 2 ^ 16
    → IsRow (resized_row v width default_cell)
IsRow-resized_default v width r h = IsRow-resized v width default_cell r (IsCell-empty default_attrs) refl refl h

changed-at : (f : RowView → RowView) (old : List RowView) (first k : ℕ) → first ≤ length old → k < length old
    → row_at (take first old ++ map f (drop first old)) k ≡ changed_between f old first (length old) k
changed-at f old first k h l =
    grind (arith, places, nat_tests, get_or-map f (drop first old) (k - first) (blank_row 0) (blank_row 0))

pub changed-end : (f : RowView → RowView) (old rows : List RowView) (first end : ℕ) → first ≤ length old
    → end ≡ length old → length rows ≡ length old → ((k : ℕ) → row_at rows k ≡ changed_between f old first end k)
    → rows ≡ take first old ++ map f (drop first old)
changed-end f old rows first end h e l read =
    let n : length (take first old ++ map f (drop first old)) ≡ length old =
    simp (length-append, length-map, length-take, length-drop) (omega arith) in
    rows_equal rows (take first old ++ map f (drop first old)) (l ∙ sym n)
    (λ k b. read k ∙ ap (λ m. changed_between f old first m k) e ∙ sym (changed-at f old first k h (omega arith)))

pub turned-back : (old blanks below back rows : List RowView) (n down : ℕ)
    → rows ≡ drop (n - down) ((old ++ (below ++ blanks)) ++ back)
    ++ take (n - down) ((old ++ (below ++ blanks)) ++ back)
    → n - down ≡ length (old ++ below) → rows ≡ ((blanks ++ back) ++ old) ++ below
turned-back old blanks below back rows n down e en =
    let same : (old ++ (below ++ blanks)) ++ back ≡ (old ++ below) ++ (blanks ++ back) =
    ap (λ (xs : List RowView). xs ++ back) (sym (append_assoc old below blanks))
    ∙ append_assoc (old ++ below) blanks back in
    e ∙ ap (λ (xs : List RowView). drop (n - down) xs ++ take (n - down) xs) same
    ∙ ap (λ (xs : List RowView). xs ++ take (n - down) ((old ++ below) ++ (blanks ++ back)))
    (drop_at (old ++ below) (blanks ++ back) (n - down) (sym en))
    ∙ ap (λ (xs : List RowView). (blanks ++ back) ++ xs) (take_at (old ++ below) (blanks ++ back) (n - down) (sym en))
    ∙ sym (append_assoc (blanks ++ back) old below)

newest : (f : RowView → RowView) (kept sized : List RowView) (come : ℕ) → come ≤ length kept
    → sized ≡ take (length kept - come) kept ++ map f (drop (length kept - come) kept) → length sized ≡ length kept
    → drop (length sized - come) sized ≡ map f (drop (length kept - come) kept)
newest f kept sized come h e l =
    ap (λ m. drop (m - come) sized) l ∙ ap (λ (xs : List RowView). drop (length kept - come) xs) e
    ∙ drop_at (take (length kept - come) kept) (map f (drop (length kept - come) kept)) (length kept - come)
    (length-take-le (length kept - come) kept (omega arith))

pub brings-back : (f : RowView → RowView) (b : RowView) (old kept sized one two rows : List RowView)
    (come down below n : ℕ) → come ≡ min down (length kept)
    → sized ≡ take (length kept - come) kept ++ map f (drop (length kept - come) kept) → length sized ≡ length kept
    → one ≡ old ++ replicate (below + (down - come)) b → two ≡ one ++ drop (length sized - come) sized → n ≡ length two
    → rows ≡ drop (n - down) two ++ take (n - down) two
    → rows ≡ (replicate (down - length kept) b ++ map f (drop (length kept - down) kept)) ++ old ++ replicate below b
brings-back f b old kept sized one two rows come down below n ec es ls e1 e2 en er =
    let back = map f (drop (length kept - down) kept) in
    let same : length kept - come ≡ length kept - down = omega arith in
    let blank : down - come ≡ down - length kept = omega arith in
    let moved : drop (length sized - come) sized ≡ back =
    newest f kept sized come (omega arith) es ls ∙ ap (λ m. map f (drop m kept)) same in
    let all : two ≡ (old ++ (replicate below b ++ replicate (down - length kept) b)) ++ back =
    e2 ∙ ap (λ (xs : List RowView). one ++ xs) moved
    ∙ ap (λ (xs : List RowView). xs ++ back) (e1 ∙ ap (λ m. old ++ replicate (below + m) b) blank
    ∙ ap (λ (xs : List RowView). old ++ xs) (sym (replicate-append-replicate below (down - length kept) b))) in
    let count : length two ≡ (length old + (below + (down - length kept))) + (length kept - (length kept - down)) =
    ap length all ∙ simp (length-append, length-replicate, length-map, length-drop) (omega arith) in
    let place : n - down ≡ length (old ++ replicate below b) = simp (length-append, length-replicate) (omega arith) in
    turned-back old (replicate (down - length kept) b) (replicate below b) back rows n down (er
    ∙ ap (λ (xs : List RowView). drop (n - down) xs ++ take (n - down) xs) all) place
