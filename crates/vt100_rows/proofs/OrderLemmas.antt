-- Rows in an order of their numbers.
use Rattle.std.proofs.Common.{◌≡◌, ℕ, ◌+◌, ◌-◌, ◌<◌, ◌≤◌, ◌==◌, true, cond, List, [], ◌∷◌}
use Rattle.std.proofs.Common.{◌++◌, length, set, take, drop, refl, sym, ap, ◌∙◌, arith, inl, inr, nat_lt}
use Rattle.std.proofs.Common.{append_assoc, length-set, length-append, length-take, length-drop}
use Rattle.std.proofs.lemmas.Bool.{cases_eq, cases_lt, eq-eqb, le-ltb}
use Rattle.std.proofs.lemmas.Bool.Decides.{nat_tests}
use Rattle.std.proofs.lemmas.List.{places, get_or-map, length-map, get_or-set_same, get_or-set_other}
use Rattle.std.proofs.lemmas.List.{get_or-take}
use Rattle.std.proofs.lemmas.List.FromFn.{get_or-range_with_len, length-range_with_len, map-range_with_len_more}
use Rattle.std.proofs.lemmas.List.{map-id}
use Rattle.std.proofs.Math.ListN.{get_or-append}
use Rattle.std.proofs.Math.Seq.{get_or-append_right}
use Rattle.std.specs.List.{range_with_len, CopiedTo, SameBelow, SameFrom}
use borrow.Rule.Slice.PartMut.{put_mid}
use Rattle.vt100_rows.specs.Row.{RowView, blank_row}
use Rattle.vt100_rows.specs.Sheet.{row_at, rows_by_position, turned_up}
use Rattle.vt100_rows.specs.SheetFields.{number_at, IsOrder, in_order, turned_place}
use Rattle.vt100_rows.proofs.SheetLemmas.{row_at-set, rows_by_position_is, rows_equal, row_at-read}

-- ---- reading

pub row_at-in_order : (rows : List RowView) (order : List ℕ) (r : ℕ) → r < length order
    → row_at (in_order rows order) r ≡ row_at rows (number_at order r)
row_at-in_order rows order r h = get_or-map (λ i. row_at rows i) order r 0 (blank_row 0) h

pub length-in_order : (rows : List RowView) (order : List ℕ) → length (in_order rows order) ≡ length order
length-in_order rows order = length-map order (λ i. row_at rows i)

-- rows in an order are known by each place
pub in_order-is : (rows : List RowView) (order : List ℕ) (vs : List RowView) → length order ≡ length vs
    → ((r : ℕ) → r < length order → row_at rows (number_at order r) ≡ row_at vs r) → in_order rows order ≡ vs
in_order-is rows order vs l same =
    rows_equal (in_order rows order) vs (length-in_order rows order ∙ l)
    (λ r h. let within : r < length order = omega (arith, length-in_order rows order) in
    row_at-in_order rows order r within ∙ same r within)

-- ---- one row

pub IsOrder-set : (rows : List RowView) (order : List ℕ) (i : ℕ) (v : RowView) → IsOrder (length rows) order
    → IsOrder (length (set rows i v)) order
IsOrder-set rows order i v o = rw (length-set rows i v) o

other : (i j : ℕ) (v w : RowView) → (i ≡ j → ⊥) → cond (i == j) v w ≡ w
other i j v w ne = grind (arith, nat_tests)

pub in_order-set : (rows : List RowView) (order : List ℕ) (r : ℕ) (v : RowView) → IsOrder (length rows) order
    → r < length order → in_order (set rows (number_at order r) v) order ≡ set (in_order rows order) r v
in_order-set rows order r v o h =
    let n = length rows in
    let within : r < length (in_order rows order) = omega (arith, length-in_order rows order) in
    in_order-is (set rows (number_at order r) v) order (set (in_order rows order) r v)
    (sym (length-set (in_order rows order) r v ∙ length-in_order rows order))
    (λ k m. row_at-set rows (number_at order r) v (number_at order k) (o.below r (omega (arith, o.count)))
    ∙ elim (cases_eq k r) [
      | inl e ↦ ap (λ j. cond (number_at order j == number_at order r) v (row_at rows (number_at order j))) e
          ∙ ap (λ b. cond b v (row_at rows (number_at order r))) (eq-eqb (number_at order r) (number_at order r) refl)
          ∙ sym (ap (λ j. row_at (set (in_order rows order) r v) j) e
          ∙ get_or-set_same (in_order rows order) r v (blank_row 0) within)
      | inr ne ↦
          let apart : number_at order k ≡ number_at order r → ⊥ =
          λ e. ne (o.once k r (omega (arith, o.count)) (omega (arith, o.count)) e) in
          other (number_at order k) (number_at order r) v (row_at rows (number_at order k)) apart
          ∙ sym (get_or-set_other (in_order rows order) r k v (blank_row 0) ne ∙ row_at-in_order rows order k m)
    ])

-- ---- rows that move

-- the place p r is where the row at r was
pub IsOrder-moved : (n : ℕ) (order moved : List ℕ) (p : ℕ → ℕ) → length moved ≡ length order
    → ((r : ℕ) → r < n → number_at moved r ≡ number_at order (p r)) → ((r : ℕ) → r < n → p r < n)
    → ((r q : ℕ) → r < n → q < n → p r ≡ p q → r ≡ q) → IsOrder n order → IsOrder n moved
IsOrder-moved n order moved p l read within once o = record {
  count = l ∙ o.count;
  below = λ r h. rw (read r h) (o.below (p r) (within r h));
  once = λ r q h k e. once r q h k (o.once (p r) (p q) (within r h) (within q k) (sym (read r h) ∙ e ∙ read q k));
}

turned_place-within : (first end k n r : ℕ) → first + k ≤ end → end ≤ n → r < n → turned_place first end k r < n
turned_place-within first end k n r h l m = grind (arith, nat_tests)

turned_place-once : (first end k r q : ℕ) → first + k ≤ end → turned_place first end k r ≡ turned_place first end k q
    → r ≡ q
turned_place-once first end k r q h e = grind (arith, nat_tests)

turned_place-row : (vs : List RowView) (first end k r : ℕ)
    → row_at vs (turned_place first end k r) ≡ turned_up vs first end k r
turned_place-row vs first end k r = grind (arith, nat_tests)

pub IsOrder-turned : (n : ℕ) (order moved : List ℕ) (first end k : ℕ) → first + k ≤ end → end ≤ n
    → length moved ≡ length order
    → ((r : ℕ) → r < length order → number_at moved r ≡ number_at order (turned_place first end k r))
    → IsOrder n order → IsOrder n moved
IsOrder-turned n order moved first end k h l e read o =
    IsOrder-moved n order moved (turned_place first end k) e (λ r m. read r (omega (arith, o.count)))
    (λ r m. turned_place-within first end k n r h l m) (λ r q _ _ s. turned_place-once first end k r q h s) o

pub in_order-turned : (rows : List RowView) (order moved : List ℕ) (first end k : ℕ) → first + k ≤ end
    → end ≤ length order → length moved ≡ length order
    → ((r : ℕ) → r < length order → number_at moved r ≡ number_at order (turned_place first end k r))
    → in_order rows moved
    ≡ rows_by_position (length (in_order rows order)) (turned_up (in_order rows order) first end k)
in_order-turned rows order moved first end k h l e read =
    let vs = in_order rows order in
    rows_by_position_is (length vs) (turned_up vs first end k) (in_order rows moved)
    (length-in_order rows moved ∙ e ∙ sym (length-in_order rows order))
    (λ r m. let within : r < length order = omega (arith, length-in_order rows order) in
    row_at-in_order rows moved r (omega (arith, e, within)) ∙ ap (λ i. row_at rows i) (read r within)
    ∙ sym (row_at-in_order rows order (turned_place first end k r)
    (turned_place-within first end k (length order) r h l within))
    ∙ turned_place-row vs first end k r)

last-place : (first end r : ℕ) → first < end → r ≡ end - 1 → first ≡ turned_place first end 1 r
last-place first end r h e = grind (arith, nat_tests)

same-below : (first end r : ℕ) → r < first → r ≡ turned_place first end 1 r
same-below first end r h = grind (arith, nat_tests)

next-place : (first end r : ℕ) → first ≤ r → r < end - 1 → first + 1 + (r - first) ≡ turned_place first end 1 r
next-place first end r h l = grind (arith, nat_tests)

same-past : (first end r : ℕ) → end ≤ r → r ≡ turned_place first end 1 r
same-past first end r h = grind (arith, nat_tests)

-- a part of the numbers is rotated
pub numbers-turned : (order ys mid moved : List ℕ) (first end k : ℕ) → first + k ≤ end → end ≤ length order
    → mid ≡ take (end - first) (drop first order) → ys ≡ drop k mid ++ take k mid
    → moved ≡ put_mid first (end - first) order ys → (r : ℕ) → r < length order
    → number_at moved r ≡ number_at order (turned_place first end k r)
numbers-turned order ys mid moved first end k h l em ey ew r m =
    let lm : length mid ≡ end - first = ap length em ∙ simp (length-take, length-drop) (omega arith) in
    let ly : length ys ≡ end - first = ap length ey ∙ simp (length-append, length-take, length-drop) (omega arith) in
    ap (λ (xs : List ℕ). number_at xs r) ew ∙ grind (arith, places, nat_tests)

-- all rows are turned up
rotated-row : (vs : List RowView) (k r : ℕ) → k ≤ length vs → r < length vs
    → row_at (drop k vs ++ take k vs) r ≡ turned_up vs 0 (length vs) k r
rotated-row vs k r h m = grind (arith, places, nat_tests)

pub turned-rotated : (vs : List RowView) (k : ℕ) → k ≤ length vs
    → rows_by_position (length vs) (turned_up vs 0 (length vs) k) ≡ drop k vs ++ take k vs
turned-rotated vs k h =
    sym (rows_by_position_is (length vs) (turned_up vs 0 (length vs) k) (drop k vs ++ take k vs)
    (simp (length-append, length-take, length-drop) (omega arith)) (λ r m. rotated-row vs k r h m))

-- the first number goes below the others
pub numbers-turned_one : (order copied : List ℕ) (first end top r : ℕ) → first < end → end ≤ length order
    → length copied ≡ length order → CopiedTo order copied (first + 1) first (end - (first + 1))
    → SameBelow order copied first → SameFrom order copied (first + (end - (first + 1)))
    → top ≡ number_at order first → r < length order
    → number_at (set copied (end - 1) top) r ≡ number_at order (turned_place first end 1 r)
numbers-turned_one order copied first end top r h l lc moved below after et m = elim (cases_eq r (end - 1)) [
  | inl e ↦ ap (number_at (set copied (end - 1) top)) e ∙ get_or-set_same copied (end - 1) top 0 (omega arith) ∙ et
      ∙ ap (number_at order) (last-place first end r h e)
  | inr ne ↦ get_or-set_other copied (end - 1) r top 0 ne ∙ elim (cases_lt r first) [
    | inl lt ↦ below r 0 lt ∙ ap (number_at order) (same-below first end r lt)
    | inr ge ↦ elim (cases_lt r (end - 1)) [
      | inl lt ↦ moved r 0 ge (omega arith) ∙ ap (number_at order) (next-place first end r ge lt)
      | inr past ↦ after r 0 (omega arith) ∙ ap (number_at order) (same-past first end r (omega (arith, ne)))
    ]
  ]
]

-- ---- more rows

range-more : (a n j : ℕ) → a + n ≡ j → range_with_len a (n + 1) ≡ range_with_len a n ++ j ∷ []
range-more a n j e =
    sym (map-id (range_with_len a (n + 1))) ∙ map-range_with_len_more (λ i. i) a n j e
    ∙ ap (λ (xs : List ℕ). xs ++ j ∷ []) (map-id (range_with_len a n))

pub numbers-more : (order more : List ℕ) (k : ℕ) → length order ≤ k
    → more ≡ order ++ range_with_len (length order) (k - length order)
    → more ++ k ∷ [] ≡ order ++ range_with_len (length order) (k + 1 - length order)
numbers-more order more k h e =
    let n = length order in
    ap (λ (xs : List ℕ). xs ++ k ∷ []) e ∙ append_assoc order (range_with_len n (k - n)) (k ∷ [])
    ∙ ap (λ (xs : List ℕ). order ++ xs) (sym (range-more n (k - n) k (omega arith))
    ∙ ap (range_with_len n) (omega arith))

number-more : (order : List ℕ) (n m r : ℕ) → length order ≡ n → r < n + m
    → number_at (order ++ range_with_len n m) r ≡ cond (nat_lt r n) (number_at order r) r
number-more order n m r l h = elim (cases_lt r n) [
  | inl lt ↦ get_or-append order (range_with_len n m) 0 r (omega arith) ∙ grind (arith, nat_tests)
  | inr ge ↦ get_or-append_right order (range_with_len n m) r 0 (omega arith)
      ∙ get_or-range_with_len n m (r - length order) 0 (omega arith) ∙ grind (arith, nat_tests)
]

pub IsOrder-more : (n m : ℕ) (order : List ℕ) → IsOrder n order → IsOrder (n + m) (order ++ range_with_len n m)
IsOrder-more n m order o = record {
  count = length-append order (range_with_len n m) ∙ omega (arith, o.count, length-range_with_len n m);
  below = λ r h. rw (number-more order n m r o.count h)
      (elim (cases_lt r n) [
        | inl lt ↦ grind (arith, nat_tests, o.below r lt)
        | inr ge ↦ grind (arith, nat_tests)
      ]);
  once = λ r q h k e.
      let same : cond (nat_lt r n) (number_at order r) r ≡ cond (nat_lt q n) (number_at order q) q =
      sym (number-more order n m r o.count h) ∙ e ∙ number-more order n m q o.count k in
      elim (cases_lt r n) [
        | inl lr ↦ elim (cases_lt q n) [
          | inl lq ↦ o.once r q lr lq (grind (arith, nat_tests))
          | inr gq ↦ absurd (grind (arith, nat_tests, o.below r lr))
        ]
        | inr gr ↦ elim (cases_lt q n) [
          | inl lq ↦ absurd (grind (arith, nat_tests, o.below q lq))
          | inr gq ↦ grind (arith, nat_tests)
        ]
      ];
}

lt-ltb : (m n : ℕ) → m < n → nat_lt m n ≡ true
lt-ltb m n h = grind (arith, nat_tests)

-- one more
pub IsOrder-push : (rows more : List RowView) (order numbers : List ℕ) (v : RowView) (k : ℕ) → more ≡ rows ++ v ∷ []
    → numbers ≡ order ++ k ∷ [] → k ≡ length rows → IsOrder (length rows) order → IsOrder (length more) numbers
IsOrder-push rows more order numbers v k em en ek o =
    rw (em, en, ek, length-append rows (v ∷ [])) (IsOrder-more (length rows) 1 order o)

pub in_order-more : (rows ys : List RowView) (order : List ℕ) → IsOrder (length rows) order
    → in_order (rows ++ ys) (order ++ range_with_len (length rows) (length ys)) ≡ in_order rows order ++ ys
in_order-more rows ys order o =
    let n = length rows in
    let m = length ys in
    let all = order ++ range_with_len n m in
    let la : length all ≡ n + m = length-append order (range_with_len n m)
    ∙ omega (arith, o.count, length-range_with_len n m) in
    in_order-is (rows ++ ys) all (in_order rows order ++ ys)
    (la ∙ sym (length-append (in_order rows order) ys ∙ omega (arith, length-in_order rows order, o.count)))
    (λ r h. ap (λ i. row_at (rows ++ ys) i) (number-more order n m r o.count (omega arith)) ∙ elim (cases_lt r n) [
      | inl lt ↦ ap (λ b. row_at (rows ++ ys) (cond b (number_at order r) r)) (lt-ltb r n lt)
          ∙ get_or-append rows ys (blank_row 0) (number_at order r) (o.below r lt)
          ∙ sym (get_or-append (in_order rows order) ys (blank_row 0) r
          (omega (arith, length-in_order rows order, o.count)) ∙ row_at-in_order rows order r (omega (arith, o.count)))
      | inr ge ↦ ap (λ b. row_at (rows ++ ys) (cond b (number_at order r) r)) (le-ltb r n ge)
          ∙ get_or-append_right rows ys r (blank_row 0) ge
          ∙ sym (get_or-append_right (in_order rows order) ys r (blank_row 0)
          (omega (arith, length-in_order rows order, o.count))
          ∙ ap (λ k. row_at ys (r - k)) (length-in_order rows order ∙ o.count))
    ])

pub in_order-push : (rows more : List RowView) (order numbers : List ℕ) (v : RowView) (k : ℕ) → more ≡ rows ++ v ∷ []
    → numbers ≡ order ++ k ∷ [] → k ≡ length rows → IsOrder (length rows) order
    → in_order more numbers ≡ in_order rows order ++ v ∷ []
in_order-push rows more order numbers v k em en ek o = rw (em, en, ek) (in_order-more rows (v ∷ []) order o)

numbers-added : (n m : ℕ) (order numbers : List ℕ) (k : ℕ) → k ≡ n + m → length order ≡ n
    → numbers ≡ order ++ range_with_len (length order) (k - length order) → numbers ≡ order ++ range_with_len n m
numbers-added n m order numbers k ek l e =
    e ∙ ap (λ i. order ++ range_with_len i (k - i)) l
    ∙ ap (λ i. order ++ range_with_len n i) (let d : k - n ≡ m = omega arith in d)

pub length-added : (order numbers : List ℕ) (n : ℕ) → length order ≤ n
    → numbers ≡ order ++ range_with_len (length order) (n - length order) → length numbers ≡ n
length-added order numbers n h e =
    ap (λ (xs : List ℕ). length xs) e ∙ length-append order (range_with_len (length order) (n - length order))
    ∙ omega (arith, length-range_with_len (length order) (n - length order))

-- rows are added in memory, and their numbers
pub IsOrder-added : (rows new two : List RowView) (order numbers : List ℕ) (n : ℕ) → two ≡ rows ++ new → n ≡ length two
    → numbers ≡ order ++ range_with_len (length order) (n - length order) → IsOrder (length rows) order
    → IsOrder (length two) numbers
IsOrder-added rows new two order numbers n et en e o =
    let count : length two ≡ length rows + length new = ap (λ (xs : List RowView). length xs) et ∙ length-append rows new in
    rw (count, numbers-added (length rows) (length new) order numbers n (en ∙ count) o.count e)
    (IsOrder-more (length rows) (length new) order o)

pub in_order-added : (rows new two : List RowView) (order numbers : List ℕ) (n : ℕ) → two ≡ rows ++ new
    → n ≡ length two → numbers ≡ order ++ range_with_len (length order) (n - length order)
    → IsOrder (length rows) order → in_order two numbers ≡ in_order rows order ++ new
in_order-added rows new two order numbers n et en e o =
    let count : length two ≡ length rows + length new = ap (λ (xs : List RowView). length xs) et ∙ length-append rows new in
    rw (numbers-added (length rows) (length new) order numbers n (en ∙ count) o.count e, et)
    (in_order-more rows new order o)

-- and go above the others
pub added-back : (rows new two : List RowView) (order numbers mem turned : List ℕ) (n len down : ℕ) → two ≡ rows ++ new
    → n ≡ length two → numbers ≡ order ++ range_with_len (length order) (n - length order) → mem ≡ numbers
    → len ≡ length numbers → down ≤ len → length turned ≡ length mem
    → ((r : ℕ) → r < length mem → number_at turned r ≡ number_at mem (turned_place 0 len (len - down) r))
    → IsOrder (length rows) order
    → IsOrder (length two) turned
    × (in_order two turned ≡ drop (len - down) (in_order rows order ++ new) ++ take (len - down) (in_order rows order ++ new))
added-back rows new two order numbers mem turned n len down et en added same el h l read o =
    let vs = in_order rows order ++ new in
    let all : IsOrder (length two) mem = rw same (IsOrder-added rows new two order numbers n et en added o) in
    let e : in_order two mem ≡ vs = ap (in_order two) same ∙ in_order-added rows new two order numbers n et en added o in
    let em : len ≡ length mem = el ∙ sym (ap (λ (xs : List ℕ). length xs) same) in
    let lv : length vs ≡ len = ap (λ (xs : List RowView). length xs) (sym e) ∙ length-in_order two mem ∙ sym em in (
      IsOrder-turned (length two) mem turned 0 len (len - down) (omega arith) (omega (arith, all.count)) l read all,
      in_order-turned two mem turned 0 len (len - down) (omega arith) (omega arith) l read
          ∙ ap (λ (xs : List RowView). rows_by_position (length xs) (turned_up xs 0 len (len - down))) e
          ∙ ap (λ k. rows_by_position (length vs) (turned_up vs 0 k (len - down))) (sym lv)
          ∙ turned-rotated vs (len - down) (omega arith),
    )

-- ---- the first rows alone

pub IsOrder-first : (rows : List RowView) (order : List ℕ) (k : ℕ) → length order ≡ length rows
    → ((r : ℕ) → r < length order → number_at order r ≡ r) → IsOrder (length (take k rows)) (take k order)
IsOrder-first rows order k l settled =
    let read : (r : ℕ) → r < length (take k rows) → number_at (take k order) r ≡ r =
    λ r h. get_or-take k order r 0 (omega (arith, length-take k rows)) ∙ settled r (omega (arith, length-take k rows, l)) in
    record {
      count = length-take k order ∙ omega (arith, length-take k rows, l);
      below = λ r h. rw (read r h) h;
      once = λ r q h m e. sym (read r h) ∙ e ∙ read q m;
    }

pub in_order-first : (rows : List RowView) (order : List ℕ) (k : ℕ)
    → ((r : ℕ) → r < length order → number_at order r ≡ r)
    → in_order (take k rows) (take k order) ≡ take k (in_order rows order)
in_order-first rows order k settled =
    in_order-is (take k rows) (take k order) (take k (in_order rows order))
    (length-take k order ∙ omega (arith, length-take k (in_order rows order), length-in_order rows order))
    (λ r h. let low : r < k = omega (arith, length-take k order) in
    let within : r < length order = omega (arith, length-take k order) in
    ap (λ i. row_at (take k rows) i) (get_or-take k order r 0 low ∙ settled r within)
    ∙ get_or-take k rows r (blank_row 0) low
    ∙ sym (get_or-take k (in_order rows order) r (blank_row 0) low ∙ row_at-in_order rows order r within
    ∙ ap (λ i. row_at rows i) (settled r within)))

-- ---- every row changes, wherever it lies

pub in_order-each : (f : RowView → RowView) (rows mem ws : List RowView) (order : List ℕ) → mem ≡ rows
    → ws ≡ rows_by_position (length mem) (λ k. f (row_at mem k)) → IsOrder (length rows) order
    → in_order ws order ≡ rows_by_position (length (in_order rows order)) (λ r. f (row_at (in_order rows order) r))
in_order-each f rows mem ws order same em o =
    let vs = in_order rows order in
    let e : ws ≡ rows_by_position (length rows) (λ k. f (row_at rows k)) =
    em ∙ ap (λ (xs : List RowView). rows_by_position (length xs) (λ k. f (row_at xs k))) same in
    rows_by_position_is (length vs) (λ r. f (row_at vs r)) (in_order ws order)
    (length-in_order ws order ∙ sym (length-in_order rows order))
    (λ r h. let within : r < length order = omega (arith, length-in_order rows order) in
    row_at-in_order ws order r within
    ∙ row_at-read (length rows) (λ k. f (row_at rows k)) ws (number_at order r) e (o.below r (omega (arith, o.count)))
    ∙ ap f (sym (row_at-in_order rows order r within)))
