-- Tables of rows, and the numbers of rows in them.
use Rattle.std.proofs.Common.{◌≡◌, ◌≢◌, ◌<◌, ◌++◌, ◌∙◌, ℕ, zero, suc, List, [], ◌∷◌, Bool, true, false, Some}
use Rattle.std.proofs.Common.{ap, ap₂, append-nil, arith, get_or, length, length-append, map, nat_eq, not, refl}
use Rattle.std.proofs.Common.{slice_get, subst, sym, true≢false, ◌&&◌, ◌||◌}
use Rattle.std.specs.Prelude.{if◌then◌else◌}
use Rattle.std.specs.List.{All, list_any}
use Rattle.std.specs.Option.{option_map}
use Rattle.std.specs.Cmp.Lexicographic.{pointwise}
use Rattle.std.proofs.lemmas.Bool.{eq-eqb, eqb-true}
use Rattle.std.proofs.lemmas.List.{get_or_append_left, map-append}
use Rattle.std.proofs.lemmas.List.Elements.{All-head, All-tail, All-weaker}
use Rattle.std.proofs.lemmas.Option.{slice_get-get_or, slice_get-map}
use Rattle.indexmap.specs.IndexSet.{insert_key}
use Rattle.player_page.specs.Lines.{rows_at}
use Rattle.player_page.specs.Strips.{Takes, added}

-- ---- what a set of rows says

both : (a b : Bool) → a && b ≡ true → (a ≡ true) × (b ≡ true)
both true b h = (refl, h)
both false b h = absurd (true≢false (sym h))

pub same_items : (xs ys : List ℕ) → pointwise nat_eq xs ys ≡ true → xs ≡ ys
same_items [] [] h = refl
same_items [] (y ∷ ys) h = absurd (true≢false (sym h))
same_items (x ∷ xs) [] h = absurd (true≢false (sym h))
same_items (x ∷ xs) (y ∷ ys) h =
    let all = both (nat_eq x y) (pointwise nat_eq xs ys) h in
    ap (λ (z : ℕ). z ∷ xs) (eqb-true x y all.0) ∙ ap (λ (zs : List ℕ). y ∷ zs) (same_items xs ys all.1)

equal_to_itself : (xs : List ℕ) → pointwise nat_eq xs xs ≡ true
equal_to_itself [] = refl
equal_to_itself (x ∷ xs) =
    ap (λ (b : Bool). b && pointwise nat_eq xs xs) (eq-eqb x x refl) ∙ equal_to_itself xs

pub items_same : (xs ys : List ℕ) → xs ≡ ys → pointwise nat_eq xs ys ≡ true
items_same xs ys is = subst (λ (zs : List ℕ). pointwise nat_eq xs zs ≡ true) is (equal_to_itself xs)

neither : (a b : Bool) → a || b ≡ false → (a ≡ false) × (b ≡ false)
neither false b h = (refl, h)
neither true b h = absurd (true≢false h)

none_there : {V : Type 0} (eq : V → V → Bool) (items : V → List ℕ) → ((x y : V) → items x ≡ items y → eq x y ≡ true)
    → (value : V) (old : List V) (i : ℕ) → list_any (eq value) old ≡ false
    → slice_get (map items old) i ≢ Some (items value)
none_there eq items equal value [] i h = λ at. absurd (cc)
none_there eq items equal value (x ∷ xs) zero h = λ at.
    let no = neither (eq value x) (list_any (eq value) xs) h in
    let same : items x ≡ items value = cc in
    absurd (true≢false (sym (equal value x (sym same)) ∙ no.0))
none_there eq items equal value (x ∷ xs) (suc i) h =
    none_there eq items equal value xs i (neither (eq value x) (list_any (eq value) xs) h).1

-- from what an insertion says of the keys afterwards, and of the key that is equal to the value
pub takes_number : {V : Type 0} (eq : V → V → Bool) (items : V → List ℕ)
    → ((x y : V) → eq x y ≡ true → items x ≡ items y) → ((x y : V) → items x ≡ items y → eq x y ≡ true)
    → (old new : List V) (value k : V) (number : ℕ) (is_new : Bool) → is_new ≡ not (list_any (eq value) old)
    → new ≡ insert_key eq old value → slice_get new number ≡ Some k → eq value k ≡ true
    → Takes (items value) (map items old) (map items new) number is_new
takes_number {V} eq items same equal old new value k number is_new is keys stored equals = by (list_any (eq value) old)
    refl
  where
    at : slice_get (map items new) number ≡ Some (items value)
    at = slice_get-map items new number ∙ ap (option_map items) stored
        ∙ ap (λ (xs : List ℕ). Some xs) (sym (same value k equals))

    by : (b : Bool) → list_any (eq value) old ≡ b → Takes (items value) (map items old) (map items new) number is_new
    by true there = let none : is_new ≡ false = is ∙ ap not there in record {
      is = ap (map items) (keys ∙ ap (λ (b : Bool). if b then old else old ++ value ∷ []) there)
          ∙ sym (append-nil (map items old)) ∙ ap (λ b. map items old ++ added b (items value)) (sym none);
      at = at;
      absent = λ new. absurd (true≢false (sym new ∙ none));
    }
    by false there = let one : is_new ≡ true = is ∙ ap not there in record {
      is = ap (map items) (keys ∙ ap (λ (b : Bool). if b then old else old ++ value ∷ []) there)
          ∙ map-append items old (value ∷ []) ∙ ap (λ b. map items old ++ added b (items value)) (sym one);
      at = at;
      absent = λ new i. none_there eq items equal value old i there;
    }

-- ---- a table that gets longer

pub known_still : (table more : List (List ℕ)) (numbers : List ℕ) → All (λ n. n < length table) numbers
    → All (λ n. n < length (table ++ more)) numbers
known_still table more numbers known =
    let longer = length-append table more in
    All-weaker (λ (n : ℕ). n < length table) (λ (n : ℕ). n < length (table ++ more)) (λ n lt. omega arith) numbers known

pub rows_at_still : (table more : List (List ℕ)) (numbers : List ℕ) → All (λ n. n < length table) numbers
    → rows_at (table ++ more) numbers ≡ rows_at table numbers
rows_at_still table more [] known = refl
rows_at_still table more (n ∷ ns) known =
    ap₂ (λ (x : List ℕ) (xs : List (List ℕ)). x ∷ xs)
    (get_or_append_left table more [] n (All-head (λ (n : ℕ). n < length table) n ns known))
    (rows_at_still table more ns (All-tail (λ (n : ℕ). n < length table) n ns known))

-- ---- rows that are all different

-- other numbers are other rows
pub same_numbers : (table : List (List ℕ)) → ((i j : ℕ) (row : List ℕ) → slice_get table i ≡ Some row
    → slice_get table j ≡ Some row → i ≡ j) → (ms ns : List ℕ) → All (λ n. n < length table) ms
    → All (λ n. n < length table) ns → rows_at table ms ≡ rows_at table ns → ms ≡ ns
same_numbers table different [] [] known_ms known_ns is = refl
same_numbers table different [] (n ∷ ns) known_ms known_ns is = absurd (cc)
same_numbers table different (m ∷ ms) [] known_ms known_ns is = absurd (cc)
same_numbers table different (m ∷ ms) (n ∷ ns) known_ms known_ns is =
    let first : get_or table m [] ≡ get_or table n [] = cc in
    let rest : rows_at table ms ≡ rows_at table ns = cc in
    let m_lt = All-head (λ (n : ℕ). n < length table) m ms known_ms in
    let n_lt = All-head (λ (n : ℕ). n < length table) n ns known_ns in
    ap₂ (λ (x : ℕ) (xs : List ℕ). x ∷ xs)
    (different m n (get_or table n []) (slice_get-get_or table m [] m_lt ∙ ap (λ (r : List ℕ). Some r) first)
    (slice_get-get_or table n [] n_lt))
    (same_numbers table different ms ns (All-tail (λ (n : ℕ). n < length table) m ms known_ms)
    (All-tail (λ (n : ℕ). n < length table) n ns known_ns) rest)
