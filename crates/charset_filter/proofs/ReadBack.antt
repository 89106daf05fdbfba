-- SGR that is written is read back as its groups.
use Rattle.std.proofs.Common.{◌≡◌, ℕ, zero, suc, ◌+◌, ◌-◌, ◌*◌, ◌<◌, ◌≤◌, min, Bool, true, false, ◌==◌, ◌&&◌, ◌||◌}
use Rattle.std.proofs.Common.{List, [], ◌∷◌, ◌++◌, length, length-append, take, map, nat_lt, refl, ◌∙◌, ap}
use Rattle.std.proofs.Common.{arith, append-nil, codes, decimal, if◌then◌else◌}
use Rattle.std.proofs.lemmas.Bool.{le-ltb}
use Rattle.std.proofs.lemmas.Bool.Decides.{nat_tests}
use Rattle.std.proofs.lemmas.Fmt.{decimal_is_IsNumeral}
use Rattle.std.proofs.lemmas.List.{take_all}
use Rattle.std.proofs.lemmas.List.Elements.{All-nil, All-cons}
use Rattle.std.proofs.lemmas.List.Splits.{slice_split_none, slice_split_at}
use Rattle.std.proofs.lemmas.Str.{digit_value_digit}
use Rattle.std.proofs.lemmas.Str.Parse.{digit_from_value}
use Rattle.std.specs.Char.{digit_value}
use Rattle.std.specs.Str.Parse.{AllDigits, digits_value_after}
use Rattle.std.specs.List.{All, AllByRecursion, concat, filter, flat_map, fold, slice_split}
use Rattle.vte_core.specs.Event.{Csi}
use Rattle.vte_core.specs.Bytes.{is_numeric, is_private}
use Rattle.vte_core.specs.Header.{unmarked, in_order, is_well_formed, number, groups_of, groups, first_numbers}
use Rattle.vte_core.specs.Header.{intermediates, overflows, kept_groups}
use Rattle.vte_core.specs.ParamsText.{group_text, groups_text}
use Rattle.vte_core.specs.Pending.{InText, events_from}
use Rattle.vte_core.specs.Shapes.{events}
use Rattle.vte_core.specs.Store.{total}
use Rattle.std.specs.Int.{is_in_range}
use Rattle.vte_core.proofs.Characters.{if_holds}
use Rattle.vte_core.proofs.Machine.{events-reported}
use Rattle.charset_filter.specs.Behind.{are_parts, as_known, is_color, is_known, replaced, sgr}
use Rattle.charset_filter.specs.Laws.{IsGroup, StandsAsKnown, sgr_events}
use Rattle.charset_filter.proofs.GroundLemmas.{all-small, groups-header, header-run}
use Rattle.charset_filter.proofs.NumberLemmas.{AreSmall, IsSmall}

-- ---- digits

read-digits : (ds : List ℕ) (m k : ℕ) → AllDigits 10 ds → m ≡ min 65535 k
    → fold (λ n d. min 65535 (n * 10 + (d - 0x30))) m ds ≡ min 65535 (digits_value_after 10 k ds)
read-digits [] m k h e = e
read-digits (d ∷ ds) m k h e =
    let value : digit_value d + 48 ≡ d = digit_value_digit d (digit_from_value d h.0) in
    read-digits ds (min 65535 (m * 10 + (d - 0x30))) (k * 10 + digit_value d) h.1 (omega (arith, e, value))

digits-of : (n : ℕ) → n < 65536 → AllDigits 10 (decimal n)
digits-of n h = (decimal_is_IsNumeral n (omega (arith, h))).0.1

number-decimal : (n : ℕ) → n < 65536 → number (decimal n) ≡ n
number-decimal n h = read-digits (decimal n) 0 0 (digits-of n h) refl
    ∙ (ap (min 65535) (decimal_is_IsNumeral n (omega (arith, h))).1 ∙ omega (arith, h))

abbrev AreNumeric : List ℕ → Type 0
AreNumeric bs = AllByRecursion (λ b. is_numeric b ≡ true) bs

digit-numeric : (d : ℕ) → 48 ≤ d → d ≤ 57 → is_numeric d ≡ true
digit-numeric d h k = grind (arith, nat_tests)

digits-numeric : (ds : List ℕ) → AllDigits 10 ds → AreNumeric ds
digits-numeric [] h = tt
digits-numeric (d ∷ ds) h =
    let r = digit_from_value d h.0 in
    (digit-numeric d (omega (arith, r)) (omega (arith, r)), digits-numeric ds h.1)

-- no byte is this one
abbrev Without : ℕ → List ℕ → Type 0
Without c bs = AllByRecursion (λ b. (b == c) ≡ false) bs

not-byte : (c d : ℕ) → 57 < c → 48 ≤ d → d ≤ 57 → (d == c) ≡ false
not-byte c d m h k = grind (arith, nat_tests)

digits-without : (c : ℕ) (ds : List ℕ) → 57 < c → AllDigits 10 ds → Without c ds
digits-without c [] m h = tt
digits-without c (d ∷ ds) m h =
    let r = digit_from_value d h.0 in
    (not-byte c d m (omega (arith, r)) (omega (arith, r)), digits-without c ds m h.1)

append-each : (P : ℕ → Type 0) (xs ys : List ℕ) → AllByRecursion P xs → AllByRecursion P ys
    → AllByRecursion P (xs ++ ys)
append-each P [] ys h k = k
append-each P (x ∷ xs) ys h k = (h.0, append-each P xs ys h.1 k)

each-all : (c : ℕ) (bs : List ℕ) → Without c bs → All (λ b. (b == c) ≡ false) bs
each-all c [] h = All-nil (λ b. (b == c) ≡ false)
each-all c (b ∷ bs) h = All-cons (λ b. (b == c) ≡ false) b bs h.0 (each-all c bs h.1)

-- ---- a group

abbrev further : List ℕ → List ℕ
further ns = flat_map (λ y. codes ":" ++ decimal y) ns

further-numeric : (ns : List ℕ) → IsSmall ns → AreNumeric (further ns)
further-numeric [] h = tt
further-numeric (n ∷ ns) h = append-each (λ b. is_numeric b ≡ true) (codes ":" ++ decimal n) (further ns)
    (refl, digits-numeric (decimal n) (digits-of n h.0)) (further-numeric ns h.1)

further-without : (ns : List ℕ) → IsSmall ns → Without 0x3B (further ns)
further-without [] h = tt
further-without (n ∷ ns) h = append-each (λ b. (b == 0x3B) ≡ false) (codes ":" ++ decimal n) (further ns)
    (refl, digits-without 0x3B (decimal n) (omega arith) (digits-of n h.0)) (further-without ns h.1)

cut-group : (n : ℕ) (ns : List ℕ) → IsSmall (n ∷ ns)
    → slice_split (λ b. b == 0x3A) (decimal n ++ further ns) ≡ map decimal (n ∷ ns)
cut-group n [] h =
    ap (slice_split (λ b. b == 0x3A)) (append-nil (decimal n))
    ∙ slice_split_none (λ b. b == 0x3A) (decimal n)
    (each-all 0x3A (decimal n) (digits-without 0x3A (decimal n) (omega arith) (digits-of n h.0)))
cut-group n (m ∷ ns) h =
    slice_split_at (λ b. b == 0x3A) (decimal n) 0x3A (decimal m ++ further ns)
    (each-all 0x3A (decimal n) (digits-without 0x3A (decimal n) (omega arith) (digits-of n h.0))) refl
    ∙ ap (λ (ps : List (List ℕ)). decimal n ∷ ps) (cut-group m ns h.1)

numbers-back : (ns : List ℕ) → IsSmall ns → map number (map decimal ns) ≡ ns
numbers-back [] h = refl
numbers-back (n ∷ ns) h =
    ap (λ (x : ℕ). x ∷ map number (map decimal ns)) (number-decimal n h.0)
    ∙ ap (λ (xs : List ℕ). n ∷ xs) (numbers-back ns h.1)

abbrev read_group : List ℕ → List ℕ
read_group p = map number (slice_split (λ b. b == 0x3A) p)

group-back : (g : List ℕ) → 0 < length g → IsSmall g → read_group (group_text g) ≡ g
group-back [] some h = absurd (omega (arith, some))
group-back (n ∷ ns) some h = ap (map number) (cut-group n ns h) ∙ numbers-back (n ∷ ns) h

group-numeric : (g : List ℕ) → IsSmall g → AreNumeric (group_text g)
group-numeric [] h = tt
group-numeric (n ∷ ns) h = append-each (λ b. is_numeric b ≡ true) (decimal n) (further ns)
    (digits-numeric (decimal n) (digits-of n h.0)) (further-numeric ns h.1)

group-without : (g : List ℕ) → IsSmall g → Without 0x3B (group_text g)
group-without [] h = tt
group-without (n ∷ ns) h = append-each (λ b. (b == 0x3B) ≡ false) (decimal n) (further ns)
    (digits-without 0x3B (decimal n) (omega arith) (digits-of n h.0)) (further-without ns h.1)

-- ---- groups

abbrev later : List (List ℕ) → List ℕ
later gs = flat_map (λ y. codes ";" ++ group_text y) gs

later-numeric : (gs : List (List ℕ)) → AreSmall gs → AreNumeric (later gs)
later-numeric [] h = tt
later-numeric (g ∷ gs) h = append-each (λ b. is_numeric b ≡ true) (codes ";" ++ group_text g) (later gs)
    (refl, group-numeric g h.0) (later-numeric gs h.1)

text-numeric : (gs : List (List ℕ)) → AreSmall gs → AreNumeric (groups_text gs)
text-numeric [] h = tt
text-numeric (g ∷ gs) h = append-each (λ b. is_numeric b ≡ true) (group_text g) (later gs) (group-numeric g h.0)
    (later-numeric gs h.1)

cut-groups : (g : List ℕ) (gs : List (List ℕ)) → AreSmall (g ∷ gs)
    → slice_split (λ b. b == 0x3B) (group_text g ++ later gs) ≡ map group_text (g ∷ gs)
cut-groups g [] h =
    ap (slice_split (λ b. b == 0x3B)) (append-nil (group_text g))
    ∙ slice_split_none (λ b. b == 0x3B) (group_text g) (each-all 0x3B (group_text g) (group-without g h.0))
cut-groups g (k ∷ gs) h =
    slice_split_at (λ b. b == 0x3B) (group_text g) 0x3B (group_text k ++ later gs)
    (each-all 0x3B (group_text g) (group-without g h.0)) refl
    ∙ ap (λ (ps : List (List ℕ)). group_text g ∷ ps) (cut-groups k gs h.1)

abbrev AreSome : List (List ℕ) → Type 0
AreSome gs = AllByRecursion (λ g. 0 < length g) gs

each-back : (gs : List (List ℕ)) → AreSome gs → AreSmall gs → map read_group (map group_text gs) ≡ gs
each-back [] some h = refl
each-back (g ∷ gs) some h =
    ap (λ (x : List ℕ). x ∷ map read_group (map group_text gs)) (group-back g some.0 h.0)
    ∙ ap (λ (xs : List (List ℕ)). g ∷ xs) (each-back gs some.1 h.1)

groups-back : (g : List ℕ) (gs : List (List ℕ)) → AreSome (g ∷ gs) → AreSmall (g ∷ gs)
    → groups_of (groups_text (g ∷ gs)) ≡ g ∷ gs
groups-back g gs some h = ap (map read_group) (cut-groups g gs h) ∙ each-back (g ∷ gs) some h

-- ---- a header

numeric-private : (b : ℕ) → is_numeric b ≡ true → is_private b ≡ false
numeric-private b h = grind (arith, nat_tests)

numeric-unmarked : (bs : List ℕ) → AreNumeric bs → unmarked bs ≡ bs
numeric-unmarked [] h = refl
numeric-unmarked (b ∷ bs) h = rw (numeric-private b h.0) refl

numeric-order : (bs : List ℕ) → AreNumeric bs → in_order bs ≡ true
numeric-order [] h = refl
numeric-order (b ∷ bs) h = rw (h.0) (numeric-order bs h.1)

numeric-kept : (bs : List ℕ) → AreNumeric bs → filter is_numeric bs ≡ bs
numeric-kept [] h = refl
numeric-kept (b ∷ bs) h = rw (h.0) (ap (λ (xs : List ℕ). b ∷ xs) (numeric-kept bs h.1))

numeric-between : (bs : List ℕ) → AreNumeric bs → intermediates bs ≡ []
numeric-between [] h = refl
numeric-between (b ∷ bs) h = rw (h.0) (numeric-between bs h.1)

first-all : (m : ℕ) (gs : List (List ℕ)) → AreSome gs → total gs ≤ m → first_numbers m gs ≡ gs
first-all zero [] some few = refl
first-all zero (g ∷ gs) some few = absurd (omega (arith, some.0, few, length-append g (concat gs)))
first-all (suc m) [] some few = refl
first-all (suc m) (g ∷ gs) some few =
    let len = length-append g (concat gs) in
    ap (λ (x : List ℕ). x ∷ first_numbers (suc m - length g) gs) (take_all (suc m) g (omega (arith, len, few)))
    ∙ ap (λ (xs : List (List ℕ)). g ∷ xs) (first-all (suc m - length g) gs some.1 (omega (arith, len, few)))

sgr-event : (g : List ℕ) (gs : List (List ℕ)) → AreSome (g ∷ gs) → AreSmall (g ∷ gs) → total (g ∷ gs) ≤ 32
    → (n : ℕ) → events_from n (InText []) (sgr (g ∷ gs)) ≡ Csi (g ∷ gs) [] false 0x6D ∷ []
sgr-event g gs some small few n =
    let h = groups_text (g ∷ gs) in
    let numeric = text-numeric (g ∷ gs) small in
    let formed : is_well_formed h ≡ true = ap in_order (numeric-unmarked h numeric) ∙ numeric-order h numeric in
    let read : groups h ≡ g ∷ gs = ap groups_of (numeric-kept h numeric) ∙ groups-back g gs some small in
    let kept : kept_groups h ≡ g ∷ gs = ap (first_numbers 32) read ∙ first-all 32 (g ∷ gs) some few in
    let none : intermediates h ≡ [] = numeric-between h numeric in
    let fits : overflows h ≡ false =
    ap (λ (xs : List (List ℕ)). nat_lt 32 (length (concat xs)) || nat_lt 2 (length (intermediates h))) read
    ∙ (ap (λ (is : List ℕ). nat_lt 32 (total (g ∷ gs)) || nat_lt 2 (length is)) none
    ∙ ap (λ (v : Bool). v || false) (le-ltb 32 (total (g ∷ gs)) few)) in
    (header-run n [] h (0x6D ∷ []) (groups-header (g ∷ gs) small)).0
    ∙ rw formed (λ i. Csi (kept i) (take 2 (none i)) (fits i) 0x6D ∷ [])

-- ---- groups as they are known

either-some : (v : Bool) (x y : List (List ℕ)) → AreSome x → AreSome y → AreSome (if v then x else y)
either-some v x y h k = if_holds AreSome v x y h k

replaced-some : (g : List ℕ) → AreSome (replaced g)
replaced-some [] = tt
replaced-some (n ∷ []) = tt
replaced-some (n ∷ k ∷ []) = either-some (n == 4 && k == 0) _ _ (omega arith, tt)
    (either-some (n == 4 && is_in_range 1 5 k) _ _ (omega arith, tt) tt)
replaced-some (n ∷ k ∷ a ∷ []) = tt
replaced-some (n ∷ k ∷ a ∷ b ∷ []) = tt
replaced-some (n ∷ k ∷ a ∷ b ∷ c ∷ []) = tt
replaced-some (n ∷ k ∷ s ∷ r ∷ g ∷ b ∷ []) = either-some (is_color n && (k == 2 && are_parts r g b)) _ _
    (omega arith, tt) tt
replaced-some (n ∷ k ∷ a ∷ b ∷ c ∷ d ∷ e ∷ gs) = tt

known-some : (g : List ℕ) → 0 < length g → AreSome (as_known g)
known-some g h = either-some (is_known g) (g ∷ []) (replaced g) (h, tt) (replaced-some g)

-- at most k numbers in all
abbrev AtMost : ℕ → List (List ℕ) → Type 0
AtMost k gs = total gs ≤ k

either-few : (k : ℕ) (v : Bool) (x y : List (List ℕ)) → AtMost k x → AtMost k y → AtMost k (if v then x else y)
either-few k v x y h l = if_holds (AtMost k) v x y h l

replaced-few : (g : List ℕ) → total (replaced g) ≤ length g
replaced-few [] = omega arith
replaced-few (n ∷ []) = omega arith
replaced-few (n ∷ k ∷ []) = either-few 2 (n == 4 && k == 0) _ _ (omega arith)
    (either-few 2 (n == 4 && is_in_range 1 5 k) _ _ (omega arith) (omega arith))
replaced-few (n ∷ k ∷ a ∷ []) = omega arith
replaced-few (n ∷ k ∷ a ∷ b ∷ []) = omega arith
replaced-few (n ∷ k ∷ a ∷ b ∷ c ∷ []) = omega arith
replaced-few (n ∷ k ∷ s ∷ r ∷ g ∷ b ∷ []) = either-few 6 (is_color n && (k == 2 && are_parts r g b)) _ _
    (omega arith) (omega arith)
replaced-few (n ∷ k ∷ a ∷ b ∷ c ∷ d ∷ e ∷ gs) = omega arith

known-few : (g : List ℕ) → total (as_known g) ≤ length g
known-few g = either-few (length g) (is_known g) (g ∷ []) (replaced g) (omega (arith, length-append g []))
    (replaced-few g)

some-append : (xs ys : List (List ℕ)) → AreSome xs → AreSome ys → AreSome (xs ++ ys)
some-append [] ys h k = k
some-append (x ∷ xs) ys h k = (h.0, some-append xs ys h.1 k)

total-append : (xs ys : List (List ℕ)) → total (xs ++ ys) ≡ total xs + total ys
total-append [] ys = omega arith
total-append (x ∷ xs) ys =
    omega (arith, length-append x (concat (xs ++ ys)), length-append x (concat xs), total-append xs ys)

all-some : (gs : List (List ℕ)) → AreSome gs → AreSome (flat_map as_known gs)
all-some [] h = tt
all-some (g ∷ gs) h = some-append (as_known g) (flat_map as_known gs) (known-some g h.0) (all-some gs h.1)

all-few : (gs : List (List ℕ)) → total (flat_map as_known gs) ≤ total gs
all-few [] = omega arith
all-few (g ∷ gs) =
    omega (
      arith,
      total-append (as_known g) (flat_map as_known gs),
      known-few g,
      all-few gs,
      length-append g (concat gs),
    )

-- ---- the law

parts : (gs : List (List ℕ)) → AllByRecursion IsGroup gs → AreSome gs × AreSmall gs
parts [] h = (tt, tt)
parts (g ∷ gs) h = let more = parts gs h.1 in ((h.0.0, more.0), (h.0.1, more.1))

written : (n : ℕ) (gs : List (List ℕ)) → AreSome gs → AreSmall gs → total gs ≤ 32 → events n (sgr gs) ≡ sgr_events gs
written n [] some small few = refl
written n (g ∷ gs) some small few = events-reported n (sgr (g ∷ gs)) ∙ sgr-event g gs some small few n

pub stands-as-known : StandsAsKnown
stands-as-known n s gs are unknown =
    let p = parts gs are.each in
    let known = flat_map as_known gs in
    ap (λ (v : Bool). events n (if v then [] else sgr known)) unknown
    ∙ written n known (all-some gs p.0) (all-small gs p.1) (omega (arith, all-few gs, are.few))
