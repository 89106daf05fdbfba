-- The numbers of a control sequence, written in digits and read back.
use Rattle.std.proofs.Common.{◌≡◌, ℕ, zero, suc, ◌+◌, ◌-◌, ◌*◌, ◌^◌, ◌<◌, ◌≤◌, ◌==◌, true, false, ◌||◌, min}
use Rattle.std.proofs.Common.{List, [], ◌∷◌, ◌++◌, map, take, length, nat_lt, refl, sym, ap, ◌∙◌, arith, append-nil}
use Rattle.std.specs.Prelude.{decimal}
use Rattle.std.specs.List.{All, AllByRecursion, filter, fold, slice_split, concat}
use Rattle.std.specs.Char.{digit_value}
use Rattle.std.specs.Str.Parse.{AllDigits, digits_value_after}
use Rattle.std.proofs.lemmas.Bool.{le-ltb}
use Rattle.std.proofs.lemmas.Bool.Decides.{nat_tests}
use Rattle.std.proofs.lemmas.List.Elements.{All-nil, All-cons}
use Rattle.std.proofs.lemmas.List.Splits.{slice_split_none, slice_split_at}
use Rattle.std.proofs.lemmas.Fmt.{decimal_is_IsNumeral}
use Rattle.std.proofs.lemmas.Str.{digit_value_digit}
use Rattle.std.proofs.lemmas.Str.Parse.{digit_from_value}
use Rattle.vte_core.specs.Event.{Csi}
use Rattle.vte_core.specs.Bytes.{is_numeric, is_private, is_header}
use Rattle.vte_core.specs.Header.{unmarked, in_order, is_well_formed, number, groups_of, groups, first_numbers}
use Rattle.vte_core.specs.Header.{intermediates, overflows, kept_groups, kept_intermediates}
use Rattle.vte_core.specs.Ground.{header_event}
use Rattle.vt100_forms.specs.Form.{further_numbers}
use Rattle.terminal_model.proofs.PlainText.{all-append}
use Rattle.terminal_model.proofs.FormTexts.{all-each}
use Rattle.forms_read.specs.Events.{kept_number, sequence}

-- ---- digits

read_digits : (ds : List ℕ) (m k : ℕ) → AllDigits 10 ds → m ≡ min 65535 k
    → fold (λ n d. min 65535 (n * 10 + (d - 0x30))) m ds ≡ min 65535 (digits_value_after 10 k ds)
read_digits [] m k h e = e
read_digits (d ∷ ds) m k h e =
    let value : digit_value d + 48 ≡ d = digit_value_digit d (digit_from_value d h.0) in
    read_digits ds (min 65535 (m * 10 + (d - 0x30))) (k * 10 + digit_value d) h.1 (omega (arith, e, value))

digits-of : (n : ℕ) → n < 2 ^ 64 → AllDigits 10 (decimal n)
digits-of n h = (decimal_is_IsNumeral n h).0.1

pub number-decimal : (n : ℕ) → n < 2 ^ 64 → number (decimal n) ≡ kept_number n
number-decimal n h = read_digits (decimal n) 0 0 (digits-of n h) refl ∙ ap (min 65535) (decimal_is_IsNumeral n h).1

digit-is : (d : ℕ) → digit_value d < 10 → (48 ≤ d) × (d ≤ 57)
digit-is d h = let r = digit_from_value d h in (omega (arith, r), omega (arith, r))

is_digit-numeric : (d : ℕ) → 48 ≤ d → d ≤ 57 → is_numeric d ≡ true
is_digit-numeric d h k = grind (arith, nat_tests)

digits-numeric : (ds : List ℕ) → AllDigits 10 ds → AllByRecursion (λ b. is_numeric b ≡ true) ds
digits-numeric [] h = tt
digits-numeric (d ∷ ds) h = let r = digit-is d h.0 in (is_digit-numeric d r.0 r.1, digits-numeric ds h.1)

not_byte : (b d : ℕ) → 57 < b → 48 ≤ d → d ≤ 57 → (d == b) ≡ false
not_byte b d m h k = grind (arith, nat_tests)

digits-without : (b : ℕ) (ds : List ℕ) → 57 < b → AllDigits 10 ds → All (λ d. (d == b) ≡ false) ds
digits-without b [] m h = All-nil (λ d. (d == b) ≡ false)
digits-without b (d ∷ ds) m h =
    let r = digit-is d h.0 in
    All-cons (λ d. (d == b) ≡ false) d ds (not_byte b d m r.0 r.1) (digits-without b ds m h.1)

-- ---- a header of numbers

-- each number is below 2 ^ 64
abbrev pub AreSmall : List ℕ → Type 0
AreSmall ns = AllByRecursion (λ n. n < 2 ^ 64) ns

-- the numbers n ∷ ns in digits, with `;` between them
abbrev pub written : ℕ → List ℕ → List ℕ
written n ns = decimal n ++ further_numbers ns

abbrev AreNumeric : List ℕ → Type 0
AreNumeric bs = AllByRecursion (λ b. is_numeric b ≡ true) bs

further-numeric : (ns : List ℕ) → AreSmall ns → AreNumeric (further_numbers ns)
further-numeric [] h = tt
further-numeric (n ∷ ns) h = (
  refl,
  all-append (λ b. is_numeric b ≡ true) (decimal n) (further_numbers ns) (digits-numeric (decimal n) (digits-of n h.0))
      (further-numeric ns h.1),
)

written-numeric : (n : ℕ) (ns : List ℕ) → n < 2 ^ 64 → AreSmall ns → AreNumeric (written n ns)
written-numeric n ns h k =
    all-append (λ b. is_numeric b ≡ true) (decimal n) (further_numbers ns) (digits-numeric (decimal n) (digits-of n h))
    (further-numeric ns k)

numeric-private : (b : ℕ) → is_numeric b ≡ true → is_private b ≡ false
numeric-private b h = grind (arith, nat_tests)

numeric-header : (b : ℕ) → is_numeric b ≡ true → is_header b ≡ true
numeric-header b h = grind (arith, nat_tests)

numeric-headers : (bs : List ℕ) → AreNumeric bs → AllByRecursion (λ b. is_header b ≡ true) bs
numeric-headers = all-each (λ b. is_numeric b ≡ true) (λ b. is_header b ≡ true) numeric-header

pub written-header : (n : ℕ) (ns : List ℕ) → n < 2 ^ 64 → AreSmall ns
    → AllByRecursion (λ b. is_header b ≡ true) (written n ns)
written-header n ns h k = numeric-headers (written n ns) (written-numeric n ns h k)

numeric-unmarked : (bs : List ℕ) → AreNumeric bs → unmarked bs ≡ bs
numeric-unmarked [] h = refl
numeric-unmarked (b ∷ bs) h = rw (numeric-private b h.0) refl

numeric-order : (bs : List ℕ) → AreNumeric bs → in_order bs ≡ true
numeric-order [] h = refl
numeric-order (b ∷ bs) h = rw (h.0) (numeric-order bs h.1)

numeric-kept : (bs : List ℕ) → AreNumeric bs → filter is_numeric bs ≡ bs
numeric-kept [] h = refl
numeric-kept (b ∷ bs) h = rw (h.0) (ap (λ xs. b ∷ xs) (numeric-kept bs h.1))

numeric-between : (bs : List ℕ) → AreNumeric bs → intermediates bs ≡ []
numeric-between [] h = refl
numeric-between (b ∷ bs) h = rw (h.0) (numeric-between bs h.1)

cut-numbers : (ds ns : List ℕ) → All (λ d. (d == 0x3B) ≡ false) ds → AreSmall ns
    → slice_split (λ b. b == 0x3B) (ds ++ further_numbers ns) ≡ ds ∷ map decimal ns
cut-numbers ds [] h k = ap (slice_split (λ b. b == 0x3B)) (append-nil ds) ∙ slice_split_none (λ b. b == 0x3B) ds h
cut-numbers ds (n ∷ ns) h k =
    slice_split_at (λ b. b == 0x3B) ds 0x3B (decimal n ++ further_numbers ns) h refl
    ∙ ap (λ ps. ds ∷ ps)
    (cut-numbers (decimal n) ns (digits-without 0x3B (decimal n) (omega arith) (digits-of n k.0)) k.1)

one-number : (n : ℕ) → n < 2 ^ 64 → map number (slice_split (λ b. b == 0x3A) (decimal n)) ≡ kept_number n ∷ []
one-number n h =
    ap (map number) (slice_split_none (λ b. b == 0x3A) (decimal n)
    (digits-without 0x3A (decimal n) (omega arith) (digits-of n h)))
    ∙ ap (λ k. k ∷ []) (number-decimal n h)

each-number : (ns : List ℕ) → AreSmall ns
    → map (λ p. map number (slice_split (λ b. b == 0x3A) p)) (map decimal ns) ≡ map (λ n. kept_number n ∷ []) ns
each-number [] h = refl
each-number (n ∷ ns) h = λ i. one-number n h.0 i ∷ each-number ns h.1 i

abbrev singles : List ℕ → List (List ℕ)
singles ns = map (λ n. kept_number n ∷ []) ns

written-groups : (n : ℕ) (ns : List ℕ) → n < 2 ^ 64 → AreSmall ns → groups (written n ns) ≡ singles (n ∷ ns)
written-groups n ns h k =
    ap groups_of (numeric-kept (written n ns) (written-numeric n ns h k))
    ∙ ap (map (λ p. map number (slice_split (λ b. b == 0x3A) p)))
    (cut-numbers (decimal n) ns (digits-without 0x3B (decimal n) (omega arith) (digits-of n h)) k)
    ∙ each-number (n ∷ ns) (h, k)

abbrev none : List ℕ
none = []

take-none : (k : ℕ) → take k none ≡ []
take-none zero = refl
take-none (suc k) = refl

singles-first : (k : ℕ) (ns : List ℕ) → length ns ≤ k → first_numbers k (singles ns) ≡ singles ns
singles-first zero [] h = refl
singles-first zero (n ∷ ns) h = absurd (omega (arith, h))
singles-first (suc k) [] h = refl
singles-first (suc k) (n ∷ ns) h =
    let less : suc k - 1 ≡ k = omega arith in
    let others : first_numbers (suc k - 1) (singles ns) ≡ singles ns =
    ap (λ j. first_numbers j (singles ns)) less ∙ singles-first k ns (omega (arith, h)) in
    λ i. (kept_number n ∷ take-none k i) ∷ others i

singles-length : (ns : List ℕ) → length (concat (singles ns)) ≡ length ns
singles-length [] = refl
singles-length (n ∷ ns) = ap suc (singles-length ns)

written-overflow : (n : ℕ) (ns : List ℕ) → n < 2 ^ 64 → AreSmall ns → length (n ∷ ns) ≤ 32
    → overflows (written n ns) ≡ false
written-overflow n ns h k l =
    ap (λ gs. nat_lt 32 (length (concat gs)) || nat_lt 2 (length (intermediates (written n ns))))
    (written-groups n ns h k)
    ∙ ap (λ is. nat_lt 32 (length (concat (singles (n ∷ ns)))) || nat_lt 2 (length is))
    (numeric-between (written n ns) (written-numeric n ns h k))
    ∙ ap (λ j. nat_lt 32 j || false) (singles-length (n ∷ ns))
    ∙ ap (λ b. b || false) (le-ltb 32 (length (n ∷ ns)) l)

pub written-event : (n : ℕ) (ns : List ℕ) (final : ℕ) → n < 2 ^ 64 → AreSmall ns → length (n ∷ ns) ≤ 32
    → header_event (written n ns) final ≡ sequence [] (n ∷ ns) final ∷ []
written-event n ns final h k l =
    let numeric = written-numeric n ns h k in
    let formed : is_well_formed (written n ns) ≡ true =
    ap in_order (numeric-unmarked (written n ns) numeric) ∙ numeric-order (written n ns) numeric in
    let kept : kept_groups (written n ns) ≡ singles (n ∷ ns) =
    ap (first_numbers 32) (written-groups n ns h k) ∙ singles-first 32 (n ∷ ns) l in
    let none : kept_intermediates (written n ns) ≡ [] = ap (take 2) (numeric-between (written n ns) numeric) in
    let fits = written-overflow n ns h k l in
    rw formed (λ i. Csi (kept i) (none i) (fits i) final ∷ [])

-- one number after a `?`
pub marked-event : (n final : ℕ) → n < 2 ^ 64
    → header_event (63 ∷ decimal n) final ≡ sequence (63 ∷ []) (n ∷ []) final ∷ []
marked-event n final h =
    let numeric = digits-numeric (decimal n) (digits-of n h) in
    let formed : is_well_formed (63 ∷ decimal n) ≡ true = numeric-order (decimal n) numeric in
    let numbers : groups (63 ∷ decimal n) ≡ singles (n ∷ []) =
    ap groups (sym (append-nil (decimal n))) ∙ written-groups n [] h tt in
    let between : intermediates (63 ∷ decimal n) ≡ 63 ∷ [] = ap (λ is. 63 ∷ is) (numeric-between (decimal n) numeric) in
    let fits : overflows (63 ∷ decimal n) ≡ false =
    λ i. nat_lt 32 (length (concat (numbers i))) || nat_lt 2 (length (between i)) in
    rw formed (λ i. Csi (first_numbers 32 (numbers i)) (take 2 (between i)) (fits i) final ∷ [])

pub marked-header : (n : ℕ) → n < 2 ^ 64 → AllByRecursion (λ b. is_header b ≡ true) (63 ∷ decimal n)
marked-header n h = (refl, numeric-headers (decimal n) (digits-numeric (decimal n) (digits-of n h)))
