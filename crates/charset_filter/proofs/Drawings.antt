-- What is given for a drawn character prints it.
use Rattle.std.proofs.Common.{◌≡◌, ℕ, ◌<◌, Bool, true, false, ◌&&◌, ◌||◌, List, [], ◌∷◌, ◌++◌}
use Rattle.std.proofs.Common.{◌==◌, nat_eq, nat_lt, unwrap_or, refl, sym, ap, subst, inl, inr, arith}
use Rattle.std.proofs.lemmas.Bool.Decides.{nat_tests}
use Rattle.std.proofs.lemmas.Str.{encode_ascii}
use Rattle.std.specs.Char.{encode_utf8}
use Rattle.std.specs.Int.{is_in_range}
use Rattle.vte_core.specs.Event.{Event, Print}
use Rattle.vte_core.specs.Bytes.{is_esc}
use Rattle.vte_core.specs.Text.{char_len, second_min, second_max, first_bits, joined, char_event}
use Rattle.vte_core.specs.Pending.{InText, goes_on, begun, begun_rest, closed, events_from, after_bytes}
use Rattle.vte_core.proofs.Characters.{bool_cases}
use Rattle.vte_types.specs.Charset.{drawings, mapped}
use Rattle.vte_types.specs.Lookup.{lookup}
use Rattle.vte_types.specs.declared.charset.StandardCharset.{StandardCharset}
use Rattle.vte_types.specs.declared.charset.StandardCharset.TheVariants.{Ascii, SpecialCharacterAndLineDrawing}
use Rattle.charset_filter.specs.Given.{is_drawable}

-- the bytes print this character, whatever text was unfinished
abbrev pub Printed : ℕ → List ℕ → Type 0
Printed c bytes = (n : ℕ) (u : List ℕ)
    → (events_from n (InText u) bytes ≡ closed n (InText u) ++ Print c ∷ [])
    × (after_bytes (InText u) bytes ≡ InText [])

-- such a byte doesn't go on a character
off-low : (a : ℕ) (t : List ℕ) (b : ℕ) → b < 0x80 → goes_on a t b ≡ false
off-low a [] b h = grind (arith, nat_tests)
off-low a (c ∷ t) b h = grind (arith, nat_tests)

off-high : (a : ℕ) (t : List ℕ) (b : ℕ) → 0xBF < b → goes_on a t b ≡ false
off-high a [] b h = grind (arith, nat_tests)
off-high a (c ∷ t) b h = grind (arith, nat_tests)

pub off-drawable : (a : ℕ) (t : List ℕ) (b : ℕ) → is_drawable b ≡ true → goes_on a t b ≡ false
off-drawable a t b h = off-low a t b (grind (arith, nat_tests))

-- ASCII

one-len : (c : ℕ) → is_in_range 0x20 0x7F c ≡ true → (char_len c == 1) ≡ true
one-len c h = grind (arith, nat_tests)

one-bits : (c : ℕ) → is_in_range 0x20 0x7F c ≡ true → first_bits c ≡ c
one-bits c h = grind (arith, nat_tests)

one-event : (c : ℕ) → is_in_range 0x20 0x7F c ≡ true → char_event c ≡ Print c
one-event c h =
    let no : (nat_lt c 0x20 || is_in_range 0x80 0x9F c) ≡ false = grind (arith, nat_tests) in
    rw no refl

one-esc : (c : ℕ) → is_in_range 0x20 0x7F c ≡ true → is_esc c ≡ false
one-esc c h = grind (arith, nat_tests)

pub begun-one : (c : ℕ) → is_in_range 0x20 0x7F c ≡ true → (begun c ≡ Print c ∷ []) × (begun_rest c ≡ [])
begun-one c h = rw (one-len c h, one-bits c h, one-event c h) (refl, refl)

pub drawable-printed : (c : ℕ) → is_drawable c ≡ true → is_in_range 0x20 0x7F c ≡ true
drawable-printed c h = grind (arith, nat_tests)

printed-one : (c : ℕ) → is_in_range 0x20 0x7F c ≡ true → Printed c (c ∷ [])
printed-one c h n [] = rw (one-esc c h, (begun-one c h).0, (begun-one c h).1) (refl, refl)
printed-one c h n (a ∷ t) =
    let off = off-low a t c (grind (arith, nat_tests)) in
    rw (one-esc c h, off, (begun-one c h).0, (begun-one c h).1) (refl, refl)

-- two and three bytes

lead-esc : (l : ℕ) → 0xBF < l → is_esc l ≡ false
lead-esc l h = grind (arith, nat_tests)

tail-esc : (d : ℕ) → is_in_range 0x80 0xBF d ≡ true → is_esc d ≡ false
tail-esc d h = grind (arith, nat_tests)

high-event : (c : ℕ) → nat_lt 0x9F c ≡ true → char_event c ≡ Print c
high-event c h =
    let no : (nat_lt c 0x20 || is_in_range 0x80 0x9F c) ≡ false = grind (arith, nat_tests) in
    rw no refl

-- a lead of two bytes or more
printed-begun : (l : ℕ) → 0xBF < l → (char_len l == 1) ≡ false → (char_len l == 0) ≡ false
    → (rest : List ℕ) (c : ℕ) → ((n : ℕ) → (events_from n (InText (l ∷ [])) rest ≡ Print c ∷ [])
    × (after_bytes (InText (l ∷ [])) rest ≡ InText [])) → Printed c (l ∷ rest)
printed-begun l high one none rest c more n [] = rw (lead-esc l high, one, none) (more n)
printed-begun l high one none rest c more n (a ∷ t) =
    rw (lead-esc l high, off-high a t l high, one, none) (
      ap (λ (es : List Event). Print 0xFFFD ∷ es) (more n).0,
      (more n).1,
    )

printed-two : (l d : ℕ) → is_in_range 0xC2 0xDF l ≡ true → is_in_range 0x80 0xBF d ≡ true
    → nat_lt 0x9F (joined (first_bits l) (d ∷ [])) ≡ true → Printed (joined (first_bits l) (d ∷ [])) (l ∷ d ∷ [])
printed-two l d hl hd high =
    let on : is_in_range (second_min l) (second_max l) d ≡ true = grind (arith, nat_tests) in
    let two : (2 == char_len l) ≡ true = grind (arith, nat_tests) in
    printed-begun l (grind (arith, nat_tests)) (grind (arith, nat_tests)) (grind (arith, nat_tests)) (d ∷ []) _
    (λ n. rw (tail-esc d hd, on, two, high-event (joined (first_bits l) (d ∷ [])) high) (refl, refl))

printed-three : (d e : ℕ) → is_in_range 0x80 0xBF d ≡ true → is_in_range 0x80 0xBF e ≡ true
    → nat_lt 0x9F (joined 2 (d ∷ e ∷ [])) ≡ true → Printed (joined 2 (d ∷ e ∷ [])) (0xE2 ∷ d ∷ e ∷ [])
printed-three d e hd he high =
    printed-begun 0xE2 (omega arith) refl refl (d ∷ e ∷ []) _
    (λ n. rw (tail-esc d hd, hd, tail-esc e he, he, high-event (joined 2 (d ∷ e ∷ [])) high) (refl, refl))

-- the table

abbrev is_good : ℕ → List ℕ → Bool
is_good c [] = false
is_good c (l ∷ []) = l == c && is_in_range 0x20 0x7F l
is_good c (l ∷ d ∷ []) = is_in_range 0xC2 0xDF l && (is_in_range 0x80 0xBF d
    && (joined (first_bits l) (d ∷ []) == c && nat_lt 0x9F (joined (first_bits l) (d ∷ []))))
is_good c (l ∷ d ∷ e ∷ []) = l == 0xE2 && (is_in_range 0x80 0xBF d && (is_in_range 0x80 0xBF e
    && (joined 2 (d ∷ e ∷ []) == c && nat_lt 0x9F (joined 2 (d ∷ e ∷ [])))))
is_good c (l ∷ d ∷ e ∷ f ∷ bs) = false

and-true : (x y : Bool) → (x && y) ≡ true → (x ≡ true) × (y ≡ true)
and-true true y h = (refl, h)
and-true false y h = absurd (let no : false ≡ true = h in cc)

same : (x y : ℕ) → (x == y) ≡ true → x ≡ y
same x y h = grind (arith, nat_tests)

good-printed : (c : ℕ) (bytes : List ℕ) → is_good c bytes ≡ true → Printed c bytes
good-printed c [] h = absurd (let no : false ≡ true = h in cc)
good-printed c (l ∷ []) h =
    let p = and-true (l == c) _ h in
    subst (λ (x : ℕ). Printed x (l ∷ [])) (same l c p.0) (printed-one l p.1)
good-printed c (l ∷ d ∷ []) h =
    let p = and-true (is_in_range 0xC2 0xDF l) _ h in
    let q = and-true (is_in_range 0x80 0xBF d) _ p.1 in
    let r = and-true (joined (first_bits l) (d ∷ []) == c) _ q.1 in
    subst (λ (x : ℕ). Printed x (l ∷ d ∷ [])) (same _ c r.0) (printed-two l d p.0 q.0 r.1)
good-printed c (l ∷ d ∷ e ∷ []) h =
    let p = and-true (l == 0xE2) _ h in
    let q = and-true (is_in_range 0x80 0xBF d) _ p.1 in
    let r = and-true (is_in_range 0x80 0xBF e) _ q.1 in
    let s = and-true (joined 2 (d ∷ e ∷ []) == c) _ r.1 in
    subst (λ (y : ℕ). Printed c (y ∷ d ∷ e ∷ [])) (sym (same l 0xE2 p.0))
    (subst (λ (x : ℕ). Printed x (0xE2 ∷ d ∷ e ∷ [])) (same _ c s.0) (printed-three d e q.0 r.0 s.1))
good-printed c (l ∷ d ∷ e ∷ f ∷ bs) h = absurd (let no : false ≡ true = h in cc)

abbrev all_good : List (ℕ × ℕ) → Bool
all_good [] = true
all_good (row ∷ rows) = is_good row.1 (encode_utf8 row.1) && all_good rows

drawings-good : all_good drawings ≡ true
unfolding encode_utf8
drawings-good = refl

-- what a table draws, or the character itself
looked-up : (key : ℕ) (rows : List (ℕ × ℕ)) → all_good rows ≡ true → Printed key (encode_utf8 key)
    → Printed (unwrap_or (lookup key rows) key) (encode_utf8 (unwrap_or (lookup key rows) key))
looked-up key [] h own = own
looked-up key (row ∷ rows) h own =
    let p = and-true (is_good row.1 (encode_utf8 row.1)) (all_good rows) h in
    elim (bool_cases (nat_eq key row.0)) [
      | inl e ↦ rw e (good-printed row.1 (encode_utf8 row.1) p.0)
      | inr e ↦ rw e (looked-up key rows p.1 own)
    ]

own-printed : (c : ℕ) → is_drawable c ≡ true → Printed c (encode_utf8 c)
own-printed c h =
    let is : encode_utf8 c ≡ c ∷ [] = encode_ascii c (grind (arith, nat_tests)) in
    subst (λ (bytes : List ℕ). Printed c bytes) (sym is) (printed-one c (drawable-printed c h))

pub printed-mapped : (x : StandardCharset) (c : ℕ) → is_drawable c ≡ true
    → Printed (mapped x c) (encode_utf8 (mapped x c))
printed-mapped Ascii c h = own-printed c h
printed-mapped SpecialCharacterAndLineDrawing c h = looked-up c drawings drawings-good (own-printed c h)

-- outside of the table a character is itself

abbrev keys_drawable : List (ℕ × ℕ) → Bool
keys_drawable [] = true
keys_drawable (row ∷ rows) = is_drawable row.0 && keys_drawable rows

not-key : (key c : ℕ) → is_drawable key ≡ true → is_drawable c ≡ false → nat_eq c key ≡ false
not-key key c h k = grind (arith, nat_tests)

not-found : (c : ℕ) (rows : List (ℕ × ℕ)) → keys_drawable rows ≡ true → is_drawable c ≡ false
    → unwrap_or (lookup c rows) c ≡ c
not-found c [] h k = refl
not-found c (row ∷ rows) h k =
    let p = and-true (is_drawable row.0) (keys_drawable rows) h in
    rw (not-key row.0 c p.0 k) (not-found c rows p.1 k)

pub mapped-same : (x : StandardCharset) (c : ℕ) → is_drawable c ≡ false → mapped x c ≡ c
mapped-same Ascii c h = refl
mapped-same SpecialCharacterAndLineDrawing c h = not-found c drawings refl h
