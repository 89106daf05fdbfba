-- A character of at most three bytes, at the start of a text and in a cell's.
use Rattle.std.proofs.Common.{◌≡◌, ℕ, ◌+◌, ◌-◌, ◌*◌, ◌/◌, ◌%◌, ◌<◌, ◌≤◌, true, List, [], ◌∷◌, ◌++◌, length, take, drop}
use Rattle.std.proofs.Common.{set, replicate, slice_index, take_all, length-drop, refl, sym, ap, subst, ◌∙◌, arith, inl}
use Rattle.std.proofs.Common.{inr}
use Rattle.std.specs.Prelude.{encode_utf8_all}
use Rattle.std.specs.Char.{IsScalar, encode_utf8}
use Rattle.std.specs.Str.{IsUtf8, chars, all_scalars}
use Rattle.std.proofs.lemmas.Bool.{and_parts, cases_lt}
use Rattle.std.proofs.lemmas.Bool.Decides.{nat_tests}
use Rattle.std.proofs.lemmas.List.{drop-drop, drop-replicate, take-append-le}
use Rattle.std.proofs.lemmas.Str.{chars_past_char, IsUtf8-past_char, IsUtf8-had, encode_ascii}
use Rattle.ucd_table.specs.Rows.{in_ranges}
use Rattle.vt100_cells.specs.declared.cell_text.CellText.TheInside.{Inside as TextInside}
use Rattle.vt100_cells.specs.declared.char3.Char3.TheInside.{Inside}
use Rattle.printable.specs.Printable.{IsPrintable}
use Rattle.vt100_cells.specs.Cell.{IsWide}
use Rattle.vt100_cells.specs.Narrow.{IsNarrow}
use Rattle.vt100_cells.specs.CellFields.{IsText, text_of}
use Rattle.vt100_cells.specs.Char3Fields.{as_text, char_of, IsChar3, first_char, BeginsPrintable, BeginsTwoBytes}
use Rattle.vt100_cells.specs.Char3Fields.{BeginsThreeBytes}
use Rattle.vt100_cells.proofs.CellTextLemmas.{IsTextOf, len-text_of, encode-three, text-three, IsText-ascii}
use Rattle.vt100_cells.proofs.CellTextLemmas.{text_of-ascii}
use Rattle.vt100_cells.proofs.NarrowLemmas.{encode-two, text-two}
use Rattle.vt100_cells.proofs.WideScripts.{drawn-wide}
use Rattle.vt100_cells.proofs.NarrowScripts.{drawn-narrow}

-- ---- the first character of a text

record First (bs : List ℕ) : Type 0 where
  c : ℕ
  rest : List ℕ
  scalar : IsScalar c
  is : bs ≡ encode_utf8 c ++ rest
  characters : chars bs ≡ c ∷ chars rest
  utf8 : IsUtf8 rest

first-of : (bs : List ℕ) → IsUtf8 bs → 0 < slice_index bs 0 → First bs
first-of bs u some = by u.0 u.1.0 u.1.1
  where
    by : (cs : List ℕ) → all_scalars cs ≡ true → encode_utf8_all cs ≡ bs → First bs
    by [] s e = let none = ap (λ (l : List ℕ). slice_index l 0) e in absurd (omega (arith, none))
    by (d ∷ ds) s e = record {
      c = d;
      rest = encode_utf8_all ds;
      scalar = (and_parts _ (all_scalars ds) s).0;
      is = sym e;
      characters = chars_past_char bs (encode_utf8_all ds) d u (sym e);
      utf8 = IsUtf8-past_char bs (encode_utf8_all ds) d u (sym e);
    }

encode-four : (c : ℕ) → 0x1_0000 ≤ c → encode_utf8 c
    ≡ (240 + c / 262144) ∷ (128 + c / 4096 % 64) ∷ (128 + c / 64 % 64) ∷ (128 + c % 64) ∷ []
unfolding encode_utf8
encode-four c l = grind (arith, nat_tests)

-- the first byte, where the bytes of the character are these
first-byte : (bs : List ℕ) (f : First bs) (b : ℕ) (ys : List ℕ) → encode_utf8 f.c ≡ b ∷ ys → slice_index bs 0 ≡ b
first-byte bs f b ys e = ap (λ (l : List ℕ). slice_index l 0) f.is ∙ ap (λ (l : List ℕ). slice_index (l ++ f.rest) 0) e

-- how many bytes the first character has, by its first byte
record IsSized (bs : List ℕ) (f : First bs) : Type 0 where
  one : slice_index bs 0 < 128 → f.c < 0x80
  two : 192 ≤ slice_index bs 0 → slice_index bs 0 < 224 → (0x80 ≤ f.c) × (f.c < 0x800)
  three : 224 ≤ slice_index bs 0 → slice_index bs 0 < 240 → (0x800 ≤ f.c) × (f.c < 0x1_0000)

sized : (bs : List ℕ) (f : First bs) → IsSized bs f
sized bs f = elim (cases_lt f.c 0x80) [
  | inl a ↦
      let e = first-byte bs f _ _ (encode_ascii f.c a) in record {
        one = λ _. a;
        two = λ l h. absurd (omega (arith, e));
        three = λ l h. absurd (omega (arith, e));
      }
  | inr a ↦ elim (cases_lt f.c 0x800) [
    | inl b ↦
        let e = first-byte bs f _ _ (encode-two f.c a b) in record {
          one = λ h. absurd (omega (arith, e));
          two = λ l h. (a, b);
          three = λ l h. absurd (omega (arith, e));
        }
    | inr b ↦ elim (cases_lt f.c 0x1_0000) [
      | inl d ↦
          let e = first-byte bs f _ _ (encode-three f.c b d) in record {
            one = λ h. absurd (omega (arith, e));
            two = λ l h. absurd (omega (arith, e));
            three = λ l h. (b, d);
          }
      | inr d ↦
          let e = first-byte bs f _ _ (encode-four f.c d) in record {
            one = λ h. absurd (omega (arith, e));
            two = λ l h. absurd (omega (arith, e));
            three = λ l h. absurd (omega (arith, e));
          }
    ]
  ]
]

-- a text that begins with one byte, with two, or with three
pub record One (bs : List ℕ) : Type 0 where
  pub c : ℕ
  pub rest : List ℕ
  pub is : bs ≡ c ∷ rest
  pub scalar : IsScalar c
  pub below : c < 0x80
  pub characters : chars bs ≡ c ∷ chars rest
  pub utf8 : IsUtf8 rest

pub record Two (bs : List ℕ) : Type 0 where
  pub c : ℕ
  pub rest : List ℕ
  pub is : bs ≡ (192 + c / 64) ∷ (128 + c % 64) ∷ rest
  pub scalar : IsScalar c
  pub above : 0x80 ≤ c
  pub below : c < 0x800
  pub characters : chars bs ≡ c ∷ chars rest
  pub utf8 : IsUtf8 rest

pub record Three (bs : List ℕ) : Type 0 where
  pub c : ℕ
  pub rest : List ℕ
  pub is : bs ≡ (224 + c / 4096) ∷ (128 + c / 64 % 64) ∷ (128 + c % 64) ∷ rest
  pub scalar : IsScalar c
  pub above : 0x800 ≤ c
  pub below : c < 0x1_0000
  pub characters : chars bs ≡ c ∷ chars rest
  pub utf8 : IsUtf8 rest

pub one-of : (bs : List ℕ) → IsUtf8 bs → BeginsPrintable bs → One bs
one-of bs u h =
    let f = first-of bs u (omega (arith, h.1.0)) in
    let below = (sized bs f).one (omega (arith, h.1.1)) in
    record {
      c = f.c;
      rest = f.rest;
      is = f.is ∙ ap (λ (l : List ℕ). l ++ f.rest) (encode_ascii f.c below);
      scalar = f.scalar;
      below = below;
      characters = f.characters;
      utf8 = f.utf8;
    }

pub two-of : (bs : List ℕ) → IsUtf8 bs → BeginsTwoBytes bs → Two bs
two-of bs u h =
    let f = first-of bs u (omega (arith, h.1)) in
    let within = (sized bs f).two h.1 h.2 in
    record {
      c = f.c;
      rest = f.rest;
      is = f.is ∙ ap (λ (l : List ℕ). l ++ f.rest) (encode-two f.c within.0 within.1);
      scalar = f.scalar;
      above = within.0;
      below = within.1;
      characters = f.characters;
      utf8 = f.utf8;
    }

pub three-of : (bs : List ℕ) → IsUtf8 bs → BeginsThreeBytes bs → Three bs
three-of bs u h =
    let f = first-of bs u (omega (arith, h.1)) in
    let within = (sized bs f).three h.1 h.2 in
    record {
      c = f.c;
      rest = f.rest;
      is = f.is ∙ ap (λ (l : List ℕ). l ++ f.rest) (encode-three f.c within.0 within.1);
      scalar = f.scalar;
      above = within.0;
      below = within.1;
      characters = f.characters;
      utf8 = f.utf8;
    }

-- a text that begins so has as many bytes
pub begins-two : (bs : List ℕ) → IsUtf8 bs → 192 ≤ slice_index bs 0 → slice_index bs 0 < 224 → BeginsTwoBytes bs
begins-two bs u l h =
    let f = first-of bs u (omega (arith, l)) in
    let within = (sized bs f).two l h in
    let n = ap length (f.is ∙ ap (λ (ys : List ℕ). ys ++ f.rest) (encode-two f.c within.0 within.1)) in
    (omega (arith, n), l, h)

pub begins-three : (bs : List ℕ) → IsUtf8 bs → 224 ≤ slice_index bs 0 → slice_index bs 0 < 240 → BeginsThreeBytes bs
begins-three bs u l h =
    let f = first-of bs u (omega (arith, l)) in
    let within = (sized bs f).three l h in
    let n = ap length (f.is ∙ ap (λ (ys : List ℕ). ys ++ f.rest) (encode-three f.c within.0 within.1)) in
    (omega (arith, n), l, h)

-- ---- its code

two-code : (bs : List ℕ) (t : Two bs) → slice_index bs 0 * 64 + slice_index bs 1 ≡ 0x3080 + first_char bs
two-code bs t =
    let e0 = ap (λ (l : List ℕ). slice_index l 0) t.is in
    let e1 = ap (λ (l : List ℕ). slice_index l 1) t.is in
    let e = ap (λ (l : List ℕ). slice_index l 0) t.characters in
    omega (arith, e0, e1, e)

three-code : (bs : List ℕ) (t : Three bs)
    → slice_index bs 0 * 4096 + slice_index bs 1 * 64 + slice_index bs 2 ≡ 0xE_2080 + first_char bs
three-code bs t =
    let e0 = ap (λ (l : List ℕ). slice_index l 0) t.is in
    let e1 = ap (λ (l : List ℕ). slice_index l 1) t.is in
    let e2 = ap (λ (l : List ℕ). slice_index l 2) t.is in
    let e = ap (λ (l : List ℕ). slice_index l 0) t.characters in
    omega (arith, e0, e1, e2, e)

pub code-two : (bs xs : List ℕ) → IsUtf8 bs → BeginsTwoBytes bs → xs ≡ bs
    → slice_index xs 0 * 64 + slice_index xs 1 ≡ 0x3080 + first_char bs
code-two bs xs u h e =
    ap (λ (l : List ℕ). slice_index l 0 * 64 + slice_index l 1) e ∙ two-code bs (two-of bs u h)

pub code-three : (bs xs : List ℕ) → IsUtf8 bs → BeginsThreeBytes bs → xs ≡ bs
    → slice_index xs 0 * 4096 + slice_index xs 1 * 64 + slice_index xs 2 ≡ 0xE_2080 + first_char bs
code-three bs xs u h e =
    ap (λ (l : List ℕ). slice_index l 0 * 4096 + slice_index l 1 * 64 + slice_index l 2) e
    ∙ three-code bs (three-of bs u h)

-- ---- its bytes, as the fields of a short character

pub char3-fields_of : (s : Inside) (c : ℕ) → s.len ≤ 3 → length s.bytes ≡ 3 → IsScalar c → IsTextOf (as_text s) (c ∷ [])
    → IsChar3 s × (char_of s ≡ c)
char3-fields_of s c few whole scalar t =
    let is : char_of s ≡ c = ap (λ (l : List ℕ). slice_index l 0) t.1 in (
      record {
        fits = few;
        whole = whole;
        text = t.0;
        one = t.1 ∙ ap (λ x. x ∷ []) (sym is);
        scalar = subst IsScalar (sym is) scalar;
      },
      is,
    )

-- the bytes of a text that begins so
abbrev pub one_byte : List ℕ → Inside
one_byte l = record { len = 1; bytes = slice_index l 0 ∷ 0 ∷ 0 ∷ [] }

abbrev pub two_bytes : List ℕ → Inside
two_bytes l = record { len = 2; bytes = slice_index l 0 ∷ slice_index l 1 ∷ 0 ∷ [] }

abbrev pub three_bytes : List ℕ → Inside
three_bytes l = record { len = 3; bytes = slice_index l 0 ∷ slice_index l 1 ∷ slice_index l 2 ∷ [] }

pub one-char3 : (bs : List ℕ) (t : One bs) → IsChar3 (one_byte bs) × (char_of (one_byte bs) ≡ t.c)
one-char3 bs t =
    subst (λ (l : List ℕ). IsChar3 (one_byte l) × (char_of (one_byte l) ≡ t.c)) (sym t.is)
    (char3-fields_of (one_byte (t.c ∷ t.rest)) t.c (omega arith) refl t.scalar
    (IsText-ascii t.c t.below, text_of-ascii t.c t.below))

pub two-char3 : (bs : List ℕ) (t : Two bs) → IsChar3 (two_bytes bs) × (char_of (two_bytes bs) ≡ t.c)
two-char3 bs t =
    subst (λ (l : List ℕ). IsChar3 (two_bytes l) × (char_of (two_bytes l) ≡ t.c)) (sym t.is)
    (char3-fields_of (two_bytes ((192 + t.c / 64) ∷ (128 + t.c % 64) ∷ t.rest)) t.c (omega arith) refl t.scalar
    (text-two t.c t.scalar t.above t.below))

pub three-char3 : (bs : List ℕ) (t : Three bs) → IsChar3 (three_bytes bs) × (char_of (three_bytes bs) ≡ t.c)
three-char3 bs t =
    subst (λ (l : List ℕ). IsChar3 (three_bytes l) × (char_of (three_bytes l) ≡ t.c)) (sym t.is)
    (char3-fields_of (three_bytes ((224 + t.c / 4096) ∷ (128 + t.c / 64 % 64) ∷ (128 + t.c % 64) ∷ t.rest)) t.c
    (omega arith) refl t.scalar (text-three t.c t.scalar t.above t.below))

-- what is made of the bytes xs of a text bs that begins so: a short character, and what follows it
pub record Split (bs xs : List ℕ) (n : ℕ) (s : Inside) : Type 0 where
  pub short : IsChar3 s
  pub utf8 : IsUtf8 (take (length xs - n) (drop n xs))
  pub parts : (ys : List ℕ) → ys ≡ take (length xs - n) (drop n xs) → chars bs ≡ char_of s ∷ chars ys

split-of : (bs rest : List ℕ) (n c : ℕ) (s : Inside) → IsChar3 s × (char_of s ≡ c) → drop n bs ≡ rest → IsUtf8 rest
    → chars bs ≡ c ∷ chars rest → Split bs bs n s
split-of bs rest n c s short e u parts =
    let whole : take (length bs - n) (drop n bs) ≡ rest =
    take_all (length bs - n) (drop n bs) (omega (arith, length-drop n bs)) ∙ e in
    record {
      short = short.0;
      utf8 = subst IsUtf8 (sym whole) u;
      parts = λ ys k. parts ∙ ap (λ x. x ∷ chars rest) (sym short.1)
          ∙ ap (λ (l : List ℕ). char_of s ∷ chars l) (sym (k ∙ whole));
    }

pub split-one : (bs xs : List ℕ) → IsUtf8 bs → BeginsPrintable bs → xs ≡ bs → Split bs xs 1 (one_byte xs)
split-one bs xs u h e =
    let t = one-of bs u h in
    subst (λ (l : List ℕ). Split bs l 1 (one_byte l)) (sym e)
    (split-of bs t.rest 1 t.c (one_byte bs) (one-char3 bs t) (ap (drop 1) t.is) t.utf8 t.characters)

pub split-two : (bs xs : List ℕ) → IsUtf8 bs → BeginsTwoBytes bs → xs ≡ bs → Split bs xs 2 (two_bytes xs)
split-two bs xs u h e =
    let t = two-of bs u h in
    subst (λ (l : List ℕ). Split bs l 2 (two_bytes l)) (sym e)
    (split-of bs t.rest 2 t.c (two_bytes bs) (two-char3 bs t) (ap (drop 2) t.is) t.utf8 t.characters)

pub split-three : (bs xs : List ℕ) → IsUtf8 bs → BeginsThreeBytes bs → xs ≡ bs → Split bs xs 3 (three_bytes xs)
split-three bs xs u h e =
    let t = three-of bs u h in
    subst (λ (l : List ℕ). Split bs l 3 (three_bytes l)) (sym e)
    (split-of bs t.rest 3 t.c (three_bytes bs) (three-char3 bs t) (ap (drop 3) t.is) t.utf8 t.characters)

-- a printable character of ASCII is itself
pub one-is : (bs xs : List ℕ) → IsUtf8 bs → BeginsPrintable bs → xs ≡ bs → IsPrintable (char_of (one_byte xs))
one-is bs xs u h e =
    let t = one-of bs u h in
    let is = (one-char3 bs t).1 in
    let first = ap (λ (l : List ℕ). slice_index l 0) t.is in
    subst (λ (l : List ℕ). IsPrintable (char_of (one_byte l))) (sym e)
    (subst IsPrintable (sym is) (omega (arith, first, h.1.0), omega (arith, first, h.1.1)))

-- ---- its columns

wide-ideograph : (c : ℕ) → 0x3250 ≤ c → c ≤ 0x9FFF → IsWide c
unfolding in_ranges
wide-ideograph c l h = sym (drawn-wide c (omega arith) (grind (arith, nat_tests)) (omega arith))

wide-hangul : (c : ℕ) → 0xAC00 ≤ c → c ≤ 0xD7A3 → IsWide c
unfolding in_ranges
wide-hangul c l h = sym (drawn-wide c (omega arith) (grind (arith, nat_tests)) (omega arith))

narrow-latin : (c : ℕ) → 0xC0 ≤ c → c ≤ 0x2FF → IsNarrow c
unfolding in_ranges
narrow-latin c l h = (
  grind (arith, nat_tests),
  sym (drawn-narrow c (omega arith) (grind (arith, nat_tests))
      (omega arith)),
)

narrow-cyrillic : (c : ℕ) → 0x380 ≤ c → c ≤ 0x47F → IsNarrow c
unfolding in_ranges
narrow-cyrillic c l h =
    (grind (arith, nat_tests), sym (drawn-narrow c (omega arith) (grind (arith, nat_tests)) (omega arith)))

narrow-box : (c : ℕ) → 0x2500 ≤ c → c ≤ 0x25BF → IsNarrow c
unfolding in_ranges
narrow-box c l h = (
  grind (arith, nat_tests),
  sym (drawn-narrow c (omega arith) (grind (arith, nat_tests))
      (omega arith)),
)

-- what the first bytes say of the character
pub record Told (P : ℕ → Type 0) (low c : ℕ) : Type 0 where
  pub columns : P c
  pub above : low ≤ c
  pub below : c < 0xFFFD

pub told-latin : (bs : List ℕ) → IsUtf8 bs → BeginsTwoBytes bs → 195 ≤ slice_index bs 0 → slice_index bs 0 ≤ 203
    → Told IsNarrow 0xA0 (first_char bs)
told-latin bs u b l h =
    let t = two-of bs u b in
    let e0 = ap (λ (ys : List ℕ). slice_index ys 0) t.is in
    let e = ap (λ (ys : List ℕ). slice_index ys 0) t.characters in
    let low : 0xC0 ≤ first_char bs = omega (arith, e0, e) in
    let high : first_char bs ≤ 0x2FF = omega (arith, e0, e) in
    record { columns = narrow-latin (first_char bs) low high; above = omega arith; below = omega arith }

pub told-cyrillic : (bs : List ℕ) → IsUtf8 bs → BeginsTwoBytes bs → 206 ≤ slice_index bs 0 → slice_index bs 0 ≤ 209
    → Told IsNarrow 0xA0 (first_char bs)
told-cyrillic bs u b l h =
    let t = two-of bs u b in
    let e0 = ap (λ (ys : List ℕ). slice_index ys 0) t.is in
    let e = ap (λ (ys : List ℕ). slice_index ys 0) t.characters in
    let low : 0x380 ≤ first_char bs = omega (arith, e0, e) in
    let high : first_char bs ≤ 0x47F = omega (arith, e0, e) in
    record { columns = narrow-cyrillic (first_char bs) low high; above = omega arith; below = omega arith }

pub told-box : (bs : List ℕ) → IsUtf8 bs → BeginsThreeBytes bs → slice_index bs 0 ≡ 226 → 148 ≤ slice_index bs 1
    → slice_index bs 1 ≤ 150 → Told IsNarrow 0xA0 (first_char bs)
told-box bs u b h l r =
    let t = three-of bs u b in
    let e0 = ap (λ (ys : List ℕ). slice_index ys 0) t.is in
    let e1 = ap (λ (ys : List ℕ). slice_index ys 1) t.is in
    let e = ap (λ (ys : List ℕ). slice_index ys 0) t.characters in
    let low : 0x2500 ≤ first_char bs = omega (arith, e0, e1, e) in
    let high : first_char bs ≤ 0x25BF = omega (arith, e0, e1, e) in
    record { columns = narrow-box (first_char bs) low high; above = omega arith; below = omega arith }

pub told-ideograph : (bs : List ℕ) → IsUtf8 bs → 228 ≤ slice_index bs 0 → slice_index bs 0 ≤ 233
    → Told IsWide 0x3000 (first_char bs)
told-ideograph bs u l h =
    let t = three-of bs u (begins-three bs u (omega arith) (omega arith)) in
    let e0 = ap (λ (ys : List ℕ). slice_index ys 0) t.is in
    let e = ap (λ (ys : List ℕ). slice_index ys 0) t.characters in
    let low : 0x3250 ≤ first_char bs = omega (arith, e0, e) in
    let high : first_char bs ≤ 0x9FFF = omega (arith, e0, e) in
    record { columns = wide-ideograph (first_char bs) low high; above = omega arith; below = omega arith }

pub told-hangul : (bs : List ℕ) → IsUtf8 bs → 235 ≤ slice_index bs 0 → slice_index bs 0 ≤ 236
    → Told IsWide 0x3000 (first_char bs)
told-hangul bs u l h =
    let t = three-of bs u (begins-three bs u (omega arith) (omega arith)) in
    let e0 = ap (λ (ys : List ℕ). slice_index ys 0) t.is in
    let e = ap (λ (ys : List ℕ). slice_index ys 0) t.characters in
    let low : 0xAC00 ≤ first_char bs = omega (arith, e0, e) in
    let high : first_char bs ≤ 0xD7A3 = omega (arith, e0, e) in
    record { columns = wide-hangul (first_char bs) low high; above = omega arith; below = omega arith }

-- ---- in a cell's text

three-set : (xs ys : List ℕ) → 3 ≤ length xs → length ys ≡ 3
    → set (set (set xs 0 (slice_index ys 0)) 1 (slice_index ys 1)) 2 (slice_index ys 2) ≡ ys ++ drop 3 xs
three-set (a ∷ b ∷ c ∷ xs) (x ∷ y ∷ z ∷ []) l n = refl
three-set (a ∷ b ∷ c ∷ xs) (x ∷ y ∷ z ∷ w ∷ ys) l n = absurd (omega (arith, n))
three-set (a ∷ b ∷ c ∷ xs) (x ∷ y ∷ []) l n = absurd (omega (arith, n))
three-set (a ∷ b ∷ c ∷ xs) (x ∷ []) l n = absurd (omega (arith, n))
three-set (a ∷ b ∷ c ∷ xs) [] l n = absurd (omega (arith, n))
three-set (a ∷ b ∷ []) ys l n = absurd (omega (arith, l))
three-set (a ∷ []) ys l n = absurd (omega (arith, l))
three-set [] ys l n = absurd (omega (arith, l))

-- the character of a short text is replaced
pub char3-replaced : (t : TextInside) (s : Inside) (cs : List ℕ) (ch : ℕ) → IsText t → text_of t ≡ cs
    → length (encode_utf8_all cs) ≤ 3 → IsChar3 s → char_of s ≡ ch
    → IsTextOf (record {
      bytes = set (set (set t.bytes 0 (slice_index s.bytes 0)) 1 (slice_index s.bytes 1)) 2 (slice_index s.bytes 2);
      len = s.len;
    }) (ch ∷ [])
char3-replaced t s cs ch h e few c ec =
    let n = len-text_of t cs h e in
    let three : 3 ≡ t.len + (3 - t.len) = omega (arith, n) in
    let left : 21 - t.len - (3 - t.len) ≡ 18 = omega (arith, n) in
    let zeros : drop 3 t.bytes ≡ replicate 18 0 =
    ap (λ k. drop k t.bytes) three ∙ sym (drop-drop (3 - t.len) t.len t.bytes) ∙ ap (drop (3 - t.len)) h.zeros
    ∙ drop-replicate (3 - t.len) (21 - t.len) 0 ∙ ap (λ k. replicate k 0) left in
    let is = three-set t.bytes s.bytes (omega (arith, h.whole)) c.whole ∙ ap (λ (l : List ℕ). s.bytes ++ l) zeros in
    subst (λ (l : List ℕ). IsTextOf (record { bytes = l; len = s.len }) (ch ∷ [])) (sym is)
    (c.text, c.one ∙ ap (λ x. x ∷ []) ec)

-- ---- as a text

pub char3-bytes : (s : Inside) → IsChar3 s → take s.len (s.bytes ++ replicate 18 0) ≡ take s.len s.bytes
char3-bytes s h = take-append-le s.len s.bytes (replicate 18 0) (omega (arith, h.fits, h.whole))

pub char3-utf8 : (s : Inside) → IsChar3 s → IsUtf8 (take s.len s.bytes)
char3-utf8 s h = subst IsUtf8 (char3-bytes s h) (IsUtf8-had _ h.text.utf8)

pub char3-chars : (s : Inside) → IsChar3 s → chars (take s.len s.bytes) ≡ char_of s ∷ []
char3-chars s h = ap chars (sym (char3-bytes s h)) ∙ h.one

-- its first character
pub char3-first : (s : Inside) (x : ℕ) (rest xs : List ℕ) → IsChar3 s → xs ≡ take s.len s.bytes
    → xs ≡ encode_utf8 x ++ rest → x ≡ char_of s
char3-first s x rest xs h e k =
    let u = subst IsUtf8 (sym e) (char3-utf8 s h) in
    sym (ap (λ (l : List ℕ). slice_index l 0)
    (sym (char3-chars s h) ∙ ap chars (sym e) ∙ chars_past_char xs rest x u k))

-- an ideographic space has three bytes
pub wide_space-len : length (encode_utf8_all (0x3000 ∷ [])) ≡ 3
wide_space-len = ap (λ (bs : List ℕ). length (bs ++ [])) (encode-three 0x3000 (omega arith) (omega arith))
