-- A text with one more character.
use Rattle.std.proofs.Common.{◌≡◌, ℕ, zero, suc, ◌+◌, ◌-◌, ◌<◌, ◌≤◌, true, ◌&&◌, List, [], ◌∷◌, ◌++◌, length, take}
use Rattle.std.proofs.Common.{take_all, drop, set, replicate, sym, refl, ap, ◌∙◌, arith, length-append, length-take}
use Rattle.std.proofs.Common.{length-drop, nat_eq, nat_lt, rules, append-nil, ◌/◌, ◌%◌}
use Rattle.std.specs.Prelude.{encode_utf8_all, chars, IsUtf8, slice_index}
use Rattle.std.specs.Char.{IsScalar, encode_utf8}
use Rattle.std.specs.Str.{IsAscii}
use Rattle.std.proofs.lemmas.Bool.{ltb-true, and_parts, eqb-true, eq-eqb}
use Rattle.std.proofs.Math.Bool.{and-true, and_assoc}
use Rattle.std.proofs.lemmas.Cmp.{nat_list_eq_equiv}
use Rattle.std.specs.Cmp.{both_ways}
use Rattle.vt100_cells.specs.CellEq.{text_eq-true}
use Rattle.std.proofs.lemmas.Bool.Decides.{nat_tests}
use Rattle.std.proofs.lemmas.List.{drop-drop, drop-replicate, take-take}
use Rattle.std.proofs.lemmas.Str.{IsUtf8-had, chars-append, IsUtf8-append, chars-encodes, length-encode}
use Rattle.std.proofs.lemmas.Str.{len_utf8_bounds, IsUtf8-from_ascii, chars-IsAscii, encode_ascii, IsUtf8-encode}
use Rattle.std.proofs.lemmas.Slice.{take-put_mid, drop-put_mid}
use borrow.Rule.Slice.PartMut.{put_mid}
use Rattle.vt100_cells.specs.declared.cell_text.CellText.TheInside.{Inside}
use Rattle.vt100_cells.specs.Cell.{has_room, text_eq}
use Rattle.vt100_cells.specs.CellFields.{IsText, text_of, length-text_of, fields_of, fields_of-text_of, padded}
use Rattle.vt100_cells.specs.CellFields.{start_eq, fits_start}

pub len-text_of : (t : Inside) (cs : List ℕ) → IsText t → text_of t ≡ cs → t.len ≡ length (encode_utf8_all cs)
len-text_of t cs h e = sym (length-text_of t h) ∙ ap (λ x. length (encode_utf8_all x)) e

pub encodes-empty : (cs : List ℕ) → nat_eq (length (encode_utf8_all cs)) 0 ≡ nat_eq (length cs) 0
encodes-empty [] = refl
encodes-empty (c ∷ cs) =
    let k : 1 ≤ length (encode_utf8_all (c ∷ cs)) =
    omega (arith, length-append (encode_utf8 c) (encode_utf8_all cs), length-encode c, (len_utf8_bounds c).0) in
    grind (arith, nat_tests)

-- what the fields are once n bytes are put after the text
IsText-pushed : (t : Inside) (k : ℕ) (ys : List ℕ) → IsText t → IsUtf8 ys → length ys ≡ k → t.len + k ≤ 21
    → IsText (record { bytes = put_mid t.len k t.bytes ys; len = t.len + k })
IsText-pushed t k ys h u e f = record {
  fits = f;
  whole = simp (length-append, length-take, length-drop) (omega (arith, h.fits, h.whole));
  utf8 = rw (take-put_mid t.len k t.bytes ys (t.len + k) (omega arith) (omega (arith, h.fits, h.whole)))
      (∣ IsUtf8-append (take t.len t.bytes) ys (IsUtf8-had (take t.len t.bytes) h.utf8) u ∣₁);
  zeros = drop-put_mid t.len k t.bytes ys (t.len + k) (omega arith) (omega (arith, h.fits, h.whole)) e
      ∙ sym (drop-drop k t.len t.bytes) ∙ ap (drop k) h.zeros ∙ drop-replicate k (21 - t.len) 0
      ∙ ap (λ n. replicate n 0) (omega arith);
}

text_of-pushed : (t : Inside) (k : ℕ) (ys : List ℕ) → IsText t → length ys ≡ k → t.len + k ≤ 21
    → text_of (record { bytes = put_mid t.len k t.bytes ys; len = t.len + k }) ≡ text_of t ++ chars ys
text_of-pushed t k ys h e f =
    ap chars (take-put_mid t.len k t.bytes ys (t.len + k) (omega arith) (omega (arith, h.fits, h.whole)))
    ∙ chars-append (take t.len t.bytes) ys (IsUtf8-had (take t.len t.bytes) h.utf8)

pub chars-encode : (c : ℕ) → IsScalar c → chars (encode_utf8 c) ≡ c ∷ []
chars-encode c h = ap chars (sym (append-nil (encode_utf8 c))) ∙ chars-encodes (c ∷ []) (search (rules, h))

-- the fields are those of a text
abbrev pub IsTextOf : Inside → List ℕ → Type 0
IsTextOf t cs = IsText t × (text_of t ≡ cs)

-- the same where the numbers and the bytes are those of the code
pub text-push : (t : Inside) (cs : List ℕ) (m k : ℕ) (ys : List ℕ) (c : ℕ) → IsText t → text_of t ≡ cs
    → has_room cs ≡ true → ys ≡ encode_utf8 c → m ≡ length (encode_utf8 c) → k ≡ m → IsScalar c
    → IsTextOf (record { bytes = put_mid t.len k t.bytes ys; len = t.len + m }) (cs ++ c ∷ [])
text-push t cs m k ys c h v l e em ek s =
    let n = len-text_of t cs h v in
    let b = (len_utf8_bounds c).1 in
    let room : length (encode_utf8_all cs) < 18 = ltb-true (length (encode_utf8_all cs)) 18 l in
    let j = length (encode_utf8 c) in
    let fits : t.len + j ≤ 21 = omega (arith, length-encode c) in
    rw (ek, em, e) (
      IsText-pushed t j (encode_utf8 c) h (IsUtf8-encode c s) refl fits,
      text_of-pushed t j (encode_utf8 c) h refl fits ∙ ap (λ x. x ++ chars (encode_utf8 c)) v
          ∙ ap (λ x. cs ++ x) (chars-encode c s),
    )

-- ---- one ASCII character

pub IsAscii-one : (c : ℕ) → c < 128 → IsAscii (c ∷ [])
IsAscii-one c h zero = h
IsAscii-one c h (suc i) = omega arith

pub IsText-ascii : (c : ℕ) → c < 128 → IsText (record { bytes = c ∷ replicate 20 0; len = 1 })
IsText-ascii c h = record {
  fits = omega arith;
  whole = refl;
  utf8 = ∣ IsUtf8-from_ascii (c ∷ []) (IsAscii-one c h) ∣₁;
  zeros = refl;
}

pub text_of-ascii : (c : ℕ) → c < 128 → text_of (record { bytes = c ∷ replicate 20 0; len = 1 }) ≡ c ∷ []
text_of-ascii c h = chars-IsAscii (c ∷ []) (IsAscii-one c h)

-- the fields of a text whose bytes are known
pub known-fields : (t : Inside) (cs bs : List ℕ) → IsText t → text_of t ≡ cs → encode_utf8_all cs ≡ bs
    → t ≡ record { bytes = bs ++ replicate (21 - length bs) 0; len = length bs }
known-fields t cs bs h e known = sym (fields_of-text_of t h) ∙ ap fields_of e
    ∙ ap (λ xs. record { bytes = xs ++ replicate (21 - length xs) 0; len = length xs }) known

-- the character of a space's text is replaced
pub text-replaced : (t : Inside) (c : ℕ) → IsText t → text_of t ≡ 32 ∷ [] → c < 128
    → IsTextOf (record { bytes = set t.bytes 0 c; len = t.len }) (c ∷ [])
text-replaced t c h e l =
    rw (known-fields t (32 ∷ []) (32 ∷ []) h e (ap (λ bs. bs ++ []) (encode_ascii 32 (omega arith))))
    (IsText-ascii c l, text_of-ascii c l)

-- ---- one character of three bytes

pub encode-three : (c : ℕ) → 0x800 ≤ c → c < 0x1_0000
    → encode_utf8 c ≡ (224 + c / 4096) ∷ (128 + c / 64 % 64) ∷ (128 + c % 64) ∷ []
unfolding encode_utf8
encode-three c l h = grind (arith, nat_tests)

pub IsText-none : IsText (record { bytes = replicate 21 0; len = 0 })
IsText-none = record {
  fits = omega arith;
  whole = refl;
  utf8 = ∣ IsUtf8-from_ascii [] (λ i. omega arith) ∣₁;
  zeros = refl;
}

pub text_of-none : text_of (record { bytes = replicate 21 0; len = 0 }) ≡ []
text_of-none = chars-encodes [] refl

pub text-three : (c : ℕ) → IsScalar c → 0x800 ≤ c → c < 0x1_0000
    → IsTextOf (record {
      bytes = (224 + c / 4096) ∷ (128 + c / 64 % 64) ∷ (128 + c % 64) ∷ replicate 18 0;
      len = 3;
    }) (c ∷ [])
text-three c s l h =
    let e = encode-three c l h in
    text-push (record { bytes = replicate 21 0; len = 0 }) [] 3 3
    ((224 + c / 4096) ∷ (128 + c / 64 % 64) ∷ (128 + c % 64) ∷ []) c IsText-none text_of-none refl (sym e)
    (sym (ap length e)) refl s

-- an ideographic space is replaced
pub text-wide : (t : Inside) (c : ℕ) → IsText t → text_of t ≡ 0x3000 ∷ [] → IsScalar c → 0x800 ≤ c → c < 0x1_0000
    → IsTextOf (record {
      bytes = set (set (set t.bytes 0 (224 + c / 4096)) 1 (128 + c / 64 % 64)) 2 (128 + c % 64);
      len = t.len;
    }) (c ∷ [])
text-wide t c h e s l u =
    rw (known-fields t (0x3000 ∷ []) (227 ∷ 128 ∷ 128 ∷ []) h e
    (ap (λ bs. bs ++ []) (encode-three 0x3000 (omega arith) (omega arith)))) (text-three c s l u)

-- texts are the same where their fields are
pub same-fields : (t u : Inside) → IsText t → IsText u
    → (nat_eq t.len u.len && text_eq t.bytes u.bytes) ≡ text_eq (text_of t) (text_of u)
same-fields t u ht hu = both_ways (nat_eq t.len u.len && text_eq t.bytes u.bytes) (text_eq (text_of t) (text_of u))
    (λ h. let p = and_parts (nat_eq t.len u.len) (text_eq t.bytes u.bytes) h in
    let n = eqb-true t.len u.len p.0 in
    let bs = text_eq-true t.bytes u.bytes p.1 in
    let e : text_of t ≡ text_of u = λ i. text_of (record { bytes = bs i; len = n i }) in
    ap (text_eq (text_of t)) (sym e) ∙ nat_list_eq_equiv.refl (text_of t))
    (λ h. let e : t ≡ u = sym (fields_of-text_of t ht) ∙ ap fields_of (text_eq-true (text_of t) (text_of u) h)
    ∙ fields_of-text_of u hu in
    ap (λ (w : Inside). nat_eq t.len w.len && text_eq t.bytes w.bytes) (sym e)
    ∙ rw (eq-eqb t.len t.len refl) (nat_list_eq_equiv.refl t.bytes))

-- ---- starts and rests

pub fits-fields : (t : Inside) (cs : List ℕ) → IsText t → text_of t ≡ cs → nat_lt t.len 6 ≡ fits_start cs
fits-fields t cs h e = ap (λ n. nat_lt n 6) (sym (length-text_of t h)) ∙ ap fits_start e

module _ (t u : Inside) (cs ds : List ℕ) (ht : IsText t) (hu : IsText u) (et : text_of t ≡ cs) (eu : text_of u ≡ ds)
  where
    pub start-fields : (nat_eq t.len u.len && text_eq (take 5 t.bytes) (take 5 u.bytes)) ≡ start_eq cs ds
    start-fields =
        let m = length-text_of t ht in
        let n = length-text_of u hu in
        let p = fields_of-text_of t ht in
        let q = fields_of-text_of u hu in
        (λ i. nat_eq (sym m i) (sym n i) && text_eq (take 5 (sym p i).bytes) (take 5 (sym q i).bytes))
        ∙ (λ i. start_eq (et i) (eu i))

    -- short texts with the same start are the same
    pub fits-same : fits_start cs ≡ true → start_eq cs ds ≡ true → cs ≡ ds
    fits-same short h =
        let p = and_parts (nat_eq t.len u.len) (text_eq (take 5 t.bytes) (take 5 u.bytes)) (start-fields ∙ h) in
        let n = eqb-true t.len u.len p.0 in
        let bs = text_eq-true (take 5 t.bytes) (take 5 u.bytes) p.1 in
        let le : t.len ≤ 5 = omega (arith, ltb-true t.len 6 (fits-fields t cs ht et ∙ short)) in
        sym et
        ∙ ap chars (sym (take-take t.len 5 t.bytes le) ∙ ap (take t.len) bs ∙ take-take t.len 5 u.bytes le
        ∙ ap (λ k. take k u.bytes) n) ∙ eu

    -- where the starts are the same, texts are the same where all bytes are
    pub rest-same : start_eq cs ds ≡ true → text_eq t.bytes u.bytes ≡ text_eq cs ds
    rest-same h =
        let p = and_parts (nat_eq t.len u.len) (text_eq (take 5 t.bytes) (take 5 u.bytes)) (start-fields ∙ h) in
        ap (λ b. b && text_eq t.bytes u.bytes) (sym p.0) ∙ same-fields t u ht hu ∙ (λ i. text_eq (et i) (eu i))

-- the same texts have the same start
pub start_eq-of_same : (x y : List ℕ) → text_eq x y ≡ true → start_eq x y ≡ true
start_eq-of_same x y h =
    let e = text_eq-true x y h in
    ap (start_eq x) (sym e) ∙ rw (eq-eqb (length (encode_utf8_all x)) (length (encode_utf8_all x)) refl)
    (nat_list_eq_equiv.refl (take 5 (padded x)))

-- ---- texts that are compared byte by byte

text_eq-step : (xs ys : List ℕ) (i : ℕ) → i < length xs → i < length ys
    → text_eq (take (suc i) xs) (take (suc i) ys) ≡ (text_eq (take i xs) (take i ys)
    && nat_eq (slice_index xs i) (slice_index ys i))
text_eq-step [] ys i h k = absurd (omega (arith, h))
text_eq-step (x ∷ xs) [] i h k = absurd (omega (arith, k))
text_eq-step (x ∷ xs) (y ∷ ys) zero h k = and-true (nat_eq x y)
text_eq-step (x ∷ xs) (y ∷ ys) (suc i) h k =
    ap (λ b. nat_eq x y && b) (text_eq-step xs ys i (omega (arith, h)) (omega (arith, k)))
    ∙ sym (and_assoc (nat_eq x y) (text_eq (take i xs) (take i ys)) (nat_eq (slice_index xs i) (slice_index ys i)))

-- one byte more
pub text_eq-next : (xs ys : List ℕ) (i : ℕ) → i < length xs → i < length ys
    → (text_eq (take i xs) (take i ys) && nat_eq (slice_index xs i) (slice_index ys i))
    ≡ text_eq (take (i + 1) xs) (take (i + 1) ys)
text_eq-next xs ys i h k =
    let next : suc i ≡ i + 1 = omega arith in
    sym (text_eq-step xs ys i h k) ∙ ap (λ n. text_eq (take n xs) (take n ys)) next

pub text_eq-all : (xs ys : List ℕ) (n : ℕ) → length xs ≡ n → length ys ≡ n
    → text_eq (take n xs) (take n ys) ≡ text_eq xs ys
text_eq-all xs ys n h k = λ i. text_eq (take_all n xs (omega (arith, h)) i) (take_all n ys (omega (arith, k)) i)
