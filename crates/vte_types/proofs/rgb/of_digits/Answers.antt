use Rattle.std.proofs.Common.{◌≡◌, ◌∙◌, ◌≤◌, ℕ, Bool, true, false, ◌&&◌, ◌==◌, List, Some, None, length, take, drop}
use Rattle.std.proofs.Common.{refl, sym, ap, arith, inl, inr}
use Rattle.std.proofs.lemmas.Bool.{cases_Bool}
use Rattle.std.proofs.lemmas.Bool.Decides.{nat_tests}
use Rattle.std.proofs.lemmas.List.{take_all, take-append-drop, length-take, drop-drop}
use Rattle.std.proofs.lemmas.List.Folds.{list_all-append}
use Rattle.std.proofs.Common.{length-drop}
use Rattle.std.specs.Char.{is_digit}
use Rattle.vte_types.specs.Hex.{are_hex, hex_value, hex_number}
use Rattle.vte_types.specs.Rgb.{six_digits}
use Rattle.vte_types.proofs.rgb.of_digits.Goals as goal

short : (ds : List ℕ) → length (take 2 ds) ≤ 4
short ds = omega (arith, length-take 2 ds)

halves : (n : ℕ) (ds : List ℕ) → are_hex ds ≡ (are_hex (take n ds) && are_hex (drop n ds))
halves n ds = ap are_hex (sym (take-append-drop n ds))
    ∙ list_all-append (λ d. is_digit d 16) (take n ds) (drop n ds)

-- six bytes are hexadecimal digits if each two are
by_twos : (ds : List ℕ) → length ds ≡ 6
    → are_hex ds ≡ (are_hex (take 2 ds) && (are_hex (take 2 (drop 2 ds)) && are_hex (take 2 (drop 4 ds))))
by_twos ds six =
    let last : take 2 (drop 4 ds) ≡ drop 4 ds = take_all 2 (drop 4 ds) (omega (arith, length-drop 4 ds)) in
    let rest : are_hex (drop 2 ds) ≡ (are_hex (take 2 (drop 2 ds)) && are_hex (drop 4 ds)) =
    halves 2 (drop 2 ds) ∙ ap (λ (xs : List ℕ). are_hex (take 2 (drop 2 ds)) && are_hex xs) (drop-drop 2 2 ds) in
    halves 2 ds ∙ ap (λ (v : Bool). are_hex (take 2 ds) && v)
    (rest ∙ ap (λ (xs : List ℕ). are_hex (take 2 (drop 2 ds)) && are_hex xs) (sym last))

read : (ds : List ℕ) (n : ℕ) → Some n ≡ hex_number ds → (are_hex ds ≡ true) × (n ≡ hex_value ds)
read ds n h = elim (cases_Bool (are_hex ds)) [
  | inl e ↦ let g = rw e at h in (e, cc)
  | inr e ↦ let g = rw e at h in absurd (cc)
]

unread : (ds : List ℕ) → None ≡ hex_number ds → are_hex ds ≡ false
unread ds h = elim (cases_Bool (are_hex ds)) [ inl e ↦ let g = rw e at h in absurd (cc) | inr e ↦ e ]

none_of : (ds : List ℕ) → length ds ≡ 6 → are_hex ds ≡ false → six_digits ds ≡ None
none_of ds six e = rw (six, e) refl

pub returns : goal.returns
returns c =
    let ds = c.args.digits.now in
    let six = c.if-digits-ne6.false in
    let r = read (take 2 ds) _ (c.in_ok-number.ensures.value (short ds)) in
    let g = read (take 2 (drop 2 ds)) _ (c.in_ok-number-2.ensures.value (short (drop 2 ds))) in
    let b = read (take 2 (drop 4 ds)) _ (c.in_ok-number-3.ensures.value (short (drop 4 ds))) in
    let all : are_hex ds ≡ true = by_twos ds six ∙ rw (r.0, g.0, b.0) refl in
    rw (six, all, r.1, g.1, b.1) refl

pub returns-in_err-number : goal.returns-in_err-number
returns-in_err-number c =
    let ds = c.args.digits.now in
    let six = c.if-digits-ne6.false in
    let r = unread (take 2 ds) (c.in_err-number.ensures.value (short ds)) in
    c.from_residual.ensures ∙ sym (none_of ds six (by_twos ds six ∙ rw r refl))

pub returns-in_err-number-2 : goal.returns-in_err-number-2
returns-in_err-number-2 c =
    let ds = c.args.digits.now in
    let six = c.if-digits-ne6.false in
    let r = read (take 2 ds) _ (c.in_ok-number.ensures.value (short ds)) in
    let g = unread (take 2 (drop 2 ds)) (c.in_err-number-2.ensures.value (short (drop 2 ds))) in
    c.from_residual-in_err-number-2.ensures ∙ sym (none_of ds six (by_twos ds six ∙ rw (r.0, g) refl))

pub returns-in_err-number-3 : goal.returns-in_err-number-3
returns-in_err-number-3 c =
    let ds = c.args.digits.now in
    let six = c.if-digits-ne6.false in
    let r = read (take 2 ds) _ (c.in_ok-number.ensures.value (short ds)) in
    let g = read (take 2 (drop 2 ds)) _ (c.in_ok-number-2.ensures.value (short (drop 2 ds))) in
    let b = unread (take 2 (drop 4 ds)) (c.in_err-number-3.ensures.value (short (drop 4 ds))) in
    c.from_residual-in_err-number-3.ensures ∙ sym (none_of ds six (by_twos ds six ∙ rw (r.0, g.0, b) refl))

pub returns-then-digits-ne6 : goal.returns-then-digits-ne6
returns-then-digits-ne6 c =
    let other : (length c.args.digits.now == 6) ≡ false = grind (arith, nat_tests) in
    rw other refl
