use Rattle.std.proofs.Common.{◌≡◌, ◌∙◌, sym, ap, ℕ, ◌+◌, ◌-◌, ◌*◌, ◌≤◌, Bool, true, false, ◌&&◌, nat_lt, ◌==◌, length}
use Rattle.std.proofs.Common.{if◌then◌else◌, Some, List, [], ◌∷◌, None, arith, refl, inl, inr}
use Rattle.std.specs.Char.{is_ascii_digit}
use Rattle.std.specs.Str.{all_ascii_digits}
use Rattle.std.proofs.lemmas.Bool.{cases_Bool, ltb-false, ltb-true, false_from_ne_true}
use Rattle.vte.specs.Osc.{byte_from, byte_number, decimal_from}
use Rattle.vte.proofs.color.parse_number.Goals as goal

-- more digits make a number no smaller
grows : (n : ℕ) (ds : List ℕ) → n ≤ decimal_from n ds
grows n [] = omega arith
grows n (d ∷ ds) = omega (arith, grows (n * 10 + (d - 48)) ds)

-- if one more digit is refused, so are all after it
refused : (n d : ℕ) (ds : List ℕ) → (is_ascii_digit d && nat_lt (n * 10 + (d - 48)) 256) ≡ false
    → byte_from n (d ∷ ds) ≡ None
refused n d ds h = elim (cases_Bool (is_ascii_digit d)) [
  | inl digit ↦
      let high : nat_lt (n * 10 + (d - 48)) 256 ≡ false = rw digit at h in
      let above : 256 ≤ n * 10 + (d - 48) = ltb-false _ _ high in
      let past : nat_lt (decimal_from (n * 10 + (d - 48)) ds) 256 ≡ false =
      false_from_ne_true _ (λ low. absurd
      (omega (arith, above, grows (n * 10 + (d - 48)) ds, ltb-true _ _ low))) in
      rw (digit, past) (elim (cases_Bool (all_ascii_digits ds)) [ inl all ↦ rw all refl | inr some ↦ rw some refl ])
  | inr other ↦ rw other refl
]

number_none : (ds : List ℕ) → byte_from 0 ds ≡ None → byte_number ds ≡ None
number_none ds h = elim (cases_Bool (length ds == 0)) [ inl e ↦ rw e refl | inr e ↦ rw e h ]

none_if : (b : Bool) (n : ℕ) → None ≡ (if b then Some n else None) → b ≡ false
none_if true n h = absurd (cc)
none_if false n h = refl

pub returns-in_err-number : goal.returns-in_err-number
returns-in_err-number c =
    let number = c.loop-digit.number in
    let digit = c.in-Some.digit.now in
    let after = c.in-Some.after.now in
    let none = refused number digit after (none_if _ _ c.in_err-number.ensures) in
    let all = sym c.loop-digit.invariant.same ∙ (ap (byte_from number) c.in-Some.ensures.cases.0 ∙ none) in
    c.from_residual.ensures ∙ sym (number_none c.args.digits.now all)
