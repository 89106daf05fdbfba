-- The digits of a number below 100,000.
use Rattle.std.proofs.Common.{ℕ, ◌≡◌, ◌≤◌, ◌<◌, ◌+◌, ◌/◌, ◌%◌, ◌^◌, ◌++◌, ◌∷◌, [], List, decimal, arith, ap, ◌∙◌}
use Rattle.std.proofs.Common.{append_assoc}
use Rattle.std.proofs.lemmas.Fmt.{decimal_step, decimal_digit}

pub decimal_tens : (n : ℕ) → 10 ≤ n → n < 100 → decimal n ≡ (48 + n / 10) ∷ (48 + n % 10) ∷ []
decimal_tens n h small =
    decimal_step n h (omega arith)
    ∙ ap (λ ds. ds ++ (48 + n % 10) ∷ []) (decimal_digit (n / 10) (omega arith))

pub decimal_hundreds : (n : ℕ) → 100 ≤ n → n < 1000
    → decimal n ≡ (48 + n / 100) ∷ (48 + n / 10 % 10) ∷ (48 + n % 10) ∷ []
decimal_hundreds n h small =
    let prefix : n / 10 / 10 ≡ n / 100 = omega arith in
    decimal_step n (omega arith) (omega arith)
    ∙ ap (λ ds. ds ++ (48 + n % 10) ∷ []) (decimal_tens (n / 10) (omega arith) (omega arith))
    ∙ ap (λ m. (48 + m) ∷ (48 + n / 10 % 10) ∷ (48 + n % 10) ∷ []) prefix

pub decimal_thousands : (n : ℕ) → 1000 ≤ n → n < 2 ^ 64
    → decimal n ≡ decimal (n / 1000) ++ (48 + n / 100 % 10) ∷ (48 + n / 10 % 10) ∷ (48 + n % 10) ∷ []
decimal_thousands n h fits =
    let prefix : n / 10 / 10 / 10 ≡ n / 1000 = omega arith in
    let middle : n / 10 / 10 ≡ n / 100 = omega arith in
    decimal_step n (omega arith) fits
    ∙ ap (λ ds. ds ++ (48 + n % 10) ∷ []) (decimal_step (n / 10) (omega arith) (omega (arith, fits))
    ∙ ap (λ ds. ds ++ (48 + n / 10 % 10) ∷ []) (decimal_step (n / 10 / 10) (omega arith) (omega (arith, fits))))
    ∙ append_assoc (decimal (n / 10 / 10 / 10) ++ (48 + n / 10 / 10 % 10) ∷ []) ((48 + n / 10 % 10) ∷ [])
    ((48 + n % 10) ∷ [])
    ∙ append_assoc (decimal (n / 10 / 10 / 10)) ((48 + n / 10 / 10 % 10) ∷ []) ((48 + n / 10 % 10) ∷ (48 + n % 10) ∷ [])
    ∙ ap (λ m. decimal m ++ (48 + n / 10 / 10 % 10) ∷ (48 + n / 10 % 10) ∷ (48 + n % 10) ∷ []) prefix
    ∙ ap (λ m. decimal (n / 1000) ++ (48 + m % 10) ∷ (48 + n / 10 % 10) ∷ (48 + n % 10) ∷ []) middle

pub two_pushed : (xs ys zs : List ℕ) (a b : ℕ) → ys ≡ xs ++ a ∷ [] → zs ≡ ys ++ b ∷ [] → zs ≡ xs ++ a ∷ b ∷ []
two_pushed xs ys zs a b one two = two ∙ ap (λ x. x ++ b ∷ []) one ∙ append_assoc xs (a ∷ []) (b ∷ [])

pub three_pushed : (xs ys zs ws : List ℕ) (a b c : ℕ) → ys ≡ xs ++ a ∷ [] → zs ≡ ys ++ b ∷ [] → ws ≡ zs ++ c ∷ []
    → ws ≡ xs ++ a ∷ b ∷ c ∷ []
three_pushed xs ys zs ws a b c one two three =
    three ∙ ap (λ x. x ++ c ∷ []) (two_pushed xs ys zs a b one two) ∙ append_assoc xs (a ∷ b ∷ []) (c ∷ [])
