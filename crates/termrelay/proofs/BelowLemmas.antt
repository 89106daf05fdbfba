-- Tests of all numbers below one, in turn.
use Rattle.std.proofs.Common.{◌≡◌, ◌∙◌, ℕ, zero, suc, ◌+◌, ◌<◌, ◌≤◌, Bool, true, false, ◌&&◌, ◌||◌, arith, refl}
use Rattle.std.proofs.Common.{add-one}
use Rattle.std.proofs.Common.{ap, sym}
use mathlib.Core.Logic.{⊎_elim}
use Rattle.std.proofs.lemmas.Bool.{cases_lt}
use Rattle.termrelay.specs.Answers.{all_below}
use Rattle.termrelay.specs.Frame.{any_below}

and_true : (b : Bool) → (b && true) ≡ b
and_true true = refl
and_true false = refl

or_false : (b : Bool) → (b || false) ≡ b
or_false true = refl
or_false false = refl

pub any-next : (n : ℕ) (p : ℕ → Bool) → any_below n p ≡ false → p n ≡ false → any_below (n + 1) p ≡ false
any-next n p h k = rw (add-one, h) k

pub any-found : (n m : ℕ) (p : ℕ → Bool) → m < n → p m ≡ true → any_below n p ≡ true
any-found zero m p lt h = absurd (omega arith)
any-found (suc n) m p lt h = grind (arith, any-found n m p)

pub all-next : (n : ℕ) (p : ℕ → Bool) → all_below n p ≡ true → p n ≡ true → all_below (n + 1) p ≡ true
all-next n p h k = rw (add-one, h) k

pub all-missed : (n m : ℕ) (p : ℕ → Bool) → m < n → p m ≡ false → all_below n p ≡ false
all-missed zero m p lt h = absurd (omega arith)
all-missed (suc n) m p lt h = grind (arith, all-missed n m p)

-- tests that agree below n
pub all-alike : (n : ℕ) (p q : ℕ → Bool) → ((k : ℕ) → k < n → p k ≡ q k) → all_below n p ≡ all_below n q
all-alike zero p q h = refl
all-alike (suc n) p q h = rw (all-alike n p q (λ k lt. h k (omega arith)), h n (omega arith))

pub any-alike : (n : ℕ) (p q : ℕ → Bool) → ((k : ℕ) → k < n → p k ≡ q k) → any_below n p ≡ any_below n q
any-alike zero p q h = refl
any-alike (suc n) p q h = rw (any-alike n p q (λ k lt. h k (omega arith)), h n (omega arith))

pub all-true : (n : ℕ) (p : ℕ → Bool) → ((k : ℕ) → k < n → p k ≡ true) → all_below n p ≡ true
all-true zero p h = refl
all-true (suc n) p h = rw (all-true n p (λ k lt. h k (omega arith))) (h n (omega arith))

-- tests that hold from n on
pub all-behind : (n m : ℕ) (p : ℕ → Bool) → n ≤ m → ((k : ℕ) → n ≤ k → k < m → p k ≡ true)
    → all_below n p ≡ all_below m p
all-behind n zero p h b = let e : n ≡ zero = omega arith in ap (λ j. all_below j p) e
all-behind n (suc m) p h b =
    ⊎_elim
    (λ (l : n < suc m). let last = b m (omega arith) (omega arith) in
    let before = all-behind n m p (omega arith) (λ k g lt. b k g (omega arith)) in
    before ∙ sym (rw last (and_true (all_below m p))))
    (λ (g : suc m ≤ n). let e : n ≡ suc m = omega arith in ap (λ j. all_below j p) e)
    (cases_lt n (suc m))

-- and tests that none passes from there on
pub any-behind : (n m : ℕ) (p : ℕ → Bool) → n ≤ m → ((k : ℕ) → n ≤ k → k < m → p k ≡ false)
    → any_below n p ≡ any_below m p
any-behind n zero p h b = let e : n ≡ zero = omega arith in ap (λ j. any_below j p) e
any-behind n (suc m) p h b =
    ⊎_elim
    (λ (l : n < suc m). let last = b m (omega arith) (omega arith) in
    let before = any-behind n m p (omega arith) (λ k g lt. b k g (omega arith)) in
    before ∙ sym (rw last (or_false (any_below m p))))
    (λ (g : suc m ≤ n). let e : n ≡ suc m = omega arith in ap (λ j. any_below j p) e)
    (cases_lt n (suc m))
