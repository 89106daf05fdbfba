-- Laws of functions that are changed at one place or over a range.
use Rattle.std.proofs.Common.{◌≡◌, ℕ, ◌+◌, ◌<◌, ◌≤◌, arith}
use Rattle.std.proofs.lemmas.Bool.Decides.{nat_tests}
use mathlib.Core.Path.{fun_ext}
use Rattle.terminal_model.specs.Position.{update, splice}

-- ---- one place

pub update-same : {A : Type 0} (f : ℕ → A) (i : ℕ) (v : A) → update f i v i ≡ v
unfolding update
update-same f i v = grind (arith, nat_tests)

pub update-other : {A : Type 0} (f : ℕ → A) (i k : ℕ) (v : A) → (k ≡ i → ⊥) → update f i v k ≡ f k
unfolding update
update-other f i k v h = grind (arith, nat_tests)

pub update-twice : {A : Type 0} (f : ℕ → A) (i : ℕ) (v w : A) → update (update f i v) i w ≡ update f i w
unfolding update
update-twice f i v w = fun_ext (λ k. grind (arith, nat_tests))

-- the same value, written again
pub update-kept : {A : Type 0} (f : ℕ → A) (i : ℕ) (v : A) → v ≡ f i → update f i v ≡ f
unfolding update
update-kept f i v e = fun_ext (λ k. grind (arith, nat_tests))

pub update-apart : {A : Type 0} (f : ℕ → A) (i j : ℕ) (v w : A) → (i ≡ j → ⊥)
    → update (update f i v) j w ≡ update (update f j w) i v
unfolding update
update-apart f i j v w h = fun_ext (λ k. grind (arith, nat_tests))

-- ---- a range

pub splice-in : {A : Type 0} (f : ℕ → A) (a b : ℕ) (g : ℕ → A) (k : ℕ) → a ≤ k → k < b → splice f a b g k ≡ g k
unfolding splice
splice-in f a b g k l h = grind (arith, nat_tests)

pub splice-past : {A : Type 0} (f : ℕ → A) (a b : ℕ) (g : ℕ → A) (k : ℕ) → b ≤ k → splice f a b g k ≡ f k
unfolding splice
splice-past f a b g k h = grind (arith, nat_tests)

pub splice-none : {A : Type 0} (f : ℕ → A) (a : ℕ) (g : ℕ → A) → splice f a a g ≡ f
unfolding splice
splice-none f a g = fun_ext (λ k. grind (arith, nat_tests))

-- one place more is written
pub splice-update : {A : Type 0} (f : ℕ → A) (a b : ℕ) (g : ℕ → A) (v : A) → a ≤ b → v ≡ g b
    → update (splice f a b g) b v ≡ splice f a (b + 1) g
unfolding splice update
splice-update f a b g v l e = fun_ext (λ k. grind (arith, nat_tests))

-- past the range both agree
pub splice-whole : {A : Type 0} (f : ℕ → A) (n : ℕ) (g : ℕ → A) → ((k : ℕ) → n ≤ k → f k ≡ g k) → splice f 0 n g ≡ g
unfolding splice
splice-whole f n g beyond = fun_ext (λ k. grind (arith, nat_tests, beyond k))
