-- What is true of each row of a table is true of what is looked up there.
use Rattle.std.proofs.Common.{ℕ, List, [], ◌∷◌, Option, Some, None, nat_eq}
use Rattle.std.proofs.lemmas.Bool.{cond_both}
use Rattle.screen_model.specs.Lookup.{lookup}

abbrev pub Each : {X : Type 0} → (X → Type 0) → List (ℕ × X) → Type 0
Each P [] = Unit {0}
Each P (r ∷ rs) = P r.1 × Each P rs

-- such a fact of a row, and those of the rows below it
infixr 5 ◌&◌
pub ◌&◌ : {P Q : Type 0} → P → Q → P × Q
◌&◌ p q = (p, q)

abbrev pub Where : {X : Type 0} → (X → Type 0) → Option X → Type 0
Where P None = Unit {0}
Where P (Some x) = P x

pub looked-up : {X : Type 0} (P : X → Type 0) (n : ℕ) (rows : List (ℕ × X)) → Each P rows → Where P (lookup n rows)
looked-up P n [] h = tt
looked-up P n (r ∷ rs) h =
    cond_both (nat_eq n r.0) (Some r.1) (lookup n rs) (λ o. Where P o) (λ _. h.0) (λ _. looked-up P n rs h.1)
