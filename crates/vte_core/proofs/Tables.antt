-- A table against the classes that it tabulates.
use Rattle.std.proofs.Common.{◌≡◌, ℕ, zero, suc, ◌+◌, ◌<◌, Bool, true, ◌&&◌, List, [], ◌∷◌, length, get_or, arith}
use Rattle.std.proofs.lemmas.Bool.{and_parts}
use Rattle.vte_core.specs.Classes.{is_in}
use Rattle.vte_core.specs.declared.table.Class.{Class}

-- each byte from at on is in the class of its place
abbrev pub tabulates : ℕ → List Class → Bool
tabulates at [] = true
tabulates at (x ∷ xs) = is_in x at && tabulates (at + 1) xs

pub entry : (d : Class) (at : ℕ) (xs : List Class) (i : ℕ) → tabulates at xs ≡ true → i < length xs
    → is_in (get_or xs i d) (at + i) ≡ true
entry d at [] i h l = absurd (omega (arith, l))
entry d at (x ∷ xs) zero h l = let e : at + 0 ≡ at = omega arith in rw e (and_parts _ _ h).0
entry d at (x ∷ xs) (suc i) h l = let e : at + suc i ≡ at + 1 + i = omega arith
    in rw e (entry d (at + 1) xs i (and_parts _ _ h).1 (omega (arith, l)))
