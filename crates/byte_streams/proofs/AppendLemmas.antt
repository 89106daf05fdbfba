-- Texts that a writer takes one after another.
use Rattle.std.proofs.Common.{◌≡◌, ◌+◌, ℕ, List, [], ◌++◌, length, take, min, Option, Some, None}
use Rattle.std.proofs.Common.{sym, ap, ◌∙◌, append_assoc, arith, length-append}
use Rattle.std.proofs.lemmas.List.{append-nil, take_all, take-append-le}
use Rattle.std.proofs.Math.Seq.{take-append-add}
use Rattle.std.specs.Io.KnownBytes.{Appends}
use Rattle.byte_streams.specs.Output.{TakesPrefix, TakesPart}

pub Appends-more : (a b c : Option (List ℕ)) (xs ys : List ℕ) → Appends a b xs → Appends b c ys → Appends a c (xs ++ ys)
Appends-more None b c xs ys h k = tt
Appends-more (Some a) None c xs ys h k = absurd h
Appends-more (Some a) (Some b) None xs ys h k = absurd k
Appends-more (Some a) (Some b) (Some c) xs ys h k = k ∙ ap (λ zs. zs ++ ys) h ∙ append_assoc a xs ys

pub Appends-none : (a : Option (List ℕ)) → Appends a a []
Appends-none None = tt
Appends-none (Some a) = sym (append-nil a)

pub TakesPrefix-none : (a : Option (List ℕ)) (text : List ℕ) → TakesPrefix a a text
TakesPrefix-none a text = (0, Appends-none a)

pub TakesPrefix-longer : (a b : Option (List ℕ)) (xs ys : List ℕ) → TakesPrefix a b xs → TakesPrefix a b (xs ++ ys)
TakesPrefix-longer a b xs ys (n, prefix) =
    let same : take n xs ≡ take (min n (length xs)) (xs ++ ys) = grind (arith, take-append-le, take_all) in
    (min n (length xs), rw same at prefix)

-- a prefix of a text is a prefix of a longer text too
pub TakesPart-longer : (a b : Option (List ℕ)) (xs ys : List ℕ) → TakesPart a b xs → TakesPart a b (xs ++ ys)
TakesPart-longer a b xs ys (n, less, part) =
    let same : take n xs ≡ take n (xs ++ ys) = sym (take-append-le n xs ys (omega arith)) in
    (n, omega (arith, length-append xs ys), rw same at part)

-- a text was taken whole, and then a prefix of the next one
pub TakesPart-then : (a b c : Option (List ℕ)) (xs ys : List ℕ) → Appends a b xs → TakesPart b c ys
    → TakesPart a c (xs ++ ys)
TakesPart-then a b c xs ys whole (n, less, part) = (
  length xs + n,
  omega (arith, length-append xs ys),
  rw (take-append-add xs ys n) (Appends-more a b c xs (take n ys) whole part),
)
