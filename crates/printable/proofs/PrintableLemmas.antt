-- Bytes that are printable ASCII.
use Rattle.std.proofs.Common.{◌≡◌, ◌∙◌, ◌+◌, ◌<◌, ◌≤◌, ◌&&◌, ◌-◌, ℕ, zero, suc, Bool, List, [], ◌∷◌, ◌++◌, ap, sym}
use Rattle.std.proofs.Common.{length, take, drop, get_or, nat_lt, arith, take-append-drop, subst, length-drop, take_all}
use Rattle.std.specs.Prelude.{All, IsTrue}
use Rattle.std.specs.Str.{IsAscii, IsUtf8, IsCharBoundary, chars}
use Rattle.std.proofs.lemmas.Bool.{and_parts, leb-true, ltb-true}
use Rattle.std.proofs.lemmas.List.Elements.{All-append, All-drop, All-more}
use Rattle.std.proofs.lemmas.Str.{IsUtf8-from_ascii, IsCharBoundary-from_take, chars-append, chars-IsAscii}
use Rattle.printable.specs.Printable.{IsPrintable}
use lib.Dec.{leb}
use lib.Seq.{take-add}

-- one more
pub printable-more : (bs : List ℕ) (i : ℕ) (p : Bool) → i < length bs → (IsTrue p → All IsPrintable (take i bs))
    → IsTrue (p && (leb 32 (get_or bs i 0) && nat_lt (get_or bs i 0) 127)) → All IsPrintable (take (i + 1) bs)
printable-more bs i p lt so_far t =
    let b = get_or bs i 0 in
    let both = and_parts p (leb 32 b && nat_lt b 127) t in
    let ends = and_parts (leb 32 b) (nat_lt b 127) both.1 in
    All-more IsPrintable bs i 0 lt (so_far both.0) (leb-true 32 b ends.0, ltb-true b 127 ends.1)

-- more, after i of them
pub printable-further : (bs : List ℕ) (i k : ℕ) → All IsPrintable (take i bs)
    → All IsPrintable (take k (take (length bs - i) (drop i bs))) → All IsPrintable (take (i + k) bs)
printable-further bs i k so_far more =
    let rest : take (length bs - i) (drop i bs) ≡ drop i bs = take_all (length bs - i) (drop i bs) (omega (
      arith,
      length-drop i bs,
    )) in
    subst (λ (xs : List ℕ). All IsPrintable xs) (sym (take-add i k bs)) (All-append IsPrintable (take i bs)
    (take k (drop i bs)) so_far (subst (λ (xs : List ℕ). All IsPrintable (take k xs)) rest more))

-- they are ASCII
pub printable-ascii : (xs : List ℕ) → All IsPrintable xs → IsAscii xs
printable-ascii [] p i = omega arith
printable-ascii (x ∷ xs) p zero = let one = p zero 0 (omega arith) in omega (arith, one.1)
printable-ascii (x ∷ xs) p (suc i) = printable-ascii xs (All-drop IsPrintable 1 (x ∷ xs) p) i

-- a text may be cut after them, and they are its first characters
pub printable-boundary : (bs : List ℕ) (n : ℕ) → IsUtf8 bs → n ≤ length bs → All IsPrintable (take n bs)
    → IsCharBoundary bs n
printable-boundary bs n u within p =
    IsCharBoundary-from_take bs n u within (IsUtf8-from_ascii (take n bs) (printable-ascii (take n bs) p))

pub printable-chars : (bs : List ℕ) (n : ℕ) → All IsPrintable (take n bs) → chars bs ≡ take n bs ++ chars (drop n bs)
printable-chars bs n p =
    let ascii = printable-ascii (take n bs) p in
    ap chars (sym (take-append-drop n bs)) ∙ chars-append (take n bs) (drop n bs) (IsUtf8-from_ascii (take n bs) ascii)
    ∙ ap (λ (xs : List ℕ). xs ++ chars (drop n bs)) (chars-IsAscii (take n bs) ascii)
