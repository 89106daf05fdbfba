-- Characters of several bytes are above ASCII.
use Rattle.std.proofs.Common.{◌≡◌, ℕ, ◌+◌, ◌-◌, ◌*◌, ◌≤◌, true, List, [], ◌∷◌, ◌++◌}
use Rattle.std.proofs.Common.{length, sym, arith}
use Rattle.std.proofs.lemmas.Bool.Decides.{nat_tests}
use Rattle.std.specs.Int.{is_in_range}
use Rattle.vte_core.specs.Text.{char_len, second_min, second_max, first_bits, joined}
use Rattle.vte_core.specs.Pending.{goes_on, IsUnfinished}
use Rattle.vte_core.proofs.Characters.{tail_first}

two : (a b : ℕ) → char_len a ≡ 2 → is_in_range (second_min a) (second_max a) b ≡ true
    → 0x80 ≤ first_bits a * 64 + (b - 128)
two a b l h = grind (arith, nat_tests)

three : (a b c : ℕ) → char_len a ≡ 3 → is_in_range (second_min a) (second_max a) b ≡ true
    → 0x80 ≤ (first_bits a * 64 + (b - 128)) * 64 + (c - 128)
three a b c l h = grind (arith, nat_tests)

four : (a b c d : ℕ) → char_len a ≡ 4 → is_in_range (second_min a) (second_max a) b ≡ true
    → 0x80 ≤ ((first_bits a * 64 + (b - 128)) * 64 + (c - 128)) * 64 + (d - 128)
four a b c d l h = grind (arith, nat_tests)

few : (a : ℕ) → char_len a ≤ 4
few a = grind (arith, nat_tests)

-- an unfinished character with its last byte
pub high-joined : (a : ℕ) (t : List ℕ) (b : ℕ) → IsUnfinished (a ∷ t) → goes_on a t b ≡ true
    → length t + 2 ≡ char_len a → 0x80 ≤ joined (first_bits a) (t ++ b ∷ [])
high-joined a [] b u g l = two a b (omega (arith, l)) g
high-joined a (c ∷ []) b u g l =
    let e : char_len a ≡ 3 = sym l in
    let first = tail_first 1 (second_min a) (second_max a) c [] (rw e at u.0) in
    three a c b e first.0
high-joined a (c ∷ d ∷ []) b u g l =
    let e : char_len a ≡ 4 = sym l in
    let first = tail_first 2 (second_min a) (second_max a) c (d ∷ []) (rw e at u.0) in
    four a c d b e first.0
high-joined a (c ∷ d ∷ e ∷ t) b u g l = absurd (omega (arith, l, few a))
