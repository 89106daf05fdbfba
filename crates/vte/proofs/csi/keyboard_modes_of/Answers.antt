use Rattle.std.proofs.Common.{◌≡◌, ℕ, ◌%◌, ◌∙◌, ap, arith, bit_and}
use Rattle.std.proofs.lemmas.Nat.{and_mask}
use Rattle.bitflags.proofs.OnLiterals.{bitflags_on_literals}
use Rattle.vte.proofs.csi.keyboard_modes_of.Goals as goal

low_bits : (n : ℕ) → bit_and (bit_and n 255) 31 ≡ n % 32
low_bits n =
    let drop : n % 256 % 32 ≡ n % 32 = omega arith in ap (λ k. bit_and k 31) (and_mask n 8)
    ∙ (and_mask (n % 256) 5 ∙ drop)

pub returns : goal.returns
unfolding bitflags_on_literals
returns c = let bits : c.from_bits_truncate.result.0 ≡ c.args.number % 32 =
    c.from_bits_truncate.ensures tt ∙ low_bits c.args.number in ap (λ n. record { 0 = n }) bits
