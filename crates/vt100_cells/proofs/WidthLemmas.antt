-- The columns of a character.
use Rattle.std.proofs.Common.{◌≡◌, ℕ, ◌<◌, ◌≤◌, true, false, cond, Some, None, refl, sym, arith}
use Rattle.std.proofs.lemmas.Bool.Decides.{nat_tests}
use Rattle.unicode_width.specs.Width.{char_width}
use Rattle.unicode_width.proofs.Computing.{unicode_width}
use Rattle.printable.specs.Printable.{IsPrintable}
use Rattle.vt100_cells.specs.Cell.{columns_of, is_undrawable, drawn_columns}

width-ascii : (c : ℕ) → 32 ≤ c → c < 127 → char_width false c ≡ Some 1
unfolding char_width
width-ascii c l h = grind (arith, nat_tests)

pub drawn-ascii : (c : ℕ) → 32 ≤ c → c < 127 → Some 1 ≡ drawn_columns c
drawn-ascii c l h = rw (width-ascii c l h) refl

pub space_is_narrow : columns_of 32 ≡ 1
unfolding char_width
space_is_narrow = refl

pub space_is_drawn : drawn_columns 32 ≡ Some 1
unfolding char_width
space_is_drawn = refl

pub wide_space_is_drawn : drawn_columns 0x3000 ≡ Some 2
unfolding unicode_width
wide_space_is_drawn = refl

pub drawn-is : (c n : ℕ) → drawn_columns c ≡ Some n → (is_undrawable c ≡ false) × (columns_of c ≡ n)
drawn-is c n e = elim (is_undrawable c) as (λ b. (cond b None (Some (columns_of c)) ≡ Some n) → (b ≡ false)
    × (columns_of c ≡ n)) [
      | true ↦ λ h. cc
      | false ↦ λ h. (refl, cc)
    ] e

pub printable-is : (c : ℕ) → IsPrintable c → (is_undrawable c ≡ false) × (columns_of c ≡ 1)
printable-is c p = drawn-is c 1 (sym (drawn-ascii c p.0 p.1))
