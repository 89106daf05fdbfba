use Rattle.std.proofs.Common.{◌≡◌, ℕ, ◌-◌, ◌^◌, ◌<◌, arith, Some, ap, false}
use Rattle.std.proofs.lemmas.Fmt.{hex_byte}
use Rattle.std.specs.Fmt.{digits, digits_output, styled_digits_output, format_spec}
use Rattle.vte_types.specs.Rgb.{two_digits}
use Rattle.vte_types.proofs.rgb.RgbDisplay.fmt.Goals as goal

-- what `{:02x}` writes of a byte
part : (d : _) (s : _) (n : ℕ) → n < 256 → s ≡ format_spec 32 0 4 2 (2 ^ 64 - 1)
    → digits_output d ≡ Some (digits 16 false n) → styled_digits_output d s ≡ Some (two_digits n)
part d s n small laid read = rw (laid, read) (ap Some (hex_byte false n small))

pub returns-clause-writes : goal.returns-clause-writes
returns-clause-writes g c =
    let red = part c.in_radix.result c.laid_out.result c.args.self.now.r (omega arith) c.laid_out.ensures
    c.in_radix.ensures in
    let green = part c.in_radix-2.result c.laid_out-2.result c.args.self.now.g (omega arith) c.laid_out-2.ensures
    c.in_radix-2.ensures in
    let blue = part c.in_radix-3.result c.laid_out-3.result c.args.self.now.b (omega arith) c.laid_out-3.ensures
    c.in_radix-3.ensures in
    rw (red, green, blue) at c.write.ensures.writes
