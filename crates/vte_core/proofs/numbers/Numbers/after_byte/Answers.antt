use Rattle.std.proofs.Common.{refl, arith, [], ◌++◌, ◌∷◌, ◌<◌, ◌≡◌, ◌≢◌, ◌+◌, ◌*◌, ◌-◌, ℕ, min, length, length-append}
use Rattle.std.proofs.Common.{subst}
use Rattle.std.proofs.lemmas.Bool.Decides.{nat_tests}
use Rattle.vte_core.specs.Reading.{AreNumbers}
use Rattle.vte_core.proofs.Numbered.{numbers-digit, numbers-colon, numbers-semicolon}
use Rattle.vte_core.proofs.numbers.Numbers.after_byte.Goals as goal

pub returns-in-48-to-57 : goal.returns-in-48-to-57
returns-in-48-to-57 c = λ m (gs, g, a, h).
    let no_semicolon : c.args.byte ≢ 59 = omega arith in
    let no_colon : c.args.byte ≢ 58 = omega arith in
    let n = c.args.number in
    let b = c.args.byte in
    let same : min 65535 (n * 10 + (b - 0x30)) ≡ c.min.result = omega (arith, c.min.ensures) in (
      gs,
      g,
      subst (λ (k : ℕ). AreNumbers (m ++ b ∷ []) gs g k) same
          (numbers-digit m gs g n b (grind (arith, nat_tests, no_semicolon)) (grind (arith, nat_tests, no_colon)) a),
      h,
    )

pub returns-in-59 : goal.returns-in-59
returns-in-59 c = λ m (gs, g, a, h).
    let n = c.args.number in
    let some : 0 < length (g ++ n ∷ []) = omega (arith, length-append g (n ∷ [])) in (
      gs ++ (g ++ n ∷ []) ∷ [],
      [],
      numbers-semicolon m gs g n c.args.byte (rw c.in-59.is refl) a,
      c.end_group.ensures gs (g ++ n ∷ []) (c.end_number.ensures gs g h) some,
    )

pub returns-in_default : goal.returns-in_default
returns-in_default c = λ m (gs, g, a, h).
    let n = c.args.number in
    let colon : c.args.byte ≡ 58 = grind (arith, nat_tests, c.requires) in (
      gs,
      g ++ n ∷ [],
      numbers-colon m gs g n c.args.byte (rw colon refl) (rw colon refl) a,
      c.end_number-in_default.ensures gs g h,
    )
