use Rattle.std.proofs.Common.{◌≡◌, ℕ, List, length, ◌<◌, None, Err, arith}
use Rattle.std.proofs.lemmas.Str.Parse.{parse_digits, digits_value_short}
use Rattle.command_line.specs.Numbers.{count_of}
use Rattle.command_line.proofs.NumberLemmas.{own, are_digits, are_few}
use Rattle.command_line.proofs.numbers.parse_count.Goals as goal

not_counted : (word : List ℕ) → (0 < length word → ⊥) → None ≡ count_of word
not_counted word h = grind arith

pub returns-in-Err : goal.returns-in-Err
returns-in-Err c =
    let word = c.args.word.now in
    let digits = are_digits 9 word c.if-not-is_number.ensures in
    let small = digits_value_short own word 9 digits (are_few 9 word c.if-not-is_number.ensures) in
    not_counted word (λ h. parse_digits own 64 word (Err c.in-Err.field-0) c.in-Err.ensures.value.0 digits (
      h,
      omega (arith, small),
    ))
