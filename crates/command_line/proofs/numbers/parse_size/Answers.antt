use Rattle.std.proofs.Common.{◌≡◌, ℕ, List, length, ◌<◌, ◌^◌, None, Err, arith}
use Rattle.std.proofs.lemmas.Str.Parse.{parse_digits}
use Rattle.std.specs.Str.Parse.{digits_value}
use Rattle.command_line.specs.Numbers.{size_in}
use Rattle.command_line.proofs.NumberLemmas.{own, are_digits}
use Rattle.command_line.proofs.numbers.parse_size.Goals as goal

not_sized : (word : List ℕ) → ¬ ((0 < length word) × (digits_value 10 word < 2 ^ 16)) → None ≡ size_in word
not_sized word h = grind arith

pub returns-in-Err : goal.returns-in-Err
returns-in-Err c =
    not_sized c.args.word.now (parse_digits own 16 c.args.word.now (Err c.in-Err.field-0) c.in-Err.ensures.value.0
    (are_digits 5 c.args.word.now c.if-not-is_number.ensures))
