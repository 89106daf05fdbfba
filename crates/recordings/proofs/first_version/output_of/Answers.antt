use Rattle.std.proofs.Common.{◌<◌, ◌∙◌, length, ap, sym, arith}
use Rattle.std.specs.Prelude.{option_and_then}
use Rattle.recordings.specs.FirstVersion.{output_of_items}
use Rattle.recordings.proofs.FirstLemmas.{too_few_parts}
use Rattle.recordings.proofs.first_version.output_of.Goals as goal

pub returns-in_default : goal.returns-in_default
returns-in_default c =
    let same = ap length c.as_slice.ensures.value in
    let short : length c.in_ok-as_array.field-0.now.items < 2 = omega (arith, same, c.in_default.len_below) in
    sym (ap (option_and_then output_of_items) (sym c.in_ok-as_array.ensures)
    ∙ too_few_parts c.in_ok-as_array.field-0.now.items short)
