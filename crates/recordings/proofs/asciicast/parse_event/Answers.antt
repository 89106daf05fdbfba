use Rattle.std.proofs.Common.{◌<◌, ◌∙◌, ◌∷◌, [], length, ap, sym, arith}
use Rattle.std.specs.Prelude.{option_and_then}
use Rattle.std.specs.Option.{option_map}
use Rattle.recordings.specs.Asciicast.{row_of_items}
use Rattle.recordings.proofs.JsonLemmas.{too_few}
use Rattle.recordings.proofs.asciicast.parse_event.Goals as goal

pub returns-in_default-as_slice : goal.returns-in_default-as_slice
returns-in_default-as_slice c =
    let same = ap length c.as_slice.ensures.value in
    let short : length c.in-Some.parts.now.items < 2 = omega (arith, same, c.in_default-as_slice.len_below) in
    sym (ap (λ o. option_map (λ row. row ∷ []) (option_and_then row_of_items o)) (sym c.in-Some.ensures)
    ∙ ap (option_map (λ row. row ∷ [])) (too_few c.in-Some.parts.now.items short))
