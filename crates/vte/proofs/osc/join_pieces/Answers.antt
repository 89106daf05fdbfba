use Rattle.std.proofs.Common.{◌≤◌, ◌∙◌, ◌∷◌, ◌++◌, sym, ap, length, length-append, arith}
use Rattle.std.specs.List.{flat_map}
use Rattle.vte.specs.Osc.{text_or_empty}
use Rattle.vte.proofs.Joins.{join-texts}
use Rattle.vte.proofs.osc.join_pieces.Goals as goal

pub returns : goal.returns
returns c empty fits =
    let first = text_or_empty c.args.first.now in
    let more = flat_map (λ p. 59 ∷ text_or_empty p) c.args.pieces in
    let whole = join-texts first c.args.pieces in
    let room : length (first ++ more) ≤ 1040 = rw whole at fits in
    let begun = c.begin.ensures empty (omega (
      arith,
      room,
      length-append first more,
      ap length c.text_or_nothing.ensures,
    )) ∙ c.text_or_nothing.ensures in
    c.append_pieces.ensures (rw begun room) ∙ (ap (λ b. b ++ more) begun ∙ sym whole)
