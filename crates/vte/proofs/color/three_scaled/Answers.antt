use Rattle.std.proofs.Common.{◌≡◌, ◌==◌, ◌∷◌, rules}
use Rattle.std.specs.List.{slice_split}
use Rattle.vte_core.proofs.Splits.{some_part}
use Rattle.vte.proofs.color.three_scaled.Goals as goal

pub returns-in-Some : goal.returns-in-Some
returns-in-Some c =
    let parts = some_part (λ x. x == 47) c.in-Some._more.now in
    let is : slice_split (λ x. x == 47) c.in-Some._more.now ≡ parts.0 ∷ parts.1 = parts.2 in
    search rules
