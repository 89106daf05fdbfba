use Rattle.std.proofs.Common.{nat_eq}
use Rattle.std.specs.Cmp.Lexicographic.{pointwise}
use Rattle.recorded_screen.proofs.ReelLemmas.{inserted, items_same, same_items}
use Rattle.recorded_screen.proofs.reel.insert_row.Goals as goal

pub returns-clause-inserts : goal.returns-clause-inserts
returns-clause-inserts c =
    let stored = c.in_ok-insert_full.ensures.stored in
    inserted (λ x y. pointwise nat_eq x.items y.items) (λ v. v.items) (λ x y. same_items x.items y.items)
    (λ x y. items_same x.items y.items) _ _
    c.args.row c.in_ok-insert_full.field-0.0 c.in_ok-insert_full.field-0.1 c.in_ok-insert_full.ensures.added
    c.in_ok-insert_full.ensures.keys c.in_ok-insert_full.ensures.index stored.0 stored.1 stored.2
