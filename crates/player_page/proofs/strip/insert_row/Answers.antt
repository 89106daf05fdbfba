use Rattle.std.proofs.Common.{nat_eq}
use Rattle.std.specs.Cmp.Lexicographic.{pointwise}
use Rattle.player_page.proofs.TableLemmas.{items_same, same_items, takes_number}
use Rattle.player_page.proofs.strip.insert_row.Goals as goal

pub returns-clause-takes : goal.returns-clause-takes
returns-clause-takes c =
    let stored = c.in_ok-insert_full.ensures.stored in
    takes_number (λ x y. pointwise nat_eq x.items y.items) (λ v. v.items) (λ x y. same_items x.items y.items)
    (λ x y. items_same x.items y.items) _ _ c.args.row stored.0 c.in_ok-insert_full.field-0.0
    c.in_ok-insert_full.field-0.1 c.in_ok-insert_full.ensures.added c.in_ok-insert_full.ensures.keys stored.1 stored.2
