use Rattle.std.proofs.Common.{nat_eq}
use Rattle.std.proofs.lemmas.Bool.{eq-eqb, eqb-true}
use Rattle.recorded_screen.proofs.ReelLemmas.{inserted, inserted_number, takes_place}
use Rattle.recorded_screen.proofs.reel.insert_number.Goals as goal

pub returns-clause-place : goal.returns-clause-place
returns-clause-place c =
    let stored = c.in_ok-insert_full.ensures.stored in
    takes_place _ _ c.args.number c.in_ok-insert_full.field-0.0 c.in_ok-insert_full.field-0.1
    (inserted_number _ _ c.args.number c.in_ok-insert_full.field-0.0 c.in_ok-insert_full.field-0.1
    (inserted nat_eq (λ x. x) eqb-true eq-eqb _ _ c.args.number c.in_ok-insert_full.field-0.0
    c.in_ok-insert_full.field-0.1 c.in_ok-insert_full.ensures.added c.in_ok-insert_full.ensures.keys
    c.in_ok-insert_full.ensures.index stored.0 stored.1 stored.2))
