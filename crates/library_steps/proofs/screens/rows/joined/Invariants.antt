use Rattle.library_steps.proofs.screens.rows.joined.Given as goal

abbrev pub invariant-loop : goal.invariant-loop
invariant-loop g l =
    ((goal.iterator-loop g).can_next l.texts × (goal.iterator-loop g).is_finite l.texts)
    × ((goal.iterator-loop g).can_next l.again × (goal.iterator-loop g).is_finite l.again)
