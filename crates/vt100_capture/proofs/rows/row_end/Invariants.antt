use Rattle.std.specs.Str.Iter.{char_indices_offset, char_indices_rest}
use Rattle.vt100_capture.proofs.RowsLemmas.{IsWalked}
use Rattle.vt100_capture.proofs.rows.row_end.Given as goal

abbrev pub invariant-loop-i : goal.invariant-loop-i
invariant-loop-i l =
    (goal.iterator-loop-i).can_next l.i-iterator × ((goal.iterator-loop-i).is_finite l.i-iterator
    × IsWalked l.width l.capture l.inside l.taken (char_indices_offset l.i-iterator)
    (char_indices_rest l.i-iterator))
