use Rattle.std.specs.Prelude.{ℕ, ◌≡◌, ◌+◌, ◌<◌, ◌≤◌, ◌-◌, List, ◌++◌}
use Rattle.row_drawing.specs.Drawing.{row_change_of, GoesTo, IsAt}
use Rattle.row_drawing.proofs.drawing.Drawing.gather.Given as goal

-- the texts of the columns so far are in the run, and the pen is past them
abbrev pub invariant-loop-m : goal.invariant-loop-m
invariant-loop-m l = record {
  begun : l.n ≤ l.m;
  within : l.m ≤ l.count;
  gathered : (t : List ℕ) → GoesTo (row_change_of l.self) l.n l.m l.initial.pen (t ++ l.initial.run) l.pen (t
      ++ l.run);
  attrs : l.pen.attrs ≡ l.initial.pen.attrs;
  alike : l.pen.attrs ≡ l.alike.attrs;
  here : l.m < l.count → IsAt (row_change_of l.self) (l.self.start + l.m) l.pen;
}

abbrev pub decreases-loop-m : goal.decreases-loop-m
decreases-loop-m l = l.count - l.m
