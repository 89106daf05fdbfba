use Rattle.std.specs.Prelude.{◌≡◌, ◌≤◌, ◌-◌, ◌++◌, IfSome, string_bytes, string_capacity}
use Rattle.row_drawing.specs.Drawing.{row_change_of}
use Rattle.row_drawing.specs.RowWriter.{columns}
use Rattle.row_drawing.specs.Writes.{Wrote}
use Rattle.row_drawing.proofs.WritesLemmas.{Began}
use Rattle.row_drawing.proofs.drawing.Drawing.columns.Given as goal

-- the columns so far are drawn, where the run's bytes follow those that are appended already, and `like`, if it is
-- there, has the attributes with which the terminal draws
abbrev pub invariant-loop-n : goal.invariant-loop-n
invariant-loop-n l = record {
  within : l.n ≤ l.count;
  drawn : Wrote (columns (row_change_of l.self) l.n) l.initial.pen (string_bytes l.initial.contents) l.pen
      (string_bytes l.contents ++ l.run);
  begun : Began (columns (row_change_of l.self) l.count) l.initial.pen (string_bytes l.initial.contents)
      (string_bytes l.contents);
  capacity : string_capacity l.initial.contents ≤ string_capacity l.contents;
  like : IfSome l.like (λ x. x.now.attrs ≡ l.pen.attrs);
}

abbrev pub decreases-loop-n : goal.decreases-loop-n
decreases-loop-n l = l.count - l.n
