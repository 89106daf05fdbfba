use Rattle.std.specs.Prelude.{replicate}
use Rattle.vt100_forms.specs.Form.{Lf}
use Rattle.vt100_core.specs.Writers.{AppendedForms}
use Rattle.vt100_core.proofs.grid.placing.push_line_feeds.Given as goal

abbrev pub invariant-loop-n : goal.invariant-loop-n
invariant-loop-n l = AppendedForms (replicate l._n Lf) l.initial.contents l.contents
