use Rattle.std.specs.Prelude.{string_bytes, replicate}
use Rattle.row_drawing.proofs.WritesLemmas.{begun-more}
use Rattle.vt100_core.proofs.grid.contents.write_row.Goals as goal

pub returns-in_err-push_newlines-clause-begun : goal.returns-in_err-push_newlines-clause-begun
returns-in_err-push_newlines-clause-begun c =
    begun-more (string_bytes c.args.contents.now) (replicate c.args.newlines 10) _ _
    c.in_err-push_newlines.ensures.begun
