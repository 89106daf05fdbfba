use Rattle.std.proofs.Common.{◌++◌, ap, ◌∙◌}
use Rattle.vt100_forms.specs.Form.{bytes_of}
use Rattle.row_drawing.proofs.WritesLemmas.{wrote_goto}
use Rattle.row_drawing.proofs.pen.Pen.travel.Goals as goal

pub returns-clause-written : goal.returns-clause-written
returns-clause-written c =
    wrote_goto _ _ _ _ _ (c.push_to.ensures.bytes ∙ ap (λ xs. c.args.run.now ++ bytes_of xs) c.new.ensures)
