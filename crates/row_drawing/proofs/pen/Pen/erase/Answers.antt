use Rattle.std.proofs.Common.{◌++◌, ap, ◌∙◌, ◌∷◌, [], rules}
use Rattle.vt100_forms.specs.Form.{bytes_of}
use Rattle.row_drawing.proofs.WritesLemmas.{wrote_erase}
use Rattle.row_drawing.proofs.pen.Pen.erase.Goals as goal

pub returns-clause-written : goal.returns-clause-written
returns-clause-written c =
    wrote_erase _ _ _ _ _ _ (c.push_to.ensures.bytes ∙ ap (λ f. c.args.run.now ++ bytes_of (f ∷ [])) c.new.ensures)
    (search rules)
