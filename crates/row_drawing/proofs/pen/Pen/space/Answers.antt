use Rattle.std.proofs.Common.{List, ℕ, [], ◌++◌, ap, arith, refl, sym, ◌∙◌}
use Rattle.std.proofs.lemmas.Str.{encode_ascii}
use Rattle.row_drawing.specs.Writer.{space}
use Rattle.row_drawing.proofs.pen.Pen.space.Goals as goal

pub returns-clause-written : goal.returns-clause-written
unfolding space
returns-clause-written c =
    let one = encode_ascii 32 (omega arith) in
    record {
      pen_is = refl;
      text_is = c.push_ascii.ensures.bytes ∙ ap (λ (bs : List ℕ). c.args.run.now ++ ((bs ++ []) ++ [])) (sym one);
    }
