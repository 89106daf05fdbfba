use Rattle.std.proofs.Common.{arith, ◌≤◌, ◌<◌, subst}
use Rattle.std.proofs.lemmas.Grind.{common_steps}
use Rattle.terminal_model.specs.Apply.{wrap}
use Rattle.termview.specs.Picture.{PictureView, Becomes, term_of_picture}
use Rattle.termview.specs.PictureFields.{picture_of}
use Rattle.termview.proofs.PictureSteps.{wraps-to, wraps-alone, starts}
use Rattle.termview.proofs.picture.Picture.wrap.Goals as goal

pub returns-then-self-gt0-clause-picture : goal.returns-then-self-gt0-clause-picture
returns-then-self-gt0-clause-picture c =
    let p = picture_of c.self.inside in
    let q = c.linefeed.new.self in
    let r = c.flag_row_above.new.self in
    let later : 0 < q.row = grind (arith, common_steps) in
    subst (λ (s : PictureView). Becomes s r (wrap s.size (term_of_picture s))) c.self.view_is
    (wraps-to p q r c.self.invariant.in_rows c.linefeed.ensures later c.flag_row_above.ensures)

pub returns-then-self-gt0-clause-start : goal.returns-then-self-gt0-clause-start
returns-then-self-gt0-clause-start c =
    starts c.args.self.now c.flag_row_above.new.self (returns-then-self-gt0-clause-picture c)

pub returns-else-self-gt0-clause-picture : goal.returns-else-self-gt0-clause-picture
returns-else-self-gt0-clause-picture c =
    let p = picture_of c.self.inside in
    let q = c.linefeed.new.self in
    let first : q.row ≤ 0 = grind (arith, common_steps) in
    subst (λ (s : PictureView). Becomes s q (wrap s.size (term_of_picture s))) c.self.view_is
    (wraps-alone p q c.self.invariant.in_rows c.linefeed.ensures first)

pub returns-else-self-gt0-clause-start : goal.returns-else-self-gt0-clause-start
returns-else-self-gt0-clause-start c =
    starts c.args.self.now c.linefeed.new.self (returns-else-self-gt0-clause-picture c)
