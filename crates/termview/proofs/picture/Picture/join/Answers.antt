use Rattle.std.proofs.Common.{arith, ◌<◌, ◌≤◌}
use Rattle.std.proofs.lemmas.Grind.{common_steps}
use Rattle.termview.proofs.PictureSteps.{joins-left, drops-first}
use Rattle.termview.proofs.picture.Picture.join.Goals as goal

pub returns-then-self-gt0 : goal.returns-then-self-gt0
returns-then-self-gt0 c =
    let p = c.args.self.now in
    let some : 0 < p.col = grind (arith, common_steps) in
    joins-left p c.join_left.new.self c.args.c c.requires some c.join_left.ensures

pub returns-else-self-gt0 : goal.returns-else-self-gt0
returns-else-self-gt0 c =
    let p = c.args.self.now in
    let none : p.col ≤ 0 = grind (arith, common_steps) in
    drops-first p c.args.c c.requires none
