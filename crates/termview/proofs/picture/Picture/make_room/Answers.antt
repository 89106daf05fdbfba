use Rattle.std.proofs.Common.{arith, ◌+◌, ◌<◌, ◌≤◌}
use Rattle.std.proofs.lemmas.Grind.{common_steps}
use Rattle.termview.proofs.PictureSteps.{room-there, room-made}
use Rattle.termview.proofs.picture.Picture.make_room.Goals as goal

pub returns-then-self-cols-clause-picture : goal.returns-then-self-cols-clause-picture
returns-then-self-cols-clause-picture c =
    let p = c.args.self.now in
    let less : p.size.cols < p.col + c.args.columns = grind (arith, common_steps) in
    room-made p c.wrap.new.self c.args.columns less c.wrap.ensures.picture

pub returns-else-self-cols-clause-picture : goal.returns-else-self-cols-clause-picture
returns-else-self-cols-clause-picture c =
    let p = c.args.self.now in
    let more : p.col + c.args.columns ≤ p.size.cols = grind (arith, common_steps) in
    room-there p c.args.columns more
