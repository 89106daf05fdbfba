use Rattle.std.proofs.Common.{arith, ◌<◌, ◌≤◌}
use Rattle.std.proofs.lemmas.Grind.{common_steps}
use Rattle.termview.proofs.PictureSteps.{prints, drops-wide}
use Rattle.termview.proofs.picture.Picture.print.Goals as goal

pub returns-then-columns-cols : goal.returns-then-columns-cols
returns-then-columns-cols c =
    let p = c.args.self.now in
    let fits : c.args.columns ≤ p.size.cols = grind (arith, common_steps) in
    prints p c.make_room.new.self c.print_spacing.new.self c.args.c c.args.columns c.requires.drawn c.requires.spacing
    fits
    c.make_room.ensures.picture c.print_spacing.ensures

pub returns-else-columns-cols : goal.returns-else-columns-cols
returns-else-columns-cols c =
    let p = c.args.self.now in
    let wide : p.size.cols < c.args.columns = grind (arith, common_steps) in
    drops-wide p c.args.c c.args.columns c.requires.drawn wide
