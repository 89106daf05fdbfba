use Rattle.std.proofs.Common.{arith, ◌≤◌}
use Rattle.std.proofs.lemmas.Grind.{common_steps}
use Rattle.vt100_cells.proofs.NarrowLemmas.{narrow-printable_is}
use Rattle.termview.proofs.PictureSteps.{prints, read}
use Rattle.termview.proofs.RunSteps.{printable-shown}
use Rattle.termview.proofs.picture.Picture.input_printable.Goals as goal

pub returns : goal.returns
returns c =
    let p = c.args.self.now in
    let q = c.make_room.new.self in
    let r = c.print_printable.new.self in
    let narrow = narrow-printable_is c.args.c c.requires in
    let enough : 1 ≤ p.size.cols = grind (arith, common_steps) in
    read p r c.args.c (printable-shown c.args.c c.requires).1
    (prints p q r c.args.c 1 narrow.1 (omega arith) enough c.make_room.ensures.picture c.print_printable.ensures)
