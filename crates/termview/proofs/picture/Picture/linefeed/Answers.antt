use Rattle.std.proofs.Common.{arith, refl, sym, ◌+◌, ◌<◌}
use Rattle.std.proofs.lemmas.Grind.{common_steps}
use Rattle.termview.proofs.RowTerms.{down-stays}
use Rattle.termview.specs.Picture.{term_of_picture}
use Rattle.termview.proofs.KeptPictures.{Becomes-at}
use Rattle.termview.proofs.picture.Picture.linefeed.Goals as goal

pub returns-then-self-rows : goal.returns-then-self-rows
returns-then-self-rows c =
    let p = c.args.self.now in
    let more : p.row + 1 < p.size.rows = grind (arith, common_steps) in
    Becomes-at p _ (record p { row = p.row + 1 }) _ (grind (arith, common_steps))
    (record { size = refl; shows = sym (down-stays p.size (term_of_picture p) more) })
