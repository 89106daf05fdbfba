use Rattle.std.proofs.Common.{◌≤◌, length, ap, sym, ◌∙◌, arith}
use Rattle.vt100_rows.proofs.PictureLemmas.{wraps-past}
use Rattle.termview.specs.Picture.{PictureView}
use Rattle.vt100_rows.specs.Picture.{wraps_of}
use Rattle.termview.proofs.BlankTerms.{none-past}
use Rattle.termview.proofs.picture.Picture.row_wrapped.Goals as goal

pub returns-in-None : goal.returns-in-None
returns-in-None c =
    let rows = c.self.inside.rows in
    let past : length rows ≤ c.args.row =
    omega (arith, none-past rows c.from.result (sym c.in-None.ensures), c.from.ensures) in
    sym (ap (λ (p : PictureView). wraps_of p.rows c.args.row) (sym c.self.view_is) ∙ wraps-past rows c.args.row past)
