use Rattle.std.proofs.Common.{arith, ◌≤◌, length, ap, sym, ◌∙◌}
use Rattle.termview.specs.Picture.{PictureView, term_of_picture}
use Rattle.termview.specs.Seen.{text_shown}
use Rattle.termview.proofs.BlankTerms.{none-past}
use Rattle.termview.proofs.WriteLemmas.{text-past}
use Rattle.termview.proofs.picture.Picture.row_cells.Goals as goal

pub returns-in-None : goal.returns-in-None
returns-in-None c =
    let rows = c.self.inside.rows in
    let past : length rows ≤ c.args.row =
    omega (arith, none-past rows c.from.result (sym c.in-None.ensures), c.from.ensures) in
    text-past rows c.args.row c.self.inside.size.cols.value past
    ∙ ap (λ (p : PictureView). text_shown p.size (term_of_picture p) c.args.row) c.self.view_is
