use Rattle.std.proofs.Common.{◌∙◌, ◌≡◌, ap, sym}
use Rattle.vt100_cells.specs.CellFields.{start_eq, fits_start}
use Rattle.vt100_cells.proofs.CellStarts.{same-of_start, text_start-of_start}
use Rattle.vt100_cells.proofs.cell.Cell.has_start_of.Goals as goal

pub returns-clause-whole : goal.returns-clause-whole
returns-clause-whole c =
    let x = c.args.self.now in
    let y = c.args.other.now in
    let starts : start_eq c.self.inside.text c.other.inside.text ≡ start_eq x.text y.text =
    λ i. start_eq (c.self.view_is i).text (c.other.view_is i).text in
    λ h s. same-of_start x y h (ap (λ v. v.text) (sym c.self.view_is)
    ∙ c.has_start_of.ensures.whole (starts ∙ text_start-of_start x y h) (ap (λ v. fits_start v.text) c.self.view_is ∙ s)
    ∙ ap (λ v. v.text) c.other.view_is)
