use Rattle.std.proofs.Common.{◌≡◌, ◌&&◌, ◌∙◌}
use Rattle.std.proofs.lemmas.Bool.{and_parts}
use Rattle.vt100_forms.specs.Attrs.{attrs_eq}
use Rattle.vt100_cells.specs.Cell.{bool_eq, text_eq}
use Rattle.vt100_cells.specs.CellFields.{start_eq}
use Rattle.vt100_cells.proofs.CellStarts.{cell_eq-of_start}
use Rattle.vt100_cells.proofs.cell.Cell.has_rest_of.Goals as goal

pub returns : goal.returns
returns c =
    let x = c.args.self.now in
    let y = c.args.other.now in
    let starts : start_eq c.self.inside.text c.other.inside.text ≡ start_eq x.text y.text =
    λ i. start_eq (c.self.view_is i).text (c.other.view_is i).text in
    let views : text_eq c.self.inside.text c.other.inside.text ≡ text_eq x.text y.text =
    λ i. text_eq (c.self.view_is i).text (c.other.view_is i).text in
    λ h. let p = and_parts (attrs_eq x.attrs y.attrs
    && (bool_eq x.wide y.wide && bool_eq x.continuation y.continuation)) (start_eq x.text y.text) h in
    c.has_rest_of.ensures (starts ∙ p.1) ∙ views ∙ cell_eq-of_start x y h
