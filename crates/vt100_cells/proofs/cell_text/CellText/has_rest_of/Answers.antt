use Rattle.std.proofs.Common.{◌∙◌, nat_eq, ap, sym, take}
use Rattle.std.proofs.lemmas.Bool.{and_parts}
use Rattle.std.proofs.lemmas.Cmp.{nat_list_eq_equiv}
use Rattle.vt100_cells.specs.Cell.{text_eq}
use Rattle.vt100_cells.proofs.CellTextLemmas.{fits-same, start-fields, rest-same}
use Rattle.vt100_cells.proofs.cell_text.CellText.has_rest_of.Goals as goal

pub returns-then-fits_start : goal.returns-then-fits_start
returns-then-fits_start c h =
    let x = c.args.self.now in
    let same = fits-same c.self.inside c.other.inside x c.args.other.now c.self.invariant c.other.invariant
    c.self.view_is c.other.view_is (sym c.fits_start.ensures ∙ c.if-fits_start.true) h in
    c.if-fits_start.true ∙ sym (ap (text_eq x) (sym same) ∙ nat_list_eq_equiv.refl x)

pub returns-else-fits_start : goal.returns-else-fits_start
returns-else-fits_start c h =
    let t = c.self.inside in
    let u = c.other.inside in
    let x = c.args.self.now in
    let y = c.args.other.now in
    let starts = start-fields t u x y c.self.invariant c.other.invariant c.self.view_is c.other.view_is ∙ h in
    let p = and_parts (nat_eq t.len u.len) (text_eq (take 5 t.bytes) (take 5 u.bytes)) starts in
    c.have_same_rest.ensures p.1
    ∙ rest-same t u x y c.self.invariant c.other.invariant c.self.view_is c.other.view_is h
