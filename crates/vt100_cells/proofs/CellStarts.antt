-- Cells that are compared in two steps.
use Rattle.std.proofs.Common.{◌≡◌, ◌&&◌, true, false, sym, ap, ◌∙◌, refl, inl, inr}
use Rattle.std.proofs.lemmas.Bool.{and_parts, cases_Bool, false≢true}
use Rattle.std.proofs.lemmas.Cmp.{nat_list_eq_equiv}
use Rattle.vt100_forms.specs.Attrs.{attrs_eq}
use Rattle.vt100_cells.specs.Cell.{CellView, text_eq, bool_eq, cell_eq}
use Rattle.vt100_cells.specs.CellEq.{cell_eq-true}
use Rattle.vt100_cells.specs.CellFields.{start_eq, cell_start_eq}
use Rattle.vt100_cells.proofs.CellTextLemmas.{start_eq-of_same}

-- cells with the same start are the same where their texts are
pub cell_eq-of_start : (x y : CellView) → cell_start_eq x y ≡ true → text_eq x.text y.text ≡ cell_eq x y
cell_eq-of_start x y h =
    let p = and_parts (attrs_eq x.attrs y.attrs && (bool_eq x.wide y.wide && bool_eq x.continuation y.continuation))
    (start_eq x.text y.text) h in
    let q = and_parts (attrs_eq x.attrs y.attrs) (bool_eq x.wide y.wide && bool_eq x.continuation y.continuation) p.0 in
    elim (cases_Bool (text_eq x.text y.text)) [
      | inl same ↦ rw (same, q.0, q.1) refl
      | inr other ↦ rw other refl
    ]

-- cells with the same start and the same text are the same
pub same-of_start : (x y : CellView) → cell_start_eq x y ≡ true → x.text ≡ y.text → x ≡ y
same-of_start x y h e =
    cell_eq-true x y (sym (cell_eq-of_start x y h) ∙ ap (text_eq x.text) (sym e) ∙ nat_list_eq_equiv.refl x.text)

pub text_start-of_start : (x y : CellView) → cell_start_eq x y ≡ true → start_eq x.text y.text ≡ true
text_start-of_start x y h =
    (and_parts (attrs_eq x.attrs y.attrs && (bool_eq x.wide y.wide && bool_eq x.continuation y.continuation))
    (start_eq x.text y.text) h).1

-- the same cells have the same start
start-of_cell_eq : (x y : CellView) → cell_eq x y ≡ true → cell_start_eq x y ≡ true
start-of_cell_eq x y h =
    let p = and_parts (text_eq x.text y.text && (bool_eq x.wide y.wide && bool_eq x.continuation y.continuation))
    (attrs_eq x.attrs y.attrs) h in
    let q = and_parts (text_eq x.text y.text) (bool_eq x.wide y.wide && bool_eq x.continuation y.continuation) p.0 in
    rw (p.1, q.1) (start_eq-of_same x.text y.text q.0)

-- cells with other starts are others
pub cell_eq-other_start : (x y : CellView) → cell_start_eq x y ≡ false → cell_eq x y ≡ false
cell_eq-other_start x y h =
    elim (cases_Bool (cell_eq x y)) [
      | inl same ↦ absurd (false≢true (sym h ∙ start-of_cell_eq x y same))
      | inr other ↦ other
    ]
