use Rattle.std.proofs.Common.{◌≡◌, ◌∙◌, ap, sym}
use Rattle.vt100_forms.specs.declared.attrs.Attrs.{Attrs}
use Rattle.vt100_forms.specs.Attrs.{default_attrs}
use Rattle.vt100_cells.specs.CellEq.{attrs_eq-true}
use Rattle.vt100_core.specs.Erase.{columns_erased}
use Rattle.vt100_core.proofs.grid.Grid.erase_forward.Goals as goal

pub returns-then-is_default-clause-grid : goal.returns-then-is_default-clause-grid
returns-then-is_default-clause-grid c =
    let g = c.args.self.now in
    let is : c.args.attrs.now ≡ default_attrs =
    attrs_eq-true c.args.attrs.now default_attrs (sym c.is_default.ensures ∙ c.if-is_default.true) in
    c.erase_row_forward.ensures.grid ∙ ap (λ (a : Attrs). columns_erased g g.col g.width a) (c.new.ensures ∙ sym is)
