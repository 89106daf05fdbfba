use Rattle.std.proofs.Common.{◌≡◌, ◌∙◌, ◌<◌, inr, refl, sym, ap, arith}
use Rattle.std.proofs.lemmas.List.FromFn.{length-map-range_with_len}
use Rattle.termview.specs.Standing.{view_size, shown_by}
use Rattle.c_objects.specs.Looks.{switch}
use Rattle.c_objects.proofs.cells.copy_view_cells.Goals as goal

pub returns-clause-cells : goal.returns-clause-cells
returns-clause-cells c =
    let v = c.args.view.now in
    let f = (shown_by v).cell c.args.row in
    let in_view : c.args.row < (view_size v).rows = omega (
      arith,
      c.if-row-get.false,
      c.get.ensures.value,
      c.size.ensures.rows,
    ) in
    let cols : c.get-2.result ≡ (view_size v).cols = c.get-2.ensures.value ∙ c.size.ensures.cols in
    let count : c.from.result ≡ (view_size v).cols = c.from.ensures ∙ c.get-3.ensures.value ∙ c.size.ensures.cols in
    inr (
      in_view,
      refl,
      (rw cols at c.copy_view_row.ensures, count ∙ sym (length-map-range_with_len f 0 (view_size v).cols)),
      c.switch.ensures ∙ ap switch c.row_wrapped.ensures,
    )
