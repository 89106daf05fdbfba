use Rattle.std.proofs.Common.{◌≡◌, ◌∙◌, ap, sym}
use Rattle.vt100_core.specs.Picture.{grid_size}
use Rattle.vt100_cells.specs.Cell.{cell_eq}
use Rattle.screen_model.specs.Shown.{shown_state}
use Rattle.termrelay.specs.Answers.{all_below}
use Rattle.termrelay.proofs.SureLemmas.{row-sure}
use Rattle.termrelay.proofs.shown.is_row_unsure_since.Goals as goal

pub returns-then-has_same_cells : goal.returns-then-has_same_cells
returns-then-has_same_cells c =
    let base = c.args.base.now.state in
    let now = c.args.now.now.state in
    let r = c.args.row in
    let width : now.shown.width ≡ base.shown.width = sym (ap (λ z. z.cols) c.requires.size) in
    sym (row-sure (grid_size now.shown) (shown_state base) (shown_state now) c.requires.sure r c.requires.inside
    (ap (λ n. all_below n (λ k. cell_eq ((shown_state base).cell r k) ((shown_state now).cell r k))) width
    ∙ sym c.has_same_cells.ensures ∙ c.if-has_same_cells.true))
