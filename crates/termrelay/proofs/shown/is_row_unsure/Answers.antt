use Rattle.std.proofs.Common.{◌≡◌, ◌∙◌, ◌≤◌, ap, arith, length, take}
use Rattle.std.proofs.lemmas.List.{get_or-take, length-take-le}
use Rattle.vt100_cells.specs.Cell.{default_cell}
use Rattle.vt100_cells.specs.Cells.{cell_at}
use Rattle.screen_model.specs.Shown.{shown_state}
use Rattle.termrelay.specs.Frame.{any_below, asks_for_emoji}
use Rattle.termrelay.proofs.BelowLemmas.{any-alike, any-behind}
use Rattle.termrelay.proofs.shown.is_row_unsure.Goals as goal

pub returns : goal.returns
returns c =
    let width = c.args.screen.now.state.shown.width in
    let shown = (shown_state c.args.screen.now.state).cell c.args.row in
    let cells = c.cells_of-cells.result.now in
    let n = c.min-filled.result in
    let wide = c.cells_of-cells.ensures.count in
    let short : n ≤ width = omega (arith, c.min-filled.ensures, wide) in
    let count : length (take n cells) ≡ n = length-take-le n cells (omega (arith, short, wide)) in
    c.one_asks_for_emoji.ensures
    ∙ ap (λ m. any_below m (λ k. asks_for_emoji (cell_at (take n cells) k))) count
    ∙ any-alike n (λ k. asks_for_emoji (cell_at (take n cells) k)) (λ k. asks_for_emoji (shown k))
    (λ k lt. ap asks_for_emoji (get_or-take n cells k default_cell lt
    ∙ c.cells_of-cells.ensures.cells k (omega arith) (omega (arith, lt, short))))
    ∙ any-behind n width (λ k. asks_for_emoji (shown k)) short
    (λ k le lt. ap asks_for_emoji (c.filled_cols.ensures k
    (omega (arith, le, lt, wide, c.min-filled.ensures))))
