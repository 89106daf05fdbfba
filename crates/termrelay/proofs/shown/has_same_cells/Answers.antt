use Rattle.std.proofs.Common.{◌≡◌, ◌∙◌, length, ap, sym, arith}
use Rattle.vt100_cells.specs.Cells.{cell_at, AreSame}
use Rattle.screen_model.specs.Shown.{shown_state}
use Rattle.termrelay.proofs.RowLemmas.{rows-alike}
use Rattle.termrelay.proofs.shown.has_same_cells.Goals as goal

pub are_same-requires-clause-blank : goal.are_same-requires-clause-blank
are_same-requires-clause-blank c k le lt =
    let wide : c.args.other.now.state.shown.width ≡ c.args.screen.now.state.shown.width =
    sym (ap (λ z. z.cols) c.requires.size) in
    c.cells_of-cells.ensures.cells k (omega arith) (omega (arith, lt, c.cells_of-cells.ensures.count))
    ∙ c.filled_cols-filled.ensures k (omega (arith, le, c.max.ensures))
    ∙ sym (c.cells_of-others.ensures.cells k (omega arith) (omega (arith, lt, wide, c.cells_of-cells.ensures.count))
    ∙ c.filled_cols-other_filled.ensures k (omega (arith, le, c.max.ensures)))

pub returns : goal.returns
returns c =
    let s = c.args.screen.now.state in
    let t = c.args.other.now.state in
    let r = c.args.row in
    let width : t.shown.width ≡ s.shown.width = sym (ap (λ z. z.cols) c.requires.size) in
    let others : AreSame (cell_at c.cells_of-others.result.now) ((shown_state t).cell r) 0 s.shown.width =
    λ k low lt. c.cells_of-others.ensures.cells k low (omega (arith, lt, width)) in
    c.are_same.ensures
    ∙ rows-alike (length c.cells_of-cells.result.now) s.shown.width (cell_at c.cells_of-cells.result.now)
    (cell_at c.cells_of-others.result.now) ((shown_state s).cell r) ((shown_state t).cell r)
    c.cells_of-cells.ensures.count c.cells_of-cells.ensures.cells others
