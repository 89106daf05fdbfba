use Rattle.std.proofs.Common.{◌≡◌, ◌∙◌, ap, sym, arith, length, min, not, ◌==◌, List, ℕ}
use Rattle.vt100_cells.specs.Cell.{CellView, has_text}
use Rattle.vt100_cells.specs.Cells.{cell_at}
use Rattle.vt100_core.proofs.NewlineLemmas.{row-blank, row-some, some-length}
use Rattle.vt100_core.proofs.grid.contents.shows_text.Goals as goal

pub returns-then-has_contents : goal.returns-then-has_contents
returns-then-has_contents c =
    let v = c.args.row.now in
    let cells = ap (λ (xs : List CellView). length xs) c.cells-cells.ensures in
    let end : c.min-col-end.result ≡ min (length v.cells) c.args.width =
    omega (arith, c.min-col-end.ensures, c.from.ensures, cells) in
    let here = c.at.ensures ∙ ap (λ (xs : List CellView). cell_at xs c.loop-col.col) c.cells-cells.ensures in
    sym (some-length _ (row-some v c.args.width c.loop-col.col c.min-col-end.result end
    (omega (arith, c.loop-col-test.true)) (sym (c.has_contents.ensures ∙ ap has_text here)
    ∙ c.if-has_contents.true)))

pub returns : goal.returns
returns c =
    let v = c.args.row.now in
    let cells = ap (λ (xs : List CellView). length xs) c.cells-cells.ensures in
    let end : c.min-col-end.result ≡ min (length v.cells) c.args.width =
    omega (arith, c.min-col-end.ensures, c.from.ensures, cells) in
    let all : c.loop-col.col ≡ c.min-col-end.result = omega (arith, c.loop-col.auto.col-end, c.loop-col-test.false) in
    sym (ap (λ (cs : List ℕ). not (length cs == 0)) (row-blank v c.args.width c.loop-col.col (all ∙ end)
    c.loop-col.invariant))
