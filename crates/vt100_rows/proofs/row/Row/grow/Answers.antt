use Rattle.std.proofs.Common.{arith, ap, ◌∙◌, ◌-◌, ◌<◌, ◌++◌, length, take, replicate, false}
use Rattle.std.specs.Prelude.{vec_len}
use Rattle.vt100_rows.specs.Row.{RowView, grown}
use Rattle.vt100_rows.proofs.RowLemmas.{IsRow-grown, grown-is, grows}
use Rattle.vt100_rows.proofs.BlankLemmas.{fields-any}
use Rattle.vt100_rows.proofs.row.Row.grow.Goals as goal

pub returns-in_ok-resize-clause-ok : goal.returns-in_ok-resize-clause-ok
returns-in_ok-resize-clause-ok c =
    let xs = c.self.inside.cells.items in
    let x = c.args.cell in
    let shorter : length xs < c.args.len = omega (arith, c.self.inside.cells.ok.0) in
    let cells = c.in_ok-resize.ensures.items ∙ ap (λ ys. take c.from-len.result ys
    ++ replicate (c.from-len.result - vec_len c.reserve_exact.new.self) x) c.reserve_exact.ensures.items
    ∙ ap (λ n. take c.from-len.result xs ++ replicate (c.from-len.result - n) x) (c.reserve_exact.ensures.len
    ∙ c.self.inside.cells.ok.0)
    ∙ ap (λ n. take n xs ++ replicate (n - length xs) x) c.from-len.ensures ∙ grows xs c.args.len x shorter in
    (λ i. record { cells = cells i; wrapped = false })
    ∙ grown-is (record { cells = xs; wrapped = c.self.inside.wrapped }) c.args.len x shorter
    ∙ ap (λ (v : RowView). grown v c.args.len x) c.self.view_is

pub invariant_of-self-then-len : goal.invariant_of-self-then-len
invariant_of-self-then-len c =
    fields-any _ _ (grown c.args.self.now c.args.len c.args.cell) (returns-in_ok-resize-clause-ok c)
    (IsRow-grown c.args.self.now c.args.len c.args.cell (rw (← c.self.view_is) c.self.invariant.row)
    c.is_wide.ensures.valid c.requires.narrow c.requires.whole (omega arith))
