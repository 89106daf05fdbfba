use Rattle.std.proofs.Common.{◌≤◌, ◌-◌, arith, length, min}
use Rattle.vt100_rows.proofs.FilledLemmas.{blank-later, paired-prefix, removes-filled, removes-none}
use Rattle.vt100_rows.proofs.row.filled.remove_filled.Goals as goal

pub remove-requires-clause-paired : goal.remove-requires-clause-paired
remove-requires-clause-paired c =
    let xs = c.args.cells.now in
    let later : min c.args.filled (length xs) ≤ c.min-end.result = omega (arith, c.min-end.ensures, c.max.ensures) in
    paired-prefix xs c.min-end.result (blank-later xs c.args.filled c.min-end.result c.requires.blank later)
    c.requires.paired

pub returns-then-s-filled : goal.returns-then-s-filled
returns-then-s-filled c =
    let xs = c.args.cells.now in
    let t = c.min-end.result in
    let later : min c.args.filled (length xs) ≤ t = omega (arith, c.min-end.ensures, c.max.ensures) in
    removes-filled xs c.remove.new.cells c.args.s (c.args.e - c.args.s) t
    (blank-later xs c.args.filled t c.requires.blank later)
    (omega (arith, c.min-end.ensures, c.max.ensures, c.requires.in_row)) (omega (arith, c.min-end.ensures))
    (omega (arith, c.requires.some)) cc

pub returns-else-s-filled : goal.returns-else-s-filled
returns-else-s-filled c =
    removes-none c.args.cells.now c.args.s (c.args.e - c.args.s) c.args.filled c.requires.paired c.requires.blank
    (omega (arith, c.if-s-filled.false))
