use Rattle.std.proofs.Common.{arith, rules, ◌≡◌}
use Rattle.vt100_cells.specs.Cell.{default_cell}
use Rattle.std.proofs.lemmas.List.{take_rest}
use Rattle.vt100_cells.proofs.ShiftLemmas.{shifts-right}
use Rattle.vt100_cells.proofs.line.shift_right.Goals as goal

pub returns : goal.returns
returns c =
    let blank : c.new.result ≡ default_cell = cc in
    shifts-right c.args.cells.now _ _ _ c.args.i c.args.count _ c.new.result c.requires (omega arith)
    (take_rest c.args.cells.now c.args.i) c.rotate_right.ensures.after
    (c.fill.ensures.after (λ y e. search rules)) blank
