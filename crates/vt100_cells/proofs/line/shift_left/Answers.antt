use Rattle.std.proofs.Common.{arith, rules, ◌≡◌}
use Rattle.vt100_cells.specs.Cell.{default_cell}
use Rattle.std.proofs.lemmas.List.{take_rest}
use Rattle.vt100_cells.proofs.ShiftLemmas.{moves-left}
use Rattle.vt100_cells.proofs.line.shift_left.Goals as goal

pub returns : goal.returns
returns c =
    let blank : c.new.result ≡ default_cell = cc in
    moves-left c.args.cells.now _ _ _ c.args.s c.args.n _ c.new.result c.requires (omega arith)
    (c.fill.ensures.after (λ y e. search rules)) blank
    (take_rest _ c.args.s) c.rotate_left.ensures.after
