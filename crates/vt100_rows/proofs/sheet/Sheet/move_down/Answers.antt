use Rattle.std.proofs.Common.{arith, length, ◌+◌, ◌-◌, ◌∙◌}
use Rattle.vt100_rows.specs.Row.{blank_row}
use Rattle.vt100_rows.specs.Sheet.{turned_up, changed_between}
use Rattle.vt100_rows.proofs.SheetLemmas.{length-read}
use Rattle.vt100_rows.proofs.MoveLemmas.{moves_down}
use Rattle.vt100_rows.proofs.sheet.Sheet.move_down.Goals as goal

pub reset_between-requires-clause-in_rows : goal.reset_between-requires-clause-in_rows
reset_between-requires-clause-in_rows c =
    let rows = c.args.self.now in
    omega (
      arith,
      c.requires.in_part,
      c.requires.in_rows,
      length-read (length rows) (turned_up rows c.args.first c.args.end (c.args.end - c.args.first - c.args.n))
          c.turn_up.new.self c.turn_up.ensures,
    )

pub returns-clause-size : goal.returns-clause-size
returns-clause-size c =
    let rows = c.args.self.now in
    let turned = c.turn_up.new.self in
    length-read (length turned) (changed_between (λ v. blank_row (length v.cells)) turned c.args.first
    (c.args.first + c.args.n)) c.reset_between.new.self c.reset_between.ensures
    ∙ length-read (length rows) (turned_up rows c.args.first c.args.end (c.args.end - c.args.first - c.args.n)) turned
    c.turn_up.ensures

pub returns-clause-rows : goal.returns-clause-rows
returns-clause-rows c = λ width widths.
    moves_down c.args.self.now c.turn_up.new.self c.reset_between.new.self c.args.first c.args.end c.args.n width
    c.requires.in_part c.requires.in_rows widths c.turn_up.ensures c.reset_between.ensures
