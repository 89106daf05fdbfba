use Rattle.std.proofs.Common.{arith, length}
use Rattle.vt100_rows.specs.Sheet.{turned_up}
use Rattle.vt100_rows.proofs.SheetLemmas.{length-read}
use Rattle.vt100_rows.proofs.MoveLemmas.{moves_up}
use Rattle.vt100_rows.proofs.sheet.Sheet.move_up.Goals as goal

pub reset_between-requires-clause-in_rows : goal.reset_between-requires-clause-in_rows
reset_between-requires-clause-in_rows c =
    let rows = c.args.self.now in
    omega (
      arith,
      c.requires.in_rows,
      length-read (length rows) (turned_up rows c.args.first c.args.end c.args.n) c.turn_up.new.self c.turn_up.ensures,
    )

pub returns : goal.returns
returns c = λ width widths.
    moves_up c.args.self.now c.turn_up.new.self c.reset_between.new.self c.args.first c.args.end c.args.n width
    c.requires.in_part c.requires.in_rows widths c.turn_up.ensures c.reset_between.ensures
