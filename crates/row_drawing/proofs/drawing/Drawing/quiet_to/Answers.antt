use Rattle.std.proofs.Common.{◌≡◌, length, sym, ◌∙◌, arith}
use Rattle.std.proofs.lemmas.Bool.{eqb-true}
use Rattle.std.proofs.lemmas.List.{get_or_past}
use Rattle.vt100_cells.specs.Cell.{default_cell}
use Rattle.row_drawing.specs.Drawing.{row_change_of}
use Rattle.row_drawing.proofs.KeptRows.{erased_is_quiet, same_is_quiet}
use Rattle.row_drawing.proofs.drawing.Drawing.quiet_to.Goals as goal

pub returns-in-Some-clause-quiet : goal.returns-in-Some-clause-quiet
returns-in-Some-clause-quiet c =
    erased_is_quiet (row_change_of c.args.self.now) c.args.pen.now c.args.from c.alike_to.result c.in-Some.erase
    c.empty.result
    c.in-Some.is c.empty.ensures c.alike_to.ensures.alike

pub returns-in-None-clause-quiet : goal.returns-in-None-clause-quiet
returns-in-None-clause-quiet c =
    same_is_quiet (row_change_of c.args.self.now) c.args.pen.now c.args.from c.same_to.result c.in-None.is
    c.same_to.ensures.same

pub returns-in-None-2-clause-quiet : goal.returns-in-None-2-clause-quiet
returns-in-None-2-clause-quiet c =
    let shown = c.args.self.now.earlier.now in
    let none : length shown ≡ 0 = eqb-true (length shown) 0 (sym c.is_empty.ensures ∙ c.if-is_empty.true) in
    same_is_quiet (row_change_of c.args.self.now) c.args.pen.now c.args.from c.alike_to-in-None-2.result c.in-None.is
    (λ k h l. c.alike_to-in-None-2.ensures.alike k h l ∙ c.new.ensures
    ∙ sym (get_or_past shown k default_cell (omega (arith, none))))
