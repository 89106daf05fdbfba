use Rattle.std.proofs.Common.{arith, sym, subst, length}
use Rattle.std.proofs.lemmas.Grind.{common_steps}
use Rattle.vt100_rows.specs.Sheet.{IsSheet}
use Rattle.vt100_core.specs.GridFields.{grid_of}
use Rattle.vt100_core.proofs.GridLemmas.{IsGrid-at, IsGrid-rows}
use Rattle.vt100_core.proofs.ResizeLemmas.{IsSheet-height_as, IsGrid-with_width}
use Rattle.vt100_core.proofs.grid.Grid.set_width.Goals as goal

pub resize-requires : goal.resize-requires
resize-requires c =
    let own = c.self.inside in
    let sheet : IsSheet (length own.rows) own.size.cols.value own.rows =
    IsSheet-height_as own.size.rows.value (length own.rows) own.size.cols.value own.rows
    (λ l. sym (c.self.invariant.sheet.count l)) c.self.invariant.sheet in
    record { sheet = subst (λ w. IsSheet (length own.rows) w own.rows) (sym c.cols.ensures) sheet }

pub invariant_of-self : goal.invariant_of-self
invariant_of-self c =
    let own = c.self.inside in
    let rows = c.resize.new.self in
    let count = c.resize.ensures.size in
    let sheet : IsSheet (length own.rows) own.size.cols.value rows =
    subst (λ w. IsSheet (length own.rows) w rows) c.cols.ensures c.in_err-resize.ensures.sheet in
    IsGrid-rows (grid_of own) rows c.self.invariant count
    (IsSheet-height_as (length own.rows) own.size.rows.value own.size.cols.value rows
    (λ l. c.self.invariant.sheet.count (omega (arith, count))) sheet)

pub invariant_of-self-2 : goal.invariant_of-self-2
invariant_of-self-2 c =
    let s = c.args.self.now in
    IsGrid-at (IsGrid-with_width s c.args.cols.value (rw (← c.self.view_is) c.self.invariant)
    (omega (arith, c.get.ensures.nonzero, c.get.ensures.value)) (omega (arith, c.get.ensures.value))
    c.requires.hidden)
    (grind (arith, common_steps))
