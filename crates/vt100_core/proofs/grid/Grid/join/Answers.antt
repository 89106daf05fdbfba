use Rattle.std.proofs.Common.{arith, rules, ap, sym, subst, ◌+◌, ◌∙◌}
use Rattle.vt100_core.specs.Grid.{GridView, IsAllocated}
use Rattle.vt100_core.specs.GridFields.{grid_of}
use Rattle.vt100_core.proofs.TextLemmas.{IsGrid-col}
use Rattle.vt100_core.proofs.JoinLemmas.{joins-in-place, joins-ignored, widened-room, joins-widened}
use Rattle.vt100_core.proofs.JoinLemmas.{joins-carried}
use Rattle.vt100_core.proofs.grid.Grid.join.Goals as goal

pub returns-in-InPlace : goal.returns-in-InPlace
returns-in-InPlace g c = joins-in-place _ _ c.join_in_row.ensures.valid c.requires.allocated c.join_in_row.ensures.grid
    g.S.RowSink.takes c.args.sink.now c.in-InPlace.ensures.answer

pub returns-in-Ignored : goal.returns-in-Ignored
returns-in-Ignored g c = joins-ignored _ _ c.join_in_row.ensures.valid c.requires.allocated c.join_in_row.ensures.grid
    g.S.RowSink.takes c.args.sink.now c.in-Ignored.ensures.answer

pub overflow_add-self : goal.overflow_add-self
overflow_add-self g c =
    let room = widened-room _ _ c.join_in_row.ensures.valid c.requires.allocated c.join_in_row.ensures.grid
    c.self.view_is c.in-Widened.ensures.answer in
    omega (arith, room, c.self.invariant.few_cols)

pub invariant_of-self : goal.invariant_of-self
invariant_of-self g c =
    let room = widened-room _ _ c.join_in_row.ensures.valid c.requires.allocated c.join_in_row.ensures.grid
    c.self.view_is c.in-Widened.ensures.answer in
    IsGrid-col (grid_of c.self.inside) (c.self.inside.pos.col + 1) c.self.invariant
    (subst (λ (y : GridView). IsAllocated y) (sym c.self.view_is) c.join_in_row.ensures.allocated)
    (omega (arith, room))

pub returns-in-Widened : goal.returns-in-Widened
returns-in-Widened g c = joins-widened _ _ c.join_in_row.ensures.valid c.requires.allocated
    c.join_in_row.ensures.grid g.S.RowSink.takes c.args.sink.now c.self.view_is c.in-Widened.ensures.answer

pub carry-requires : goal.carry-requires
carry-requires g c =
    let is = joins-carried _ _ c.join_in_row.ensures.valid c.requires.allocated c.join_in_row.ensures.grid _
    c.in-Carried.ensures.answer in
    record {
      allocated = c.join_in_row.ensures.allocated;
      valid = is.valid c.ranges.c.0 c.requires.zero_width;
      text = is.text;
      wide = is.wide;
      fits = is.fits;
    }

pub returns-in-Carried : goal.returns-in-Carried
returns-in-Carried g c =
    let is = joins-carried _ _ c.join_in_row.ensures.valid c.requires.allocated c.join_in_row.ensures.grid _
    c.in-Carried.ensures.answer in
    let count = ap (λ (x : GridView). x.kept.scrolled_off) c.join_in_row.ensures.grid in
    rw (← is.prints) (let carried = c.carry.ensures in record {
      grid = carried.grid;
      sink = carried.sink;
      answer = carried.answer;
      limits = search rules;
      keeps_none = search rules;
      stays = λ z. carried.stays (omega (arith, count, z.0), z.1 ∙ sym count);
      allocated = carried.allocated;
    })
