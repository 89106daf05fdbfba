use Rattle.std.proofs.Common.{arith, refl, [], ◌∙◌, ◌≡◌, true}
use Rattle.std.proofs.lemmas.Grind.{common_steps}
use Rattle.vt100_rows.proofs.SinkLemmas.{TakesAll-list}
use Rattle.vt100_core.specs.Grid.{IsGrid, is_in_region}
use Rattle.vt100_core.specs.Scroll.{rows_past_bottom, fed}
use Rattle.vt100_core.proofs.StayLemmas.{feeds-none, feeds-sunk_none}
use Rattle.vt100_core.proofs.grid.Grid.row_inc_scroll.Goals as goal

pub returns-then-lines-eq0-clause-grid : goal.returns-then-lines-eq0-clause-grid
returns-then-lines-eq0-clause-grid g c =
    let s = c.args.self.now in
    let valid : IsGrid s = rw (← c.self.view_is) c.self.invariant in
    let inside : is_in_region s ≡ true = grind (arith, common_steps) in
    let none : rows_past_bottom s c.args.count ≡ 0 = grind (arith, inside, common_steps) in
    c.row_inc_clamp-2.ensures.grid ∙ feeds-none s c.args.count inside none valid.kept valid.shown

pub returns-then-lines-eq0-clause-sink : goal.returns-then-lines-eq0-clause-sink
returns-then-lines-eq0-clause-sink g c =
    let s = c.args.self.now in
    let valid : IsGrid s = rw (← c.self.view_is) c.self.invariant in
    let inside : is_in_region s ≡ true = grind (arith, common_steps) in
    let none : rows_past_bottom s c.args.count ≡ 0 = grind (arith, inside, common_steps) in
    TakesAll-list g.S.RowSink.takes c.args.sink.now c.args.sink.now [] (fed s c.args.count).sunk
    (feeds-sunk_none s c.args.count inside none valid.kept.fits) refl
