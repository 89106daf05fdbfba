use Rattle.std.proofs.Common.{◌≡◌, ◌≤◌, ◌∙◌, ap, arith, subst}
use Rattle.recorded_screen.specs.Film.{TakesShot, slot_start}
use Rattle.recorded_screen.proofs.FilmLemmas.{none_taken, one_row_more, shot_taken}
use Rattle.recorded_screen.proofs.PlacedLemmas.{svg_row_is}
use Rattle.recorded_screen.proofs.films.shoot.Goals as goal

pub loop-row-init : goal.loop-row-init
loop-row-init c = record {
  reel = c.requires.reel;
  taken = none_taken c.args.look.now c.args.screen.now.state c.slot_start-time.result c.args.reel.now;
}

pub loop-row-preserved : goal.loop-row-preserved
loop-row-preserved c =
    let look = c.args.look.now in
    let s = c.args.screen.now.state in
    record {
      reel = c.in_ok-show.ensures.reel;
      taken = one_row_more look s c.slot_start-time.result c.args.reel.now c.loop-row.reel c.show.new.self c.loop-row.row _
          c.loop-row.invariant.taken c.in_ok-show.ensures.shows
          (λ runs row. svg_row_is look s c.loop-row.row c.cells_of-cells.result.now c.cursor_in-cursor.result runs
          c.cells_of-cells.ensures c.cursor_in-cursor.ensures row);
    }

pub show-requires-clause-row : goal.show-requires-clause-row
show-requires-clause-row c =
    let lt = c.loop-row-test.true in
    let end = c.height-row-end.ensures in
    let same = ap (λ z. z.rows.value) c.loop-row.invariant.taken.size in omega arith

pub returns-clause-shot : goal.returns-clause-shot
returns-clause-shot c =
    let past = c.loop-row-test.false in
    let end = c.height-row-end.ensures in
    subst (λ t. TakesShot c.args.look.now c.args.screen.now.state t c.args.reel.now c.loop-row.reel)
    (c.slot_start-time.ensures ∙ ap (slot_start c.args.pace) c.time.ensures)
    (shot_taken c.args.look.now c.args.screen.now.state c.slot_start-time.result c.args.reel.now c.loop-row.reel
    c.loop-row.row (omega arith) c.loop-row.invariant.taken)
