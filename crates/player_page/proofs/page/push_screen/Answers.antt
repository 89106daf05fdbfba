use Rattle.std.proofs.Common.{◌≡◌, arith}
use Rattle.player_page.proofs.PlayerLemmas.{all_rows, no_row, row_more}
use Rattle.player_page.proofs.RowsLemmas.{no_rows, one_row, rows_both}
use Rattle.player_page.proofs.page.push_screen.Goals as goal

pub loop-row-init : goal.loop-row-init
loop-row-init c = record {
  rows = no_row c.args.look.now c.args.screen.now.state c.args.page.now;
  text = λ rows cols events are. no_rows rows cols events c.args.page.now;
}

pub loop-row-preserved : goal.loop-row-preserved
loop-row-preserved c = record {
  rows = row_more c.args.look.now c.args.screen.now.state c.loop-row.row c.args.page.now c.loop-row.page _ _
      c.loop-row.invariant.rows c.in_ok-push_row.ensures.bytes c.in_ok-paint.ensures.painted;
  text = λ rows cols events are.
      rows_both rows cols events _ _ _ (c.loop-row.invariant.text rows cols events are)
      (one_row rows cols events _ _ _ (are c.loop-row.row) (c.in_ok-push_row.ensures.adds _ c.in_ok-paint.ensures.text));
}

pub returns-clause-rows : goal.returns-clause-rows
returns-clause-rows c =
    let all : c.loop-row.row ≡ c.args.screen.now.state.shown.height =
    (let end = c.loop-row-test.false in let within = c.loop-row.auto.row-end in let size = c.size.ensures.rows in
    let rows = c.get-row-end.ensures in omega arith) in
    all_rows c.args.look.now c.args.screen.now.state c.loop-row.row c.args.page.now c.loop-row.page all
    c.loop-row.invariant.rows
