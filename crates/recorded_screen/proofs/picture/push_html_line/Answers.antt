use Rattle.std.proofs.Common.{◌++◌, ◌∷◌, [], subst, true, OnOk}
use Rattle.picture_page.specs.Page.{Adds, escaped}
use Rattle.picture_page.specs.Seen.{Draws}
use Rattle.picture_page.proofs.PageLemmas.{if_both}
use Rattle.picture_page.proofs.SeenLemmas.{if_more_text}
use Rattle.row_pictures.specs.Text.{row_text}
use Rattle.recorded_screen.proofs.PlacedLemmas.{html_line_added}
use Rattle.recorded_screen.proofs.picture.push_html_line.Goals as goal

pub returns-clause-adds : goal.returns-clause-adds
returns-clause-adds c =
    subst (λ cells. OnOk c.end_row.result (Adds c.args.page.now c.end_row.new.self (row_text cells ++ 10 ∷ [])))
    c.cells_of-cells.ensures (if_both _ _ _ _ _ _ c.in_ok-push_html_row.ensures.adds c.end_row.ensures.adds)

pub returns-clause-seen : goal.returns-clause-seen
returns-clause-seen c =
    subst (λ cells. OnOk c.end_row.result (Draws c.args.page.now c.end_row.new.self true true
    (escaped (row_text cells ++ 10 ∷ [])))) c.cells_of-cells.ensures
    (if_more_text _ _ _ _ (row_text c.cells_of-cells.result.now) (10 ∷ []) c.in_ok-push_html_row.ensures.seen
    c.end_row.ensures.bytes)

pub returns-clause-line : goal.returns-clause-line
returns-clause-line c =
    html_line_added _ _ _ _ c.args.look.now c.args.screen.now.state c.args.row c.cells_of-cells.result.now
    c.cursor_in.result c.cells_of-cells.ensures c.cursor_in.ensures c.in_ok-push_html_row.ensures.runs
    c.end_row.ensures.bytes
