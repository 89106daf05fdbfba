use Rattle.std.proofs.Common.{ap, arith, is_ok, replicate, subst, sym, ◌∙◌, ◌-◌, ◌<◌, ◌≤◌}
use Rattle.std.specs.Prelude.{unwrap_or}
use Rattle.vt100_forms.specs.Form.{Lf}
use Rattle.screen_drawing.specs.Cursor.{arriving, is_pen_at, place, wait_behind, wait_on_empty}
use Rattle.vt100_rows.specs.Picture.{lines_of}
use Rattle.vt100_core.specs.Grid.{GridView}
use Rattle.vt100_core.specs.Picture.{grid_size}
use Rattle.vt100_core.specs.Writers.{Appends, cursor_position_formatted}
use Rattle.vt100_core.proofs.WriterLemmas.{appends_as, appends_nothing, appends_rest, cursor-behind, cursor-inside}
use Rattle.vt100_core.proofs.WriterLemmas.{cursor-on_empty}
use Rattle.vt100_core.proofs.WriterLemmas.{cursor-there, refused_prefix}
use Rattle.vt100_core.proofs.grid.Grid.write_cursor_position_formatted.Goals as goal

pub returns-then-self-cols : goal.returns-then-self-cols
returns-then-self-cols c =
    let g = c.args.self.now in
    let width = c.cols.ensures ∙ ap (λ (v : GridView). v.width) c.self.view_is in
    let col = ap (λ (v : GridView). v.col) c.self.view_is in
    let inside : g.col < g.width = omega (arith, width, col) in
    appends_as (arriving c.args.prev_pos c.self.inside.pos) _ _ (is_ok c.arrive.result) _
    (cursor-inside g c.args.prev_pos c.args.prev_attrs inside
    ∙ sym (ap (λ (v : GridView). arriving c.args.prev_pos (place v.row v.col)) c.self.view_is)) c.arrive.ensures

pub returns-then-is_at : goal.returns-then-is_at
returns-then-is_at c =
    let g = c.args.self.now in
    let width = c.cols.ensures ∙ ap (λ (v : GridView). v.width) c.self.view_is in
    let col = ap (λ (v : GridView). v.col) c.self.view_is in
    let past : g.width ≤ g.col = omega (arith, width, col) in
    appends_nothing (cursor_position_formatted g c.args.prev_pos c.args.prev_attrs) _
    (cursor-there g c.args.prev_pos c.args.prev_attrs _ past
    (ap (λ (v : GridView). is_pen_at c.args.prev_pos (place v.row v.col)) (sym c.self.view_is) ∙ sym c.is_at.ensures
    ∙ c.if-is_at.true))

pub returns-in_err-wait_behind-in-Some : goal.returns-in_err-wait_behind-in-Some
returns-in_err-wait_behind-in-Some c =
    let g = c.args.self.now in
    let p = c.args.prev_pos in
    let width = c.cols.ensures ∙ ap (λ (v : GridView). v.width) c.self.view_is in
    let col = ap (λ (v : GridView). v.col) c.self.view_is in
    let past : g.width ≤ g.col = omega (arith, width, col) in
    let off = ap (λ (v : GridView). is_pen_at p (place v.row v.col)) (sym c.self.view_is) ∙ sym c.is_at.ensures
    ∙ c.if-is_at.false in
    let attrs = c.unwrap_or-prev_attrs.ensures ∙ ap (unwrap_or c.args.prev_attrs) c.new.ensures in
    refused_prefix c.from_residual.result
    (wait_behind (grid_size g) (lines_of g.rows) p c.unwrap_or-prev_attrs.result c.in-Some.row)
    (replicate (g.row - c.in-Some.row) Lf) _ _ _ c.from_residual.ensures.0
    (cursor-behind g p c.args.prev_attrs _ attrs past off c.in-Some.row c.in-Some.ensures.value)
    c.in_err-wait_behind-in-Some.ensures

pub returns-in_ok-wait_behind-in-Some : goal.returns-in_ok-wait_behind-in-Some
returns-in_ok-wait_behind-in-Some c =
    let g = c.args.self.now in
    let p = c.args.prev_pos in
    let ok = is_ok c.push_line_feeds.result in
    let width = c.cols.ensures ∙ ap (λ (v : GridView). v.width) c.self.view_is in
    let col = ap (λ (v : GridView). v.col) c.self.view_is in
    let past : g.width ≤ g.col = omega (arith, width, col) in
    let off = ap (λ (v : GridView). is_pen_at p (place v.row v.col)) (sym c.self.view_is) ∙ sym c.is_at.ensures
    ∙ c.if-is_at.false in
    let attrs = c.unwrap_or-prev_attrs.ensures ∙ ap (unwrap_or c.args.prev_attrs) c.new.ensures in
    appends_rest (wait_behind (grid_size g) (lines_of g.rows) p c.unwrap_or-prev_attrs.result c.in-Some.row)
    (replicate (g.row - c.in-Some.row) Lf) _ _ _ ok _
    (cursor-behind g p c.args.prev_attrs _ attrs past off c.in-Some.row c.in-Some.ensures.value)
    c.in_ok-wait_behind-in-Some.ensures
    (subst (λ k. Appends (replicate (k - c.in-Some.row) Lf) c.wait_behind.new.contents ok
    c.push_line_feeds.new.contents) (ap (λ (v : GridView). v.row) c.self.view_is)
    c.push_line_feeds.ensures)

pub returns-in-None : goal.returns-in-None
returns-in-None c =
    let g = c.args.self.now in
    let p = c.args.prev_pos in
    let width = c.cols.ensures ∙ ap (λ (v : GridView). v.width) c.self.view_is in
    let col = ap (λ (v : GridView). v.col) c.self.view_is in
    let past : g.width ≤ g.col = omega (arith, width, col) in
    let off = ap (λ (v : GridView). is_pen_at p (place v.row v.col)) (sym c.self.view_is) ∙ sym c.is_at.ensures
    ∙ c.if-is_at.false in
    let attrs = c.unwrap_or-prev_attrs.ensures ∙ ap (unwrap_or c.args.prev_attrs) c.new.ensures in
    appends_as (wait_on_empty (grid_size g) p c.unwrap_or-prev_attrs.result g.row (lines_of g.rows g.row (g.width - 1)))
    _ _ (is_ok c.wait_on_empty.result) _
    (cursor-on_empty g p c.args.prev_attrs _ attrs past off c.in-None.ensures.value) c.wait_on_empty.ensures
