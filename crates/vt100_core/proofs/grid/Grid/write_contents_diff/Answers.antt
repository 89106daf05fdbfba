use Rattle.std.proofs.Common.{ap, false, true, ◌∙◌}
use Rattle.screen_drawing.specs.Rows.{pen_at}
use Rattle.vt100_core.specs.Grid.{GridView}
use Rattle.vt100_core.specs.Writers.{differing}
use Rattle.vt100_core.proofs.WriterLemmas.{placed-attrs, placed-cursor, placed-rows, refused}
use Rattle.vt100_core.proofs.ShortLists.{grid-short}
use Rattle.vt100_core.proofs.FormLists.{grown-short, appends-local}
use Rattle.vt100_core.proofs.grid.Grid.write_contents_diff.Goals as goal

pub returns-in_err-rows_diff-clause-text : goal.returns-in_err-rows_diff-clause-text
returns-in_err-rows_diff-clause-text c =
    let pen = c.pen_at-pen.ensures ∙ ap (λ (v : GridView). pen_at v.row v.col c.args.prev_attrs) c.prev.view_is in
    refused c.from_residual.result (differing c.args.self.now c.args.prev.now c.args.prev_attrs).forms _ _
    c.from_residual.ensures.0
    (placed-rows c.args.self.now _ _ _ _ pen c.in_err-rows_diff.ensures)

pub returns-in_err-write_cursor_position_formatted-clause-text :
    goal.returns-in_err-write_cursor_position_formatted-clause-text
returns-in_err-write_cursor_position_formatted-clause-text c =
    let pen = c.pen_at-pen.ensures ∙ ap (λ (v : GridView). pen_at v.row v.col c.args.prev_attrs) c.prev.view_is in
    refused c.from_residual-in_err-write_cursor_position_formatted.result
    (differing c.args.self.now c.args.prev.now c.args.prev_attrs).forms _ _
    c.from_residual-in_err-write_cursor_position_formatted.ensures.0
    (placed-cursor c.args.self.now _ _ false _ pen c.in_ok-rows_diff.ensures
    c.in_err-write_cursor_position_formatted.ensures)

pub returns-clause-text : goal.returns-clause-text
returns-clause-text c =
    let pen = c.pen_at-pen.ensures ∙ ap (λ (v : GridView). pen_at v.row v.col c.args.prev_attrs) c.prev.view_is in
    placed-cursor c.args.self.now _ _ true _ pen c.in_ok-rows_diff.ensures
    c.in_ok-write_cursor_position_formatted.ensures

pub returns-clause-attrs : goal.returns-clause-attrs
returns-clause-attrs c =
    let pen = c.pen_at-pen.ensures ∙ ap (λ (v : GridView). pen_at v.row v.col c.args.prev_attrs) c.prev.view_is in
    placed-attrs c.args.self.now _ _ pen c.in_ok-rows_diff.ensures.wrote

pub returns-clause-short : goal.returns-clause-short
returns-clause-short c drawn shown k =
    grown-short c.args.self.now (differing c.args.self.now c.args.prev.now c.args.prev_attrs).forms _ _
    ((grid-short c.args.self.now (rw (← c.self.view_is) c.self.invariant) drawn shown).difference c.args.prev.now
    c.args.prev_attrs k)
    (returns-clause-text c).bytes

pub returns-clause-local : goal.returns-clause-local
returns-clause-local c i o e k = appends-local c.args.self.now _ _ _ _ i o e k (returns-clause-text c).bytes
