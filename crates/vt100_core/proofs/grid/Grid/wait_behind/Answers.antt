use Rattle.std.proofs.Common.{ap, is_ok, refl, sym, ◌∙◌}
use Rattle.screen_drawing.specs.Cursor.{arriving, end_cell, place, printed_with, wait_behind}
use Rattle.vt100_rows.specs.Picture.{lines_of}
use Rattle.vt100_core.specs.Grid.{GridView}
use Rattle.vt100_core.specs.Picture.{grid_size}
use Rattle.vt100_core.proofs.WriterLemmas.{appends_rest, refused_prefix, wait_behind-none, wait_behind-some}
use Rattle.vt100_core.proofs.WriterLemmas.{appends_nothing}
use Rattle.vt100_core.proofs.grid.Grid.wait_behind.Goals as goal

pub returns-then-is_at : goal.returns-then-is_at
returns-then-is_at c =
    appends_nothing (wait_behind (grid_size c.args.self.now) (lines_of c.args.self.now.rows) c.args.prev_pos
    c.args.attrs c.args.row) _ (wait_behind-none (grid_size c.args.self.now) (lines_of c.args.self.now.rows) _ _ _ _ _
    (c.cols.ensures ∙ ap (λ (x : GridView). x.width) c.self.view_is) (sym c.is_at.ensures ∙ c.if-is_at.true))

pub returns-in_err-arrive : goal.returns-in_err-arrive
returns-in_err-arrive c =
    let x = end_cell (grid_size c.args.self.now) (lines_of c.args.self.now.rows) c.args.row in
    refused_prefix c.from_residual.result (arriving c.args.prev_pos (place c.args.row c.last_col.result))
    (printed_with c.args.attrs x) _ _ _ c.from_residual.ensures.0
    (wait_behind-some (grid_size c.args.self.now) (lines_of c.args.self.now.rows) c.args.prev_pos c.args.attrs
    c.args.row _ _ _ (c.cols.ensures ∙ ap (λ (x : GridView). x.width) c.self.view_is)
    (sym c.is_at.ensures ∙ c.if-is_at.false) c.last_col.ensures.value refl) c.in_err-arrive.ensures

pub returns : goal.returns
returns c =
    appends_rest (arriving c.args.prev_pos (place c.args.row c.last_col.result))
    (printed_with c.args.attrs c.last_cell.result.now) _ _ _ (is_ok c.print_with.result) _
    (wait_behind-some (grid_size c.args.self.now) (lines_of c.args.self.now.rows) c.args.prev_pos c.args.attrs
    c.args.row _ _ _ (c.cols.ensures ∙ ap (λ (x : GridView). x.width) c.self.view_is)
    (sym c.is_at.ensures ∙ c.if-is_at.false) c.last_col.ensures.value c.last_cell.ensures)
    c.in_ok-arrive.ensures c.print_with.ensures
