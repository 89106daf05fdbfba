use Rattle.std.proofs.Common.{ap, false, is_ok, true, ◌∙◌, ◌∷◌, refl, []}
use Rattle.vt100_forms.specs.Form.{ClearAttrs, ClearScreen}
use Rattle.screen_drawing.specs.Rows.{pen_at}
use Rattle.vt100_core.specs.Writers.{contents_formatted, redrawn}
use Rattle.vt100_core.proofs.WriterLemmas.{form_appends, placed-attrs, placed-cursor, placed-rows, refused}
use Rattle.vt100_core.proofs.WriterLemmas.{none_appends}
use Rattle.vt100_core.proofs.ShortLists.{grid-short}
use Rattle.vt100_core.proofs.FormLists.{grown-short}
use Rattle.vt100_core.proofs.grid.Grid.write_contents_formatted.Goals as goal

pub returns-in_err-write_buf-clause-text : goal.returns-in_err-write_buf-clause-text
returns-in_err-write_buf-clause-text c =
    none_appends c.from_residual.result (ClearAttrs ∷ []) (ClearScreen ∷ (redrawn c.args.self.now).forms) _ _ _
    c.from_residual.ensures.0 refl c.in_err-write_buf.ensures.bytes c.in_err-write_buf.ensures.full

pub returns-in_err-write_buf-2-clause-text : goal.returns-in_err-write_buf-2-clause-text
returns-in_err-write_buf-2-clause-text c =
    let fs = (redrawn c.args.self.now).forms in
    let r = c.from_residual-in_err-write_buf-2.result in
    form_appends ClearAttrs (ClearScreen ∷ fs) _ c.write_buf.new.buf (is_ok r) _ c.in_ok-write_buf.ensures.bytes
    c.in_ok-write_buf.ensures.capacity
    (none_appends r (ClearScreen ∷ []) fs _ _ _ c.from_residual-in_err-write_buf-2.ensures.0 refl
    c.in_err-write_buf-2.ensures.bytes c.in_err-write_buf-2.ensures.full)

pub returns-in_err-redraw_rows-clause-text : goal.returns-in_err-redraw_rows-clause-text
returns-in_err-redraw_rows-clause-text c =
    let fs = (redrawn c.args.self.now).forms in
    let ok = is_ok c.from_residual-in_err-redraw_rows.result in
    let pen = c.pen_at-pen.ensures ∙ ap (pen_at 0 0) c.new.ensures in
    form_appends ClearAttrs (ClearScreen ∷ fs) _ c.write_buf.new.buf ok _ c.in_ok-write_buf.ensures.bytes
    c.in_ok-write_buf.ensures.capacity
    (form_appends ClearScreen fs _ c.write_buf-2.new.buf ok _ c.in_ok-write_buf-2.ensures.bytes
    c.in_ok-write_buf-2.ensures.capacity
    (refused c.from_residual-in_err-redraw_rows.result fs _ _
    c.from_residual-in_err-redraw_rows.ensures.0
    (placed-rows c.args.self.now _ _ _ _ pen c.in_err-redraw_rows.ensures)))

pub returns-in_err-write_cursor_position_formatted-clause-text :
    goal.returns-in_err-write_cursor_position_formatted-clause-text
returns-in_err-write_cursor_position_formatted-clause-text c =
    let fs = (redrawn c.args.self.now).forms in
    let ok = is_ok c.from_residual-in_err-write_cursor_position_formatted.result in
    let pen = c.pen_at-pen.ensures ∙ ap (pen_at 0 0) c.new.ensures in
    form_appends ClearAttrs (ClearScreen ∷ fs) _ c.write_buf.new.buf ok _ c.in_ok-write_buf.ensures.bytes
    c.in_ok-write_buf.ensures.capacity
    (form_appends ClearScreen fs _ c.write_buf-2.new.buf ok _ c.in_ok-write_buf-2.ensures.bytes
    c.in_ok-write_buf-2.ensures.capacity
    (refused c.from_residual-in_err-write_cursor_position_formatted.result fs _ _
    c.from_residual-in_err-write_cursor_position_formatted.ensures.0
    (placed-cursor c.args.self.now _ _ false _ pen c.in_ok-redraw_rows.ensures
    c.in_err-write_cursor_position_formatted.ensures)))

pub returns-clause-text : goal.returns-clause-text
returns-clause-text c =
    let fs = (redrawn c.args.self.now).forms in
    let pen = c.pen_at-pen.ensures ∙ ap (pen_at 0 0) c.new.ensures in
    form_appends ClearAttrs (ClearScreen ∷ fs) _ c.write_buf.new.buf true _ c.in_ok-write_buf.ensures.bytes
    c.in_ok-write_buf.ensures.capacity
    (form_appends ClearScreen fs _ c.write_buf-2.new.buf true _ c.in_ok-write_buf-2.ensures.bytes
    c.in_ok-write_buf-2.ensures.capacity
    (placed-cursor c.args.self.now _ _ true _ pen c.in_ok-redraw_rows.ensures
    c.in_ok-write_cursor_position_formatted.ensures))

pub returns-clause-attrs : goal.returns-clause-attrs
returns-clause-attrs c =
    let pen = c.pen_at-pen.ensures ∙ ap (pen_at 0 0) c.new.ensures in
    placed-attrs c.args.self.now _ _ pen c.in_ok-redraw_rows.ensures.wrote

pub returns-clause-short : goal.returns-clause-short
returns-clause-short c drawn shown =
    grown-short c.args.self.now (contents_formatted c.args.self.now) _ _
    (grid-short c.args.self.now (rw (← c.self.view_is) c.self.invariant) drawn shown).contents
    (returns-clause-text c).bytes
