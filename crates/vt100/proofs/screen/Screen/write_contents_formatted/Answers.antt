use Rattle.std.proofs.Common.{◌≡◌, ◌++◌, ◌∷◌, []}
use Rattle.vt100_forms.specs.Form.{change}
use Rattle.vt100_core.specs.Writers as grid
use Rattle.vt100_core.proofs.WriterLemmas.{appended}
use Rattle.vt100.specs.ScreenFields.{screen_inside}
use Rattle.vt100.proofs.RefusedWrites.{cut, on_err, first_refused, rest_refused, last_refused, then_refused}
use Rattle.vt100.proofs.screen.Screen.write_contents_formatted.Goals as goal

pub returns-in_err-write_buf-clause-refused : goal.returns-in_err-write_buf-clause-refused
returns-in_err-write_buf-clause-refused c =
    let s = (screen_inside c.self.inside).state in
    let drawn = grid.redrawn s.shown in
    rw (← c.self.view_is) (on_err c.from_residual.result (rw c.new.ensures at (first_refused c.new.result
    (grid.contents_formatted s.shown ++ change drawn.pen.attrs s.attrs) c.args.contents.now c.write_buf.new.buf
    c.in_err-write_buf.ensures.bytes
    c.in_err-write_buf.ensures.full)))

pub returns-in_err-prev_attrs-clause-refused : goal.returns-in_err-prev_attrs-clause-refused
returns-in_err-prev_attrs-clause-refused c =
    let s = (screen_inside c.self.inside).state in
    let drawn = grid.redrawn s.shown in
    rw (← c.self.view_is) (on_err c.from_residual-in_err-prev_attrs.result (rw c.new.ensures at
    (rest_refused c.new.result (grid.contents_formatted s.shown ++ change drawn.pen.attrs s.attrs) c.args.contents.now
    c.write_buf.new.buf c.write_contents_formatted.new.contents c.in_ok-write_buf.ensures.bytes
    c.in_ok-write_buf.ensures.capacity
    (cut (grid.contents_formatted s.shown) (change drawn.pen.attrs s.attrs) c.write_buf.new.buf
    c.write_contents_formatted.new.contents c.in_err-prev_attrs.ensures.text))))

pub returns-clause-refused : goal.returns-clause-refused
returns-clause-refused c =
    let s = (screen_inside c.self.inside).state in
    let drawn = grid.redrawn s.shown in
    let last = last_refused c.write_escape_code_diff.result (change drawn.pen.attrs s.attrs)
    c.write_contents_formatted.new.contents c.write_escape_code_diff.new.contents
    (rw (← c.in_ok-prev_attrs.ensures.attrs) (rw c.attrs.ensures at c.write_escape_code_diff.ensures.bytes))
    (rw (← c.in_ok-prev_attrs.ensures.attrs) (rw c.attrs.ensures at c.write_escape_code_diff.ensures.full)) in
    rw (← c.self.view_is) (rw c.new.ensures at
    (then_refused c.write_escape_code_diff.result (c.new.result ∷ [])
    (grid.contents_formatted s.shown ++ change drawn.pen.attrs s.attrs) c.args.contents.now c.write_buf.new.buf
    c.write_escape_code_diff.new.contents
    (appended c.write_buf.new.buf c.in_ok-write_buf.ensures.bytes c.in_ok-write_buf.ensures.capacity)
    (then_refused c.write_escape_code_diff.result (grid.contents_formatted s.shown) (change drawn.pen.attrs s.attrs)
    c.write_buf.new.buf c.write_contents_formatted.new.contents c.write_escape_code_diff.new.contents
    c.in_ok-prev_attrs.ensures.text last)))
