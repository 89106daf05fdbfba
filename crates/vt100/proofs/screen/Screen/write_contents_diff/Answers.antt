use Rattle.std.proofs.Common.{◌≡◌, ◌++◌, ◌∙◌, ap}
use Rattle.vt100_forms.specs.Form.{HideCursor, bytes_of, change}
use Rattle.screen_drawing.specs.Modes.{switch}
use Rattle.vt100_core.specs.Writers as grid
use Rattle.vt100_core.proofs.WriterLemmas.{appended, begun_rest}
use Rattle.vt100.specs.ScreenFields.{screen_inside}
use Rattle.vt100.proofs.RefusedWrites.{both, cut, on_err, last_refused, then_refused}
use Rattle.vt100.proofs.WriteLemmas.{fits-ok, none-joined}
use Rattle.vt100.proofs.screen.Screen.write_contents_diff.Goals as goal

pub returns-in_err-write_change-clause-refused : goal.returns-in_err-write_change-clause-refused
returns-in_err-write_change-clause-refused c =
    let old = (screen_inside c.prev.inside).state in
    let new = (screen_inside c.self.inside).state in
    let drawn = grid.differing new.shown old.shown old.attrs in
    let hiding = switch HideCursor old.hidden new.hidden in
    rw (← c.self.view_is, ← c.prev.view_is) (on_err c.from_residual.result
    (cut (hiding ++ drawn.forms) (change drawn.pen.attrs new.attrs) c.args.contents.now c.write_change.new.contents
    (cut hiding drawn.forms c.args.contents.now c.write_change.new.contents
    (rw c.new-hiding.ensures at c.in_err-write_change.ensures.refused))))

pub returns-in_err-prev_attrs-clause-refused : goal.returns-in_err-prev_attrs-clause-refused
returns-in_err-prev_attrs-clause-refused c =
    let old = (screen_inside c.prev.inside).state in
    let new = (screen_inside c.self.inside).state in
    let drawn = grid.differing new.shown old.shown old.attrs in
    let hiding = switch HideCursor old.hidden new.hidden in
    rw (← c.self.view_is, ← c.prev.view_is) (on_err c.from_residual-in_err-prev_attrs.result
    (cut (hiding ++ drawn.forms) (change drawn.pen.attrs new.attrs) c.args.contents.now
    c.write_contents_diff.new.contents
    (begun_rest hiding drawn.forms c.args.contents.now c.write_change.new.contents c.write_contents_diff.new.contents
    (appended {fs = hiding} {s = c.args.contents.now} c.write_change.new.contents
    (rw c.new-hiding.ensures at c.in_ok-write_change.ensures.text) c.in_ok-write_change.ensures.capacity)
    (rw c.attrs.ensures at c.in_err-prev_attrs.ensures.text))))

pub returns-clause-refused : goal.returns-clause-refused
returns-clause-refused c =
    let old = (screen_inside c.prev.inside).state in
    let new = (screen_inside c.self.inside).state in
    let drawn = grid.differing new.shown old.shown old.attrs in
    let hiding = switch HideCursor old.hidden new.hidden in
    let placed : c.in_ok-prev_attrs.prev_attrs ≡ drawn.pen.attrs =
    c.in_ok-prev_attrs.ensures.attrs ∙ ap (λ a. (grid.differing new.shown old.shown a).pen.attrs) c.attrs.ensures in
    let last = last_refused c.write_escape_code_diff.result (change drawn.pen.attrs new.attrs)
    c.write_contents_diff.new.contents c.write_escape_code_diff.new.contents
    (rw (← placed) (rw c.attrs-2.ensures at c.write_escape_code_diff.ensures.bytes))
    (rw (← placed) (rw c.attrs-2.ensures at c.write_escape_code_diff.ensures.full)) in
    rw (← c.self.view_is, ← c.prev.view_is)
    (then_refused c.write_escape_code_diff.result (hiding ++ drawn.forms) (change drawn.pen.attrs new.attrs)
    c.args.contents.now c.write_contents_diff.new.contents c.write_escape_code_diff.new.contents
    (both hiding drawn.forms c.args.contents.now c.write_change.new.contents c.write_contents_diff.new.contents
    (appended {fs = hiding} {s = c.args.contents.now} c.write_change.new.contents
    (rw c.new-hiding.ensures at c.in_ok-write_change.ensures.text) c.in_ok-write_change.ensures.capacity)
    (rw c.attrs.ensures at c.in_ok-prev_attrs.ensures.text)) last)

pub returns-clause-empty : goal.returns-clause-empty
returns-clause-empty c =
    let old = (screen_inside c.prev.inside).state in
    let new = (screen_inside c.self.inside).state in
    let drawn = grid.differing new.shown old.shown old.attrs in
    let hiding = switch HideCursor old.hidden new.hidden in
    let placed : c.in_ok-prev_attrs.prev_attrs ≡ drawn.pen.attrs =
    c.in_ok-prev_attrs.ensures.attrs ∙ ap (λ a. (grid.differing new.shown old.shown a).pen.attrs) c.attrs.ensures in
    rw (← c.self.view_is, ← c.prev.view_is) (λ none. fits-ok c.write_escape_code_diff.result
    c.write_contents_diff.new.contents (bytes_of (change drawn.pen.attrs new.attrs))
    (rw (← placed) (rw c.attrs-2.ensures at c.write_escape_code_diff.ensures.full))
    (none-joined (hiding ++ drawn.forms) (change drawn.pen.attrs new.attrs) none).1)
