use Rattle.std.proofs.Common.{◌≡◌, [], ◌∷◌, subst, sym}
use Rattle.std.proofs.lemmas.Bool.{false≢true}
use Rattle.vt100_forms.specs.Form.{bytes_of}
use Rattle.screen_drawing.specs.Modes.{input_mode_diff}
use Rattle.screen_model.specs.Shown.{shown_state}
use Rattle.vt100.specs.ScreenFields.{screen_inside}
use Rattle.vt100_core.proofs.WriterLemmas.{appended}
use Rattle.vt100.proofs.RefusedWrites.{on_err, first_refused, rest_refused, last_refused, then_refused}
use Rattle.vt100.proofs.RefusedWrites.{keypad, cursor_keys, paste}
use Rattle.vt100.proofs.RefusedWrites.{keypad-refused, cursor_keys-refused, paste-refused, others-refused}
use Rattle.vt100.proofs.RefusedWrites.{encoding_change, style_change}
use Rattle.vt100.proofs.WriteLemmas.{fits-ok, no-changes, six_written, some-full, where_changed}
use Rattle.vt100.proofs.screen.Screen.write_input_mode_diff.Goals as goal

pub returns-clause-text : goal.returns-clause-text
unfolding input_mode_diff
returns-clause-text c =
    let x = (screen_inside c.prev.inside).state.modes in
    let y = (screen_inside c.self.inside).state.modes in
    rw (← c.self.view_is, ← c.prev.view_is) (rw (
      c.new-keypad.ensures,
      c.new-cursor_keys.ensures,
      c.new-paste.ensures,
      c.new.ensures,
      c.new-2.ensures,
      c.new-3.ensures,
    ) at (six_written c.write_buf-3.result
    (where_changed x.keypad y.keypad c.new-keypad.result)
    (where_changed x.cursor_keys y.cursor_keys c.new-cursor_keys.result)
    (where_changed x.paste y.paste c.new-paste.result) (c.new.result ∷ []) (c.new-2.result ∷ []) (c.new-3.result ∷ [])
    _ _ _ _ _ _ _ c.in_ok-write_change.ensures.text c.in_ok-write_change-2.ensures.text
    c.in_ok-write_change-3.ensures.text
    c.in_ok-write_buf.ensures.bytes c.in_ok-write_buf-2.ensures.bytes c.write_buf-3.ensures.bytes))

pub returns-in_err-write_change-clause-empty : goal.returns-in_err-write_change-clause-empty
returns-in_err-write_change-clause-empty c =
    let x = (screen_inside c.prev.inside).state in
    let y = (screen_inside c.self.inside).state in
    rw (← c.self.view_is, ← c.prev.view_is) (λ none. absurd (false≢true (c.in_err-write_change.ensures.empty
    (subst (λ f. bytes_of (where_changed x.modes.keypad y.modes.keypad f) ≡ []) (sym c.new-keypad.ensures)
    (no-changes (shown_state x) (shown_state y) none).keypad))))

pub returns-in_err-write_change-2-clause-empty : goal.returns-in_err-write_change-2-clause-empty
returns-in_err-write_change-2-clause-empty c =
    let x = (screen_inside c.prev.inside).state in
    let y = (screen_inside c.self.inside).state in
    rw (← c.self.view_is, ← c.prev.view_is) (λ none. absurd (false≢true (c.in_err-write_change-2.ensures.empty
    (subst (λ f. bytes_of (where_changed x.modes.cursor_keys y.modes.cursor_keys f) ≡ [])
    (sym c.new-cursor_keys.ensures)
    (no-changes (shown_state x) (shown_state y) none).cursor_keys))))

pub returns-in_err-write_change-3-clause-empty : goal.returns-in_err-write_change-3-clause-empty
returns-in_err-write_change-3-clause-empty c =
    let x = (screen_inside c.prev.inside).state in
    let y = (screen_inside c.self.inside).state in
    rw (← c.self.view_is, ← c.prev.view_is) (λ none. absurd (false≢true (c.in_err-write_change-3.ensures.empty
    (subst (λ f. bytes_of (where_changed x.modes.paste y.modes.paste f) ≡ []) (sym c.new-paste.ensures)
    (no-changes (shown_state x) (shown_state y) none).paste))))

pub returns-in_err-write_buf-clause-empty : goal.returns-in_err-write_buf-clause-empty
returns-in_err-write_buf-clause-empty c =
    let x = (screen_inside c.prev.inside).state in
    let y = (screen_inside c.self.inside).state in
    rw (← c.self.view_is, ← c.prev.view_is) (λ none. absurd (some-full c.write_change-3.new.contents
    (bytes_of (c.new.result ∷ []))
    c.in_err-write_buf.ensures.full (subst (λ f. bytes_of (f ∷ []) ≡ []) (sym c.new.ensures)
    (no-changes (shown_state x) (shown_state y) none).mouse)))

pub returns-in_err-write_buf-2-clause-empty : goal.returns-in_err-write_buf-2-clause-empty
returns-in_err-write_buf-2-clause-empty c =
    let x = (screen_inside c.prev.inside).state in
    let y = (screen_inside c.self.inside).state in
    rw (← c.self.view_is, ← c.prev.view_is)
    (λ none. absurd (some-full c.write_buf.new.buf (bytes_of (c.new-2.result ∷ []))
    c.in_err-write_buf-2.ensures.full (subst (λ f. bytes_of (f ∷ []) ≡ []) (sym c.new-2.ensures)
    (no-changes (shown_state x) (shown_state y) none).encoding)))

pub returns-clause-empty : goal.returns-clause-empty
returns-clause-empty c =
    let x = (screen_inside c.prev.inside).state in
    let y = (screen_inside c.self.inside).state in
    rw (← c.self.view_is, ← c.prev.view_is) (λ none. fits-ok c.write_buf-3.result c.write_buf-2.new.buf
    (bytes_of (c.new-3.result ∷ []))
    c.write_buf-3.ensures.full (subst (λ f. bytes_of (f ∷ []) ≡ []) (sym c.new-3.ensures)
    (no-changes (shown_state x) (shown_state y) none).style))

pub returns-in_err-write_change-clause-refused : goal.returns-in_err-write_change-clause-refused
returns-in_err-write_change-clause-refused c =
    let x = shown_state (screen_inside c.prev.inside).state in
    let y = shown_state (screen_inside c.self.inside).state in
    rw (← c.self.view_is, ← c.prev.view_is) (on_err c.from_residual.result (keypad-refused x y c.args.contents.now
    c.write_change.new.contents
    (rw c.new-keypad.ensures at c.in_err-write_change.ensures.refused)))

pub returns-in_err-write_change-2-clause-refused : goal.returns-in_err-write_change-2-clause-refused
returns-in_err-write_change-2-clause-refused c =
    let x = shown_state (screen_inside c.prev.inside).state in
    let y = shown_state (screen_inside c.self.inside).state in
    rw (← c.self.view_is, ← c.prev.view_is) (on_err c.from_residual-in_err-write_change-2.result
    (cursor_keys-refused x y c.args.contents.now c.write_change.new.contents c.write_change-2.new.contents
    (appended {fs = keypad x y} {s = c.args.contents.now} c.write_change.new.contents
    (rw c.new-keypad.ensures at c.in_ok-write_change.ensures.text) c.in_ok-write_change.ensures.capacity)
    (rw c.new-cursor_keys.ensures at c.in_err-write_change-2.ensures.refused)))

pub returns-in_err-write_change-3-clause-refused : goal.returns-in_err-write_change-3-clause-refused
returns-in_err-write_change-3-clause-refused c =
    let x = shown_state (screen_inside c.prev.inside).state in
    let y = shown_state (screen_inside c.self.inside).state in
    rw (← c.self.view_is, ← c.prev.view_is) (on_err c.from_residual-in_err-write_change-3.result (paste-refused x y
    c.args.contents.now c.write_change.new.contents c.write_change-2.new.contents c.write_change-3.new.contents
    (appended {fs = keypad x y} {s = c.args.contents.now} c.write_change.new.contents
    (rw c.new-keypad.ensures at c.in_ok-write_change.ensures.text) c.in_ok-write_change.ensures.capacity) (appended
    {fs = cursor_keys x y} {s = c.write_change.new.contents} c.write_change-2.new.contents
    (rw c.new-cursor_keys.ensures at c.in_ok-write_change-2.ensures.text) c.in_ok-write_change-2.ensures.capacity)
    (rw c.new-paste.ensures at c.in_err-write_change-3.ensures.refused)))

pub returns-in_err-write_buf-clause-refused : goal.returns-in_err-write_buf-clause-refused
returns-in_err-write_buf-clause-refused c =
    let x = shown_state (screen_inside c.prev.inside).state in
    let y = shown_state (screen_inside c.self.inside).state in
    rw (← c.self.view_is, ← c.prev.view_is) (others-refused x y c.args.contents.now
    c.from_residual-in_err-write_buf.result
    c.write_change.new.contents c.write_change-2.new.contents c.write_change-3.new.contents c.write_buf.new.buf
    (appended {fs = keypad x y} {s = c.args.contents.now} c.write_change.new.contents
    (rw c.new-keypad.ensures at c.in_ok-write_change.ensures.text) c.in_ok-write_change.ensures.capacity) (appended
    {fs = cursor_keys x y} {s = c.write_change.new.contents} c.write_change-2.new.contents
    (rw c.new-cursor_keys.ensures at c.in_ok-write_change-2.ensures.text) c.in_ok-write_change-2.ensures.capacity)
    (appended {fs = paste x y} {s = c.write_change-2.new.contents} c.write_change-3.new.contents
    (rw c.new-paste.ensures at c.in_ok-write_change-3.ensures.text) c.in_ok-write_change-3.ensures.capacity)
    (on_err c.from_residual-in_err-write_buf.result (rw c.new.ensures at (first_refused c.new.result
    (encoding_change x y) c.write_change-3.new.contents c.write_buf.new.buf c.in_err-write_buf.ensures.bytes
    c.in_err-write_buf.ensures.full))))

pub returns-in_err-write_buf-2-clause-refused : goal.returns-in_err-write_buf-2-clause-refused
returns-in_err-write_buf-2-clause-refused c =
    let x = shown_state (screen_inside c.prev.inside).state in
    let y = shown_state (screen_inside c.self.inside).state in
    rw (← c.self.view_is, ← c.prev.view_is) (others-refused x y c.args.contents.now
    c.from_residual-in_err-write_buf-2.result
    c.write_change.new.contents c.write_change-2.new.contents c.write_change-3.new.contents c.write_buf-2.new.buf
    (appended {fs = keypad x y} {s = c.args.contents.now} c.write_change.new.contents
    (rw c.new-keypad.ensures at c.in_ok-write_change.ensures.text) c.in_ok-write_change.ensures.capacity) (appended
    {fs = cursor_keys x y} {s = c.write_change.new.contents} c.write_change-2.new.contents
    (rw c.new-cursor_keys.ensures at c.in_ok-write_change-2.ensures.text) c.in_ok-write_change-2.ensures.capacity)
    (appended {fs = paste x y} {s = c.write_change-2.new.contents} c.write_change-3.new.contents
    (rw c.new-paste.ensures at c.in_ok-write_change-3.ensures.text) c.in_ok-write_change-3.ensures.capacity)
    (on_err c.from_residual-in_err-write_buf-2.result (rw (c.new.ensures, c.new-2.ensures) at (rest_refused
    c.new.result (c.new-2.result ∷ style_change x y) c.write_change-3.new.contents c.write_buf.new.buf
    c.write_buf-2.new.buf c.in_ok-write_buf.ensures.bytes
    c.in_ok-write_buf.ensures.capacity (first_refused c.new-2.result (style_change x y) c.write_buf.new.buf
    c.write_buf-2.new.buf c.in_err-write_buf-2.ensures.bytes
    c.in_err-write_buf-2.ensures.full)))))

pub returns-clause-refused : goal.returns-clause-refused
returns-clause-refused c =
    let x = shown_state (screen_inside c.prev.inside).state in
    let y = shown_state (screen_inside c.self.inside).state in
    rw (← c.self.view_is, ← c.prev.view_is) (others-refused x y c.args.contents.now c.write_buf-3.result
    c.write_change.new.contents c.write_change-2.new.contents c.write_change-3.new.contents c.write_buf-3.new.buf
    (appended {fs = keypad x y} {s = c.args.contents.now} c.write_change.new.contents
    (rw c.new-keypad.ensures at c.in_ok-write_change.ensures.text) c.in_ok-write_change.ensures.capacity) (appended
    {fs = cursor_keys x y} {s = c.write_change.new.contents} c.write_change-2.new.contents
    (rw c.new-cursor_keys.ensures at c.in_ok-write_change-2.ensures.text) c.in_ok-write_change-2.ensures.capacity)
    (appended {fs = paste x y} {s = c.write_change-2.new.contents} c.write_change-3.new.contents
    (rw c.new-paste.ensures at c.in_ok-write_change-3.ensures.text) c.in_ok-write_change-3.ensures.capacity)
    (rw (c.new.ensures, c.new-2.ensures, c.new-3.ensures) at (then_refused c.write_buf-3.result (c.new.result ∷ [])
    (c.new-2.result ∷ c.new-3.result ∷ []) c.write_change-3.new.contents c.write_buf.new.buf c.write_buf-3.new.buf
    (appended c.write_buf.new.buf c.in_ok-write_buf.ensures.bytes c.in_ok-write_buf.ensures.capacity) (then_refused
    c.write_buf-3.result (c.new-2.result ∷ []) (c.new-3.result ∷ []) c.write_buf.new.buf c.write_buf-2.new.buf
    c.write_buf-3.new.buf
    (appended c.write_buf-2.new.buf c.in_ok-write_buf-2.ensures.bytes c.in_ok-write_buf-2.ensures.capacity)
    (last_refused c.write_buf-3.result (c.new-3.result ∷ []) c.write_buf-2.new.buf c.write_buf-3.new.buf
    c.write_buf-3.ensures.bytes
    c.write_buf-3.ensures.full)))))
