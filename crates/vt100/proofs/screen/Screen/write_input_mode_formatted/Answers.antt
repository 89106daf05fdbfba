use Rattle.std.proofs.Common.{[], ◌∷◌}
use Rattle.screen_drawing.specs.Modes.{input_mode_formatted}
use Rattle.screen_model.specs.Shown.{shown_state}
use Rattle.vt100.specs.ScreenFields.{screen_inside}
use Rattle.vt100_core.proofs.WriterLemmas.{appended}
use Rattle.vt100.proofs.RefusedWrites.{on_err, first_refused, rest_refused, last_refused, then_refused}
use Rattle.vt100.proofs.RefusedWrites.{from_cursor_keys, from_paste, from_mouse, from_encoding, from_style}
use Rattle.vt100.proofs.WriteLemmas.{six_written}
use Rattle.vt100.proofs.screen.Screen.write_input_mode_formatted.Goals as goal

pub returns-clause-text : goal.returns-clause-text
unfolding input_mode_formatted
returns-clause-text c = rw (← c.self.view_is) (rw (
  c.new.ensures,
  c.new-2.ensures,
  c.new-3.ensures,
  c.new-4.ensures,
  c.new-5.ensures,
  c.new-6.ensures,
) at (six_written c.write_buf-6.result (c.new.result ∷ []) (c.new-2.result ∷ [])
    (c.new-3.result ∷ []) (c.new-4.result ∷ []) (c.new-5.result ∷ []) (c.new-6.result ∷ []) _ _ _ _ _ _ _
    c.in_ok-write_buf.ensures.bytes c.in_ok-write_buf-2.ensures.bytes c.in_ok-write_buf-3.ensures.bytes
    c.in_ok-write_buf-4.ensures.bytes c.in_ok-write_buf-5.ensures.bytes c.write_buf-6.ensures.bytes))

pub returns-in_err-write_buf-clause-refused : goal.returns-in_err-write_buf-clause-refused
unfolding input_mode_formatted
returns-in_err-write_buf-clause-refused c =
    let y = shown_state (screen_inside c.self.inside).state in
    rw (← c.self.view_is) (on_err c.from_residual.result (rw c.new.ensures at (first_refused c.new.result
    (from_cursor_keys y) c.args.contents.now c.write_buf.new.buf
    c.in_err-write_buf.ensures.bytes c.in_err-write_buf.ensures.full)))

pub returns-in_err-write_buf-2-clause-refused : goal.returns-in_err-write_buf-2-clause-refused
unfolding input_mode_formatted
returns-in_err-write_buf-2-clause-refused c =
    let y = shown_state (screen_inside c.self.inside).state in
    rw (← c.self.view_is) (on_err c.from_residual-in_err-write_buf-2.result (rw (c.new.ensures, c.new-2.ensures) at
    (rest_refused c.new.result (c.new-2.result ∷ from_paste y) c.args.contents.now c.write_buf.new.buf
    c.write_buf-2.new.buf c.in_ok-write_buf.ensures.bytes
    c.in_ok-write_buf.ensures.capacity (first_refused c.new-2.result (from_paste y) c.write_buf.new.buf
    c.write_buf-2.new.buf
    c.in_err-write_buf-2.ensures.bytes c.in_err-write_buf-2.ensures.full))))

pub returns-in_err-write_buf-3-clause-refused : goal.returns-in_err-write_buf-3-clause-refused
unfolding input_mode_formatted
returns-in_err-write_buf-3-clause-refused c =
    let y = shown_state (screen_inside c.self.inside).state in
    rw (← c.self.view_is) (on_err c.from_residual-in_err-write_buf-3.result (rw (
      c.new.ensures,
      c.new-2.ensures,
      c.new-3.ensures,
    ) at (rest_refused c.new.result (c.new-2.result ∷ c.new-3.result ∷ from_mouse y)
    c.args.contents.now c.write_buf.new.buf c.write_buf-3.new.buf c.in_ok-write_buf.ensures.bytes
    c.in_ok-write_buf.ensures.capacity (rest_refused c.new-2.result (c.new-3.result ∷ from_mouse y)
    c.write_buf.new.buf c.write_buf-2.new.buf c.write_buf-3.new.buf c.in_ok-write_buf-2.ensures.bytes
    c.in_ok-write_buf-2.ensures.capacity (first_refused c.new-3.result (from_mouse y) c.write_buf-2.new.buf
    c.write_buf-3.new.buf
    c.in_err-write_buf-3.ensures.bytes c.in_err-write_buf-3.ensures.full)))))

pub returns-in_err-write_buf-4-clause-refused : goal.returns-in_err-write_buf-4-clause-refused
unfolding input_mode_formatted
returns-in_err-write_buf-4-clause-refused c =
    let y = shown_state (screen_inside c.self.inside).state in
    rw (← c.self.view_is) (on_err c.from_residual-in_err-write_buf-4.result (rw (
      c.new.ensures,
      c.new-2.ensures,
      c.new-3.ensures,
      c.new-4.ensures,
    ) at (rest_refused c.new.result (c.new-2.result ∷ c.new-3.result ∷
    c.new-4.result ∷ from_encoding y) c.args.contents.now c.write_buf.new.buf c.write_buf-4.new.buf
    c.in_ok-write_buf.ensures.bytes
    c.in_ok-write_buf.ensures.capacity (rest_refused c.new-2.result (c.new-3.result ∷ c.new-4.result ∷
    from_encoding y) c.write_buf.new.buf c.write_buf-2.new.buf c.write_buf-4.new.buf
    c.in_ok-write_buf-2.ensures.bytes
    c.in_ok-write_buf-2.ensures.capacity (rest_refused c.new-3.result (c.new-4.result ∷ from_encoding y)
    c.write_buf-2.new.buf c.write_buf-3.new.buf c.write_buf-4.new.buf c.in_ok-write_buf-3.ensures.bytes
    c.in_ok-write_buf-3.ensures.capacity (first_refused c.new-4.result (from_encoding y) c.write_buf-3.new.buf
    c.write_buf-4.new.buf
    c.in_err-write_buf-4.ensures.bytes c.in_err-write_buf-4.ensures.full))))))

pub returns-in_err-write_buf-5-clause-refused : goal.returns-in_err-write_buf-5-clause-refused
unfolding input_mode_formatted
returns-in_err-write_buf-5-clause-refused c =
    let y = shown_state (screen_inside c.self.inside).state in
    rw (← c.self.view_is) (on_err c.from_residual-in_err-write_buf-5.result (rw (
      c.new.ensures,
      c.new-2.ensures,
      c.new-3.ensures,
      c.new-4.ensures,
      c.new-5.ensures,
    ) at (rest_refused c.new.result (c.new-2.result ∷
    c.new-3.result ∷ c.new-4.result ∷ c.new-5.result ∷ from_style y) c.args.contents.now c.write_buf.new.buf
    c.write_buf-5.new.buf c.in_ok-write_buf.ensures.bytes
    c.in_ok-write_buf.ensures.capacity (rest_refused c.new-2.result (c.new-3.result ∷ c.new-4.result ∷
    c.new-5.result ∷ from_style y) c.write_buf.new.buf c.write_buf-2.new.buf c.write_buf-5.new.buf
    c.in_ok-write_buf-2.ensures.bytes
    c.in_ok-write_buf-2.ensures.capacity (rest_refused c.new-3.result (c.new-4.result ∷ c.new-5.result ∷ from_style
    y) c.write_buf-2.new.buf c.write_buf-3.new.buf c.write_buf-5.new.buf c.in_ok-write_buf-3.ensures.bytes
    c.in_ok-write_buf-3.ensures.capacity (rest_refused c.new-4.result (c.new-5.result ∷ from_style y)
    c.write_buf-3.new.buf c.write_buf-4.new.buf c.write_buf-5.new.buf c.in_ok-write_buf-4.ensures.bytes
    c.in_ok-write_buf-4.ensures.capacity (first_refused c.new-5.result (from_style y) c.write_buf-4.new.buf
    c.write_buf-5.new.buf
    c.in_err-write_buf-5.ensures.bytes c.in_err-write_buf-5.ensures.full)))))))

pub returns-clause-refused : goal.returns-clause-refused
unfolding input_mode_formatted
returns-clause-refused c = rw (← c.self.view_is) (rw (
  c.new.ensures,
  c.new-2.ensures,
  c.new-3.ensures,
  c.new-4.ensures,
  c.new-5.ensures,
  c.new-6.ensures,
) at (then_refused c.write_buf-6.result (c.new.result ∷ [])
    (c.new-2.result ∷ c.new-3.result ∷ c.new-4.result ∷ c.new-5.result ∷ c.new-6.result ∷ []) c.args.contents.now
    c.write_buf.new.buf c.write_buf-6.new.buf
    (appended c.write_buf.new.buf c.in_ok-write_buf.ensures.bytes c.in_ok-write_buf.ensures.capacity) (then_refused
    c.write_buf-6.result (c.new-2.result ∷ []) (c.new-3.result ∷ c.new-4.result ∷ c.new-5.result ∷ c.new-6.result ∷
    []) c.write_buf.new.buf c.write_buf-2.new.buf c.write_buf-6.new.buf
    (appended c.write_buf-2.new.buf c.in_ok-write_buf-2.ensures.bytes c.in_ok-write_buf-2.ensures.capacity)
    (then_refused c.write_buf-6.result (c.new-3.result ∷ []) (c.new-4.result ∷ c.new-5.result ∷ c.new-6.result ∷
    []) c.write_buf-2.new.buf c.write_buf-3.new.buf c.write_buf-6.new.buf
    (appended c.write_buf-3.new.buf c.in_ok-write_buf-3.ensures.bytes c.in_ok-write_buf-3.ensures.capacity)
    (then_refused c.write_buf-6.result (c.new-4.result ∷ []) (c.new-5.result ∷ c.new-6.result ∷ [])
    c.write_buf-3.new.buf c.write_buf-4.new.buf c.write_buf-6.new.buf
    (appended c.write_buf-4.new.buf c.in_ok-write_buf-4.ensures.bytes c.in_ok-write_buf-4.ensures.capacity)
    (then_refused c.write_buf-6.result (c.new-5.result ∷ []) (c.new-6.result ∷ []) c.write_buf-4.new.buf
    c.write_buf-5.new.buf c.write_buf-6.new.buf
    (appended c.write_buf-5.new.buf c.in_ok-write_buf-5.ensures.bytes c.in_ok-write_buf-5.ensures.capacity)
    (last_refused c.write_buf-6.result (c.new-6.result ∷ []) c.write_buf-5.new.buf c.write_buf-6.new.buf
    c.write_buf-6.ensures.bytes
    c.write_buf-6.ensures.full)))))))
