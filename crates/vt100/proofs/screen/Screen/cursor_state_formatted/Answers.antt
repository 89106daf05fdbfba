use Rattle.std.proofs.Common.{◌∙◌, ap}
use Rattle.vt100_forms.specs.Form.{bytes_of}
use Rattle.vt100.proofs.ShownLemmas.{redraw-of_shown}
use Rattle.vt100.proofs.screen.Screen.cursor_state_formatted.Goals as goal

pub returns-clause-shown : goal.returns-clause-shown
returns-clause-shown c h = rw c.new-contents.ensures.bytes at c.in_ok-write_cursor_state_formatted.ensures
    ∙ ap bytes_of (redraw-of_shown _ h).cursor
