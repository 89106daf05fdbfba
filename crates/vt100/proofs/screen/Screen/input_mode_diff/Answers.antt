use Rattle.std.proofs.Common.{length, ap, arith, refl, rules}
use Rattle.screen_drawing.proofs.Lengths.{modes_diff-length}
use Rattle.screen_model.specs.Shown.{shown_state}
use Rattle.vt100.proofs.screen.Screen.input_mode_diff.Goals as goal

pub returns : goal.returns
returns c =
    let is = rw c.new-contents.ensures.bytes at c.in_ok-write_input_mode_diff.ensures.text in
    let short = modes_diff-length (shown_state c.args.prev.now.state) (shown_state c.args.self.now.state) in
    record { text = is; short = omega (arith, ap length is, short); memory = search rules; empty = λ none. refl }
