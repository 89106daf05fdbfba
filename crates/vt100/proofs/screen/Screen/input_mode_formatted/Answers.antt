use Rattle.std.proofs.Common.{length, ap, arith, refl, rules}
use Rattle.screen_drawing.proofs.Lengths.{modes-length}
use Rattle.screen_model.specs.Shown.{shown_state}
use Rattle.vt100.proofs.WriteLemmas.{modes-some}
use Rattle.vt100.proofs.screen.Screen.input_mode_formatted.Goals as goal

pub returns-in_err-write_input_mode_formatted : goal.returns-in_err-write_input_mode_formatted
returns-in_err-write_input_mode_formatted c = record {
  text = search rules;
  short = search rules;
  memory = search rules;
  empty = λ none. absurd (modes-some (shown_state c.args.self.now.state) none);
}

pub returns : goal.returns
returns c =
    let is = rw c.new-contents.ensures.bytes at c.in_ok-write_input_mode_formatted.ensures.text in
    let short = modes-length (shown_state c.args.self.now.state) in
    record { text = is; short = omega (arith, ap length is, short); memory = search rules; empty = λ none. refl }
