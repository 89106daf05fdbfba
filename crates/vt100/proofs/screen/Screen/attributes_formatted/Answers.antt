use Rattle.std.proofs.Common.{rules}
use Rattle.screen_model.specs.Shown.{shown_state}
use Rattle.vt100.proofs.WriteLemmas.{attributes-some}
use Rattle.vt100.proofs.screen.Screen.attributes_formatted.Goals as goal

pub returns-in_err-write_attributes_formatted : goal.returns-in_err-write_attributes_formatted
returns-in_err-write_attributes_formatted c = record {
  text = search rules;
  memory = search rules;
  empty = λ none. absurd (attributes-some (shown_state c.args.self.now.state) none);
}
