use Rattle.screen_drawing.proofs.Modes.{modes-set, modes-changed, attributes-set}
use Rattle.screen_model.specs.Shown.{shown_state}
use Rattle.vt100.proofs.laws.modes_lead.Goals as goal

pub returns : goal.returns
returns c = record {
  set = λ s z from m e y. modes-set z (shown_state s) from m e y;
  changed = λ old new z from m y. modes-changed z (shown_state old) (shown_state new) from m y;
  attributes = λ s z from h. attributes-set z (shown_state s) from h.attrs;
}
