use Rattle.screen_drawing.proofs.Texts.{texts-forms}
use Rattle.screen_drawing.proofs.laws.texts_are_forms.Goals as goal

pub returns : goal.returns
returns c = texts-forms
