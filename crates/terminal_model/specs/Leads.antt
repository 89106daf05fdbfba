-- What a list of forms makes of a terminal's picture.
use Rattle.std.specs.Prelude.{◌≡◌, List}
use Rattle.vt100_forms.specs.Form.{Form}
use Rattle.terminal_model.specs.Term.{Size, Shown, Saved, IsSaved, shown_of, term_of}
use Rattle.terminal_model.specs.Apply.{run}

-- after the forms a terminal that showed `from` shows `to`, whatever cursor it had saved
abbrev pub Leads : Size → List Form → Shown → Shown → Type 0
Leads z fs from to = (v : Saved) → IsSaved z v → shown_of (run z fs (term_of from v)) ≡ to
