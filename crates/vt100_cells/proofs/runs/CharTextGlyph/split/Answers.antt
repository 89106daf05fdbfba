use Rattle.std.proofs.Common.{◌∙◌, ◌∷◌, List, ℕ, ap, sym}
use Rattle.std.specs.Str.{chars}
use Rattle.std.proofs.lemmas.Str.{chars_past_char}
use Rattle.vt100_cells.proofs.runs.CharTextGlyph.split.Goals as goal

pub returns-in-Some-clause-parts : goal.returns-in-Some-clause-parts
returns-in-Some-clause-parts c = chars_past_char c.args.text.now c.next.new.self.rest.now c.in-Some.c c.utf8.text
    (sym c.chars-chars.ensures.rest ∙ c.in-Some.ensures.steps.0) ∙ ap (λ (left : List ℕ). c.in-Some.c ∷ chars left)
    (sym c.as_str.ensures)
