use Rattle.std.proofs.Common.{◌≡◌, ◌∙◌, ◌∷◌, [], sym, ap, cond, Some, None}
use Rattle.std.specs.Str.{chars}
use Rattle.std.proofs.lemmas.Iterator.{YieldsList-from_chars}
use Rattle.row_pictures.specs.Drawn.{drawn_text}
use Rattle.row_pictures.proofs.DrawnLemmas.{one_character}
use Rattle.row_pictures.proofs.glyph.drawn_character.Goals as goal

pub returns-in-Some-None-clause-character : goal.returns-in-Some-None-clause-character
returns-in-Some-None-clause-character c =
    let both = c.in-Some-None in
    let all : chars c.contents.result.now ≡ both.c ∷ [] =
    one_character (YieldsList-from_chars {s = c.chars-chars.result} c.contents.result.now c.contents.utf8 cc)
    c.next.result c.next-2.result c.next.new.self c.next-2.new.self both.c both.is-0 c.next.ensures.steps both.is-1
    c.next-2.ensures.steps in
    ap (λ v. cond v (Some both.c) None) c.if-is_drawn_character.ensures
    ∙ ap drawn_text (sym (sym c.contents.ensures.characters ∙ all))
