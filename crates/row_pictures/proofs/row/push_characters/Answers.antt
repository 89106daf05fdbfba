use Rattle.std.proofs.Common.{◌≡◌, ◌∙◌, ◌++◌, sym, subst, List, ℕ, map-id}
use Rattle.std.proofs.lemmas.Iterator.{YieldsList-from_chars}
use Rattle.std.proofs.lemmas.Iterator.Consumers.{YieldsList-end}
use Rattle.picture_page.specs.Page.{Adds, escaped}
use Rattle.row_pictures.specs.Text.{shown_characters}
use Rattle.row_pictures.proofs.RowLemmas.{character_drawn, character_escaped}
use Rattle.row_pictures.proofs.row.push_characters.Goals as goal

pub loop-c-preserved : goal.loop-c-preserved
loop-c-preserved c = record {
  adds = character_drawn _ _ _ c.loop-c.yielded c.in-Some.c _ c.shown.ensures c.loop-c.invariant.adds
      c.in_ok-character.ensures.adds;
  bytes = character_escaped _ _ _ c.loop-c.yielded c.in-Some.c _ c.shown.ensures c.loop-c.invariant.bytes
      c.in_ok-character.ensures.bytes;
}

pub returns-clause-adds : goal.returns-clause-adds
returns-clause-adds c =
    let end = YieldsList-end (YieldsList-from_chars c.contents.result.now c.contents.utf8 cc) c.loop-c.yielded _
    c.loop-c.yielded_by _ _ c.in-None.is c.next.ensures.steps in
    subst (λ (cs : List ℕ). Adds c.args.page.now c.loop-c.page (shown_characters cs))
    (sym (map-id c.loop-c.yielded) ∙ end.0 ∙ c.contents.ensures.characters) c.loop-c.invariant.adds

pub returns-clause-bytes : goal.returns-clause-bytes
returns-clause-bytes c =
    let end = YieldsList-end (YieldsList-from_chars c.contents.result.now c.contents.utf8 cc) c.loop-c.yielded _
    c.loop-c.yielded_by _ _ c.in-None.is c.next.ensures.steps in
    subst (λ (cs : List ℕ). c.loop-c.page ≡ c.args.page.now ++ escaped (shown_characters cs))
    (sym (map-id c.loop-c.yielded) ∙ end.0 ∙ c.contents.ensures.characters) c.loop-c.invariant.bytes
