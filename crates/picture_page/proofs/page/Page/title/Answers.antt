use Rattle.std.proofs.Common.{◌≡◌, ◌∙◌, ◌++◌, List, ℕ, map-id, sym, subst}
use Rattle.std.proofs.lemmas.Iterator.{YieldsList-from_chars}
use Rattle.std.proofs.lemmas.Iterator.Consumers.{YieldsList-end}
use Rattle.picture_page.specs.Page.{escaped}
use Rattle.picture_page.specs.Titles.{title_characters}
use Rattle.picture_page.proofs.PageLemmas.{after_markup, titled_more}
use Rattle.picture_page.proofs.page.Page.title.Goals as goal

pub loop-c-preserved : goal.loop-c-preserved
loop-c-preserved c = record {
  adds = after_markup _ _ _ _ c.loop-c.invariant.adds c.in_ok-title_character.ensures.adds;
  bytes = titled_more _ _ _ c.loop-c.yielded c.in-Some.c c.loop-c.invariant.bytes
      c.in_ok-title_character.ensures.bytes;
}

pub returns-clause-bytes : goal.returns-clause-bytes
returns-clause-bytes c =
    let end = YieldsList-end (YieldsList-from_chars c.args.title.now c.utf8.title cc) c.loop-c.yielded _
    c.loop-c.yielded_by _ _ c.in-None.is c.next.ensures.steps in
    subst (λ (cs : List ℕ). c.loop-c.self ≡ c.args.self.now ++ escaped (title_characters cs))
    (sym (map-id c.loop-c.yielded) ∙ end.0) c.loop-c.invariant.bytes
