use Rattle.std.proofs.Common.{◌∷◌, List, [], ℕ}
use Rattle.std.proofs.lemmas.Result.{on_ok_weaker}
use Rattle.picture_page.specs.Tags.{tag_bytes}
use Rattle.picture_page.specs.declared.tag.Tag.TheVariants as tag
use Rattle.picture_page.proofs.PageLemmas.{adds_both, after_markup, before_markup, if_joined}
use Rattle.player_page.proofs.LineLemmas.{text_appended}
use Rattle.player_page.proofs.strip.push_row.Goals as goal

pub returns-clause-bytes : goal.returns-clause-bytes
returns-clause-bytes c =
    if_joined _ c.args.page.now c.markup.new.self _ (tag_bytes tag.Line) _ c.in_ok-markup.ensures.bytes
    (if_joined _ c.markup.new.self c.append.new.self _ c.args.painted.now _ c.in_ok-append.ensures
    (if_joined _ c.append.new.self c.markup-2.new.self _ (tag_bytes tag.LineEnd) (10 ∷ []) c.in_ok-markup-2.ensures.bytes
    c.end_row.ensures.bytes))

pub returns-clause-adds : goal.returns-clause-adds
returns-clause-adds c =
    on_ok_weaker c.end_row.result (λ end (text : List ℕ) painted.
    adds_both _ _ _ text (10 ∷ [])
    (after_markup _ _ _ _ c.in_ok-markup.ensures.adds
    (before_markup _ _ _ _ (text_appended _ c.args.painted.now _ text c.in_ok-append.ensures painted)
    c.in_ok-markup-2.ensures.adds)) end) c.end_row.ensures.adds
