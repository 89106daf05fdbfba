use Rattle.std.proofs.Common.{[]}
use Rattle.std.proofs.lemmas.Result.{on_ok_weaker}
use Rattle.picture_page.specs.Tags.{tag_bytes}
use Rattle.picture_page.specs.declared.tag.Tag.TheVariants as tag
use Rattle.picture_page.proofs.PageLemmas.{after_markup, if_joined}
use Rattle.player_page.proofs.LineLemmas.{text_appended}
use Rattle.player_page.proofs.RowsLemmas.{rows_after, rows_appended, rows_before}
use Rattle.player_page.proofs.page.push_strip.Goals as goal

pub returns-clause-bytes : goal.returns-clause-bytes
returns-clause-bytes c =
    let strip = c.args.strip.now in
    if_joined _ c.args.page.now c.markup.new.self _ (tag_bytes tag.PlayerTable) _ c.in_ok-markup.ensures.bytes
    (if_joined _ c.markup.new.self c.append.new.self _ strip.rows _ c.in_ok-append.ensures
    (if_joined _ c.append.new.self c.markup-2.new.self _ (tag_bytes tag.PlayerMoments) _ c.in_ok-markup-2.ensures.bytes
    (if_joined _ c.markup-2.new.self c.append-2.new.self _ strip.moments _ c.in_ok-append-2.ensures
    c.markup-3.ensures.bytes)))

pub returns-clause-text : goal.returns-clause-text
returns-clause-text c =
    on_ok_weaker c.markup-3.result (λ script rows cols events drawn none.
    rows_after rows cols events _ _ _ c.in_ok-markup.ensures.adds
    (rows_before rows cols events _ _ _
    (rows_appended rows cols events _ c.args.strip.now.rows _ c.in_ok-append.ensures drawn)
    (after_markup _ _ _ _ c.in_ok-markup-2.ensures.adds
    (after_markup _ _ _ _ (text_appended _ c.args.strip.now.moments _ [] c.in_ok-append-2.ensures none) script))))
    c.markup-3.ensures.adds
