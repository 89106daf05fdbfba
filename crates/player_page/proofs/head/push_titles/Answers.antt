use Rattle.picture_page.proofs.PageLemmas.{if_added, if_joined}
use Rattle.picture_page.specs.Tags.{tag_bytes}
use Rattle.picture_page.specs.declared.tag.Tag.TheVariants as tag
use Rattle.player_page.specs.Heads.{title_bytes}
use Rattle.player_page.proofs.head.push_titles.Goals as goal

pub returns-clause-adds : goal.returns-clause-adds
returns-clause-adds c =
    if_added _ _ _ _ _ c.in_ok-markup.ensures.adds
    (if_added _ _ _ _ _ c.in_ok-push_title.ensures.adds
    (if_added _ _ _ _ _ c.in_ok-markup-2.ensures.adds c.push_title-2.ensures.adds))

pub returns-clause-bytes : goal.returns-clause-bytes
returns-clause-bytes c =
    let title = title_bytes c.args.look.now in
    if_joined _ c.args.page.now c.markup.new.self _ (tag_bytes tag.PlayerHead) _ c.in_ok-markup.ensures.bytes
    (if_joined _ c.markup.new.self c.push_title.new.page _ title _ c.in_ok-push_title.ensures.bytes
    (if_joined _ c.push_title.new.page c.markup-2.new.self _ (tag_bytes tag.PlayerStyle) title
    c.in_ok-markup-2.ensures.bytes c.push_title-2.ensures.bytes))
