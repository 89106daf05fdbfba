use Rattle.std.proofs.Common.{◌++◌}
use Rattle.picture_page.specs.Bytes.{hexadecimal}
use Rattle.picture_page.specs.Tags.{tag_bytes}
use Rattle.picture_page.proofs.PageLemmas.{if_added, if_joined}
use Rattle.picture_page.proofs.page.Page.color.Goals as goal

pub returns-clause-adds : goal.returns-clause-adds
returns-clause-adds c =
    if_added _ _ _ _ _ c.in_ok-markup.ensures.adds
    (if_added _ _ _ _ _ c.in_ok-hexadecimal.ensures.adds
    (if_added _ _ _ _ _ c.in_ok-hexadecimal-2.ensures.adds c.hexadecimal-3.ensures.adds))

pub returns-clause-bytes : goal.returns-clause-bytes
returns-clause-bytes c =
    let red = hexadecimal c.args.color.red in
    let green = hexadecimal c.args.color.green in
    let blue = hexadecimal c.args.color.blue in
    if_joined _ _ _ _ (tag_bytes c.args.tag) (red ++ (green ++ blue)) c.in_ok-markup.ensures.bytes
    (if_joined _ _ _ _ red (green ++ blue) c.in_ok-hexadecimal.ensures.bytes
    (if_joined _ _ _ _ green blue c.in_ok-hexadecimal-2.ensures.bytes c.hexadecimal-3.ensures.bytes))
