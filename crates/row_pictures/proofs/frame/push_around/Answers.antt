use Rattle.std.proofs.Common.{◌*◌, ◌++◌, codes}
use Rattle.picture_page.specs.Seen.{seen}
use Rattle.picture_page.specs.Tags.{tag_bytes}
use Rattle.picture_page.specs.declared.tag.Tag.TheVariants as tag
use Rattle.picture_page.proofs.PageLemmas.{if_joined}
use Rattle.picture_page.proofs.SeenLemmas.{if_drawn}
use Rattle.row_pictures.specs.Frames.{bar_seen, frame_head, frame_said, inner_head, window_bar, window_edge}
use Rattle.row_pictures.proofs.FrameLemmas.{seen_within, text_around}
use Rattle.row_pictures.proofs.frame.push_around.Goals as goal

pub returns-clause-text : goal.returns-clause-text
returns-clause-text c =
    text_around _ _ _ _ _ _ _ _ _ _ c.in_ok-push_frame_head.ensures.adds c.in_ok-push_window_bar.ensures.adds
    c.in_ok-push_inner_head.ensures.adds c.in_ok-append.ensures c.in_ok-markup.ensures.adds
    c.in_ok-push_window_edge.ensures.adds c.markup-2.ensures.adds

pub returns-clause-seen : goal.returns-clause-seen
returns-clause-seen c =
    let f = frame_said c.args.frame.now in
    let picture = c.args.picture.now in
    if_drawn _ _ _ _ _ _ _ (codes "\n\n") (bar_seen f ++ (codes "\n" ++ (seen picture ++ codes "\n\n")))
    c.in_ok-push_frame_head.ensures.seen
    (if_drawn _ _ _ _ _ _ _ (bar_seen f) (codes "\n" ++ (seen picture ++ codes "\n\n"))
    c.in_ok-push_window_bar.ensures.seen
    (if_drawn _ _ _ _ _ _ _ (codes "\n") (seen picture ++ codes "\n\n") c.in_ok-push_inner_head.ensures.seen
    (seen_within _ _ _ _ _ _ picture c.in_ok-append.ensures c.in_ok-markup.ensures.bytes
    c.in_ok-push_window_edge.ensures.seen c.markup-2.ensures.bytes)))

pub returns-clause-bytes : goal.returns-clause-bytes
returns-clause-bytes c =
    let f = frame_said c.args.frame.now in
    let theme = c.args.theme in
    let width = c.args.cols * 9 in
    let height = c.args.rows * 18 in
    if_joined _ c.args.page.now c.push_frame_head.new.page _ (frame_head f theme width height) _
    c.in_ok-push_frame_head.ensures.bytes
    (if_joined _ c.push_frame_head.new.page c.push_window_bar.new.page _ (window_bar f theme width) _
    c.in_ok-push_window_bar.ensures.bytes
    (if_joined _ c.push_window_bar.new.page c.push_inner_head.new.page _ (inner_head f width height) _
    c.in_ok-push_inner_head.ensures.bytes
    (if_joined _ c.push_inner_head.new.page c.append.new.self _ c.args.picture.now _ c.in_ok-append.ensures
    (if_joined _ c.append.new.self c.markup.new.self _ (tag_bytes tag.SvgFoot) _ c.in_ok-markup.ensures.bytes
    (if_joined _ c.markup.new.self c.push_window_edge.new.page _ (window_edge f theme width height)
    (tag_bytes tag.SvgFoot) c.in_ok-push_window_edge.ensures.bytes c.markup-2.ensures.bytes)))))
