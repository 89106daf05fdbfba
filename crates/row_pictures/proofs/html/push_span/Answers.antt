use Rattle.std.proofs.Common.{true, [], refl}
use Rattle.picture_page.specs.declared.tag.Tag.TheVariants as tag
use Rattle.picture_page.proofs.PageLemmas.{if_added, if_ended}
use Rattle.picture_page.proofs.SeenLemmas.{draws_text, if_drawn_after, if_drawn_before, if_tag, if_text}
use Rattle.row_pictures.specs.Text.{row_text}
use Rattle.row_pictures.proofs.HtmlLemmas.{plain_added, span_added}
use Rattle.row_pictures.proofs.html.push_span.Goals as goal

pub returns-clause-adds : goal.returns-clause-adds
returns-clause-adds c =
    if_added _ _ _ _ _ c.in_ok-push_span_head.ensures.adds (if_ended _ _ _ _ _ c.in_ok-push_cells.ensures.adds
    c.markup.ensures.adds)

pub returns-clause-seen : goal.returns-clause-seen
returns-clause-seen c =
    if_drawn_after _ _ _ _ _ _ _ _ c.in_ok-push_span_head.ensures.seen
    (if_drawn_before _ _ _ _ _ _ _ _ (draws_text _ _ (row_text c.args.run.now) c.in_ok-push_cells.ensures.bytes)
    (if_tag _ _ _ tag.SpanEnd true true [] refl refl c.markup.ensures.bytes))

pub returns-then-not-wide-clause-seen : goal.returns-then-not-wide-clause-seen
returns-then-not-wide-clause-seen c = if_text _ _ _ (row_text c.args.run.now) c.push_cells.ensures.bytes

pub returns-then-not-wide-clause-drawn : goal.returns-then-not-wide-clause-drawn
returns-then-not-wide-clause-drawn c =
    plain_added _ _ _ c.args.look.now c.args.run.now c.args.style c.is_wide_run-wide.result
    (c.is_same.ensures c.if-is_same.true) c.is_wide_run-wide.ensures c.if-not-wide.true c.push_cells.ensures.bytes

pub returns-clause-drawn : goal.returns-clause-drawn
returns-clause-drawn c =
    span_added _ _ _ _ _ c.args.look.now c.args.run.now c.args.style c.is_wide_run-wide.result
    c.is_wide_run-wide.ensures c.in_ok-push_span_head.ensures.bytes c.in_ok-push_cells.ensures.bytes
    c.markup.ensures.bytes
