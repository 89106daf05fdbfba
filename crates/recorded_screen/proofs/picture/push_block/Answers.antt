use Rattle.std.proofs.Common.{◌≡◌, ◌+◌, ◌-◌, ◌++◌, ◌∙◌, [], add-one, ap, codes, suc, true, refl, subst, arith}
use Rattle.std.proofs.lemmas.Result.{on_ok_weaker}
use Rattle.picture_page.specs.Page.{Adds, escaped}
use Rattle.picture_page.specs.Seen.{Draws}
use Rattle.picture_page.specs.Tags.{tag_bytes}
use Rattle.picture_page.specs.declared.tag.Tag.TheVariants as tag
use Rattle.picture_page.proofs.PageLemmas.{if_ended}
use Rattle.picture_page.proofs.SeenLemmas.{if_drawn_before, if_tag}
use Rattle.row_pictures.specs.Elements.{AddsSo}
use Rattle.recorded_screen.specs.Heads.{block_head}
use Rattle.recorded_screen.specs.Picture.{block_seen, kept_pictured, lines_text, rows_pictured, scrolled}
use Rattle.recorded_screen.specs.Placed.{AreLines, IsHtmlLineOf}
use Rattle.recorded_screen.proofs.PictureLemmas.{line_drawn, line_seen, scrolled_more}
use Rattle.recorded_screen.proofs.PlacedLemmas.{block_added, html_line_of, no_lines, one_line_more}
use Rattle.recorded_screen.proofs.picture.push_block.Goals as goal

pub loop-row-init : goal.loop-row-init
loop-row-init c =
    record {
      adds = c.in_ok-push_block_head.ensures.adds;
      seen = c.in_ok-push_block_head.ensures.seen;
      placed = no_lines (IsHtmlLineOf c.args.look.now c.args.screen.now.state
          (kept_pictured c.args.history c.args.screen.now.state)) _ _ c.in_ok-push_block_head.ensures.bytes;
      screen = refl;
    }

pub loop-row-preserved : goal.loop-row-preserved
loop-row-preserved c =
    let s = c.args.screen.now.state in
    let k = kept_pictured c.args.history s in
    let n = c.loop-row.row in
    let screen : c.scroll_to.new.screen.state ≡ scrolled s k (suc n) =
    scrolled_more s c.kept_of-count.result k n c.loop-row.screen.state c.scroll_to.new.screen.state
    c.kept_of-count.ensures.count c.loop-row.invariant.screen c.in_ok-scroll_to.ensures in
    let behind : c.saturating_sub.result ≡ n - c.kept_of-count.result = omega arith in
    let row : c.saturating_sub.result ≡ n - k = behind ∙ ap (λ m. n - m) c.kept_of-count.ensures.count in
    record {
      adds = line_drawn _ _ _ s c.scroll_to.new.screen.state k n c.saturating_sub.result screen row
          c.loop-row.invariant.adds c.in_ok-push_html_line.ensures.adds;
      seen = line_seen _ _ _ s c.scroll_to.new.screen.state k n c.saturating_sub.result (codes "\n") screen row
          c.loop-row.invariant.seen c.in_ok-push_html_line.ensures.seen;
      placed = one_line_more (IsHtmlLineOf c.args.look.now s k) _ _ _ n c.loop-row.invariant.placed
          (html_line_of _ _ c.args.look.now s c.scroll_to.new.screen.state k n c.saturating_sub.result screen row
          c.in_ok-push_html_line.ensures.line);
      screen = rw add-one screen;
    }

pub returns-clause-adds : goal.returns-clause-adds
returns-clause-adds c =
    let s = c.args.screen.now.state in
    let k = kept_pictured c.args.history s in
    let all : c.loop-row.row ≡ c.kept_of-count.result + s.shown.height = omega arith in
    let end : c.loop-row.row ≡ rows_pictured c.args.history s =
    all ∙ ap (λ m. m + s.shown.height) c.kept_of-count.ensures.count in
    if_ended _ _ _ _ _
    (subst (λ n. Adds c.args.page.now c.loop-row.page (lines_text s k n)) end c.loop-row.invariant.adds)
    c.markup.ensures.adds

pub returns-clause-seen : goal.returns-clause-seen
returns-clause-seen c =
    let s = c.args.screen.now.state in
    let k = kept_pictured c.args.history s in
    let all : c.loop-row.row ≡ c.kept_of-count.result + s.shown.height = omega arith in
    let end : c.loop-row.row ≡ rows_pictured c.args.history s =
    all ∙ ap (λ m. m + s.shown.height) c.kept_of-count.ensures.count in
    if_drawn_before _ _ _ _ _ _ _ _
    (subst (λ n. Draws c.args.page.now c.loop-row.page true true (block_seen (escaped (lines_text s k n)))) end
    c.loop-row.invariant.seen)
    (if_tag _ _ _ tag.BlockEnd true true [] refl refl c.markup.ensures.bytes)

pub returns-clause-placed : goal.returns-clause-placed
returns-clause-placed c =
    let look = c.args.look.now in
    let s = c.args.screen.now.state in
    let k = kept_pictured c.args.history s in
    let all : c.loop-row.row ≡ c.kept_of-count.result + s.shown.height = omega arith in
    let end : c.loop-row.row ≡ rows_pictured c.args.history s =
    all ∙ ap (λ m. m + s.shown.height) c.kept_of-count.ensures.count in
    block_added _ _ _ _ look c.args.history s
    (subst (λ n. AddsSo (AreLines (IsHtmlLineOf look s k) n) (c.args.page.now ++ block_head look) c.loop-row.page) end
    c.loop-row.invariant.placed)
    c.markup.ensures.bytes

pub returns-clause-left : goal.returns-clause-left
returns-clause-left c =
    let s = c.args.screen.now.state in
    let k = kept_pictured c.args.history s in
    let all : c.loop-row.row ≡ c.kept_of-count.result + s.shown.height = omega arith in
    let end : c.loop-row.row ≡ rows_pictured c.args.history s =
    all ∙ ap (λ m. m + s.shown.height) c.kept_of-count.ensures.count in
    on_ok_weaker c.markup.result
    (λ (is : c.markup.new.self ≡ c.loop-row.page ++ tag_bytes tag.BlockEnd).
    c.loop-row.invariant.screen ∙ ap (scrolled s k) end)
    c.markup.ensures.bytes
