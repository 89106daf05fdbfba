use Rattle.std.proofs.Common.{◌≡◌, ◌+◌, ◌-◌, ◌∙◌, [], ◌++◌, add-one, append-nil, ap, codes, suc, sym, true, subst, refl}
use Rattle.std.proofs.Common.{arith}
use Rattle.picture_page.specs.Page.{Adds, escaped}
use Rattle.picture_page.specs.Seen.{Draws}
use Rattle.picture_page.specs.declared.tag.Tag.TheVariants as tag
use Rattle.picture_page.proofs.PageLemmas.{before_markup, shows_page}
use Rattle.picture_page.proofs.SeenLemmas.{draws_both, draws_tag, seen_page}
use Rattle.recorded_screen.specs.Picture.{font_lines, front_seen, kept_pictured, rows_pictured, scrolled, written_lines}
use Rattle.recorded_screen.specs.Placed.{IsSvgLineOf}
use Rattle.recorded_screen.specs.Titles.{title_line}
use Rattle.recorded_screen.proofs.PictureLemmas.{font_line_seen, scrolled_more, written_line_drawn}
use Rattle.recorded_screen.proofs.PlacedLemmas.{no_lines, one_line_more, svg_begins, svg_line_of, svg_placed}
use Rattle.recorded_screen.proofs.picture.svg.Goals as goal

pub loop-row-init : goal.loop-row-init
loop-row-init c =
    let s = c.args.screen.now.state in
    let k = kept_pictured c.args.history s in
    record {
      adds = subst (λ xs. Adds xs c.push_svg_head.new.page []) c.new-page.ensures c.in_ok-push_svg_head.ensures.adds;
      seen = subst (λ text. Draws [] c.push_svg_head.new.page true true text)
          (sym (append-nil (front_seen (title_line c.args.look.now))))
          (subst (λ xs. Draws xs c.push_svg_head.new.page true true (front_seen (title_line c.args.look.now)))
          c.new-page.ensures c.in_ok-push_svg_head.ensures.seen);
      placed = no_lines (IsSvgLineOf c.args.look.now s k) _ _
          (svg_begins _ _ c.args.look.now _ _ _ _ c.new-page.ensures
          (c.rows_of-rows.ensures ∙ ap (λ m. m + s.shown.height) c.kept_of-count.ensures.count)
          (c.get.ensures.value ∙ c.size.ensures.cols) c.in_ok-push_svg_head.ensures.bytes);
      screen = refl;
    }

pub loop-row-preserved : goal.loop-row-preserved
loop-row-preserved c =
    let look = c.args.look.now in
    let s = c.args.screen.now.state in
    let k = kept_pictured c.args.history s in
    let n = c.loop-row.row in
    let screen : c.scroll_to.new.screen.state ≡ scrolled s k (suc n) =
    scrolled_more s c.kept_of-count.result k n c.loop-row.screen.state c.scroll_to.new.screen.state
    c.kept_of-count.ensures.count c.loop-row.invariant.screen c.in_ok-scroll_to.ensures in
    let behind : c.saturating_sub.result ≡ n - c.kept_of-count.result = omega arith in
    let row : c.saturating_sub.result ≡ n - k = behind ∙ ap (λ m. n - m) c.kept_of-count.ensures.count in
    record {
      adds = written_line_drawn _ _ _ look s c.scroll_to.new.screen.state k n c.saturating_sub.result screen row
          c.loop-row.invariant.adds c.in_ok-push_svg_line.ensures.adds;
      seen = font_line_seen _ _ _ look s c.scroll_to.new.screen.state k n c.saturating_sub.result
          (front_seen (title_line c.args.look.now)) screen
          row c.loop-row.invariant.seen c.in_ok-push_svg_line.ensures.seen;
      placed = one_line_more (IsSvgLineOf look s k) _ _ _ n c.loop-row.invariant.placed
          (svg_line_of _ _ look s c.scroll_to.new.screen.state k n c.saturating_sub.result screen row
          c.in_ok-push_svg_line.ensures.line);
      screen = rw add-one screen;
    }

pub returns-clause-text : goal.returns-clause-text
returns-clause-text c =
    let s = c.args.screen.now.state in
    let k = kept_pictured c.args.history s in
    let all : c.loop-row.row ≡ c.kept_of-count.result + s.shown.height = omega arith in
    let end : c.loop-row.row ≡ rows_pictured c.args.history s =
    all ∙ ap (λ m. m + s.shown.height) c.kept_of-count.ensures.count in
    shows_page [] _ _ _ refl c.into_bytes.ensures.bytes
    (before_markup _ _ _ _ (subst (λ n. Adds [] c.loop-row.page (written_lines c.args.look.now s k n)) end
    c.loop-row.invariant.adds) c.in_ok-markup.ensures.adds)

pub returns-clause-seen : goal.returns-clause-seen
returns-clause-seen c =
    let s = c.args.screen.now.state in
    let k = kept_pictured c.args.history s in
    let all : c.loop-row.row ≡ c.kept_of-count.result + s.shown.height = omega arith in
    let end : c.loop-row.row ≡ rows_pictured c.args.history s =
    all ∙ ap (λ m. m + s.shown.height) c.kept_of-count.ensures.count in
    seen_page [] _ _ true _ refl c.into_bytes.ensures.bytes
    (draws_both _ _ _ true true true _ _
    (subst (λ n. Draws [] c.loop-row.page true true (front_seen (title_line c.args.look.now)
    ++ escaped (font_lines c.args.look.now s k n))) end
    c.loop-row.invariant.seen)
    (draws_tag _ _ tag.SvgFoot true true (codes "\n") refl refl c.in_ok-markup.ensures.bytes))

pub returns-clause-placed : goal.returns-clause-placed
returns-clause-placed c =
    let s = c.args.screen.now.state in
    let all : c.loop-row.row ≡ c.kept_of-count.result + s.shown.height = omega arith in
    let end : c.loop-row.row ≡ rows_pictured c.args.history s =
    all ∙ ap (λ m. m + s.shown.height) c.kept_of-count.ensures.count in
    svg_placed _ _ _ c.args.look.now c.args.history s c.loop-row.row end c.loop-row.invariant.placed
    c.in_ok-markup.ensures.bytes c.into_bytes.ensures.bytes

pub returns-clause-left : goal.returns-clause-left
returns-clause-left c =
    let s = c.args.screen.now.state in
    let k = kept_pictured c.args.history s in
    let all : c.loop-row.row ≡ c.kept_of-count.result + s.shown.height = omega arith in
    let end : c.loop-row.row ≡ rows_pictured c.args.history s =
    all ∙ ap (λ m. m + s.shown.height) c.kept_of-count.ensures.count in
    c.loop-row.invariant.screen ∙ ap (scrolled s k) end
