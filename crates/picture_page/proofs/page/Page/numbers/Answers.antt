use Rattle.std.proofs.Common.{get_or}
use Rattle.std.proofs.lemmas.List.{take_more}
use Rattle.picture_page.specs.declared.tag.Tag.TheVariants.{PageHead}
use Rattle.picture_page.proofs.PageLemmas.{after_markup, numbers_more}
use Rattle.picture_page.proofs.page.Page.numbers.Goals as goal

pub loop-tag-preserved : goal.loop-tag-preserved
loop-tag-preserved c =
    let ns = c.args.numbers.now in
    let i = c.loop-tag.tag-index in
    record {
      adds = after_markup _ _ _ _ c.loop-tag.invariant.adds c.in_ok-markup_number.ensures.adds;
      bytes = numbers_more _ _ _ ns i (get_or ns i (PageHead, 0)) (take_more ns i (PageHead, 0) c.loop-tag-test.true)
          c.loop-tag.invariant.bytes c.in_ok-markup_number.ensures.bytes;
    }
