use Rattle.std.proofs.Common.{◌≡◌, ◌++◌, ◌∙◌, ℕ, List, ap, append-nil, decimal, subst}
use Rattle.std.proofs.lemmas.List.{take_all, take_more}
use Rattle.picture_page.specs.Tags.{tag_bytes}
use Rattle.picture_page.specs.declared.tag.Tag.TheVariants as tag
use Rattle.picture_page.proofs.PageLemmas.{after_markup}
use Rattle.player_page.specs.Lines.{spaced}
use Rattle.player_page.proofs.LineLemmas.{all_numbers, none_yet, one_more}
use Rattle.player_page.proofs.strip.push_whole.Goals as goal

abbrev one : ℕ → List ℕ
one n = tag_bytes tag.Space ++ decimal n

pub loop-number-init : goal.loop-number-init
loop-number-init c = record {
  bytes = none_yet one (tag_bytes tag.Whole) _ _ c.in_ok-markup.ensures.bytes;
  adds = c.in_ok-markup.ensures.adds;
}

pub loop-number-preserved : goal.loop-number-preserved
loop-number-preserved c = record {
  bytes = one_more one (tag_bytes tag.Whole) c.args.page.now c.loop-number.page _ c.args.numbers.now
      c.loop-number.number-index _ (take_more c.args.numbers.now c.loop-number.number-index _ c.loop-number-test.true)
      c.loop-number.invariant.bytes
      (c.in_ok-numbers.ensures.bytes ∙ ap (λ bs. c.loop-number.page ++ bs) (append-nil _));
  adds = after_markup _ _ _ _ c.loop-number.invariant.adds c.in_ok-numbers.ensures.adds;
}

pub returns : goal.returns
returns c = λ before.
    let numbers = c.args.numbers.now in
    let all = take_all c.loop-number.number-index numbers c.loop-number-test.false in
    all_numbers before numbers c.args.page.now c.loop-number.page
    (subst (λ ns. c.loop-number.page ≡ c.args.page.now ++ (tag_bytes tag.Whole ++ spaced ns)) all
    c.loop-number.invariant.bytes) c.loop-number.invariant.adds
