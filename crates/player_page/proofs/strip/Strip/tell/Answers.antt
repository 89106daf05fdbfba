use Rattle.std.proofs.Common.{◌++◌, refl, subst}
use Rattle.picture_page.specs.Tags.{tag_bytes}
use Rattle.picture_page.specs.declared.tag.Tag.TheVariants as tag
use Rattle.picture_page.proofs.PageLemmas.{after_markup, joined_more}
use Rattle.recorded_screen.specs.Reel.{decimal_point}
use Rattle.player_page.specs.Lines.{Say}
use Rattle.player_page.proofs.strip.Strip.tell.Goals as goal

pub returns : goal.returns
returns c =
    let time = c.args.time in
    let numbers = c.in_ok-push_numbers.ensures.numbers in
    record {
      bytes = decimal_point 6 time ++ (numbers.said ++ tag_bytes tag.Newline);
      joined = joined_more _ _ _ (decimal_point 6 time) _ (c.in_ok-push_decimal.ensures.bytes 6 refl)
          (joined_more _ _ _ numbers.said (tag_bytes tag.Newline) numbers.joined c.in_ok-markup.ensures.bytes);
      is = record { said = numbers.said; is = refl; say = subst (λ ns. Say c.args.self.now.last.items ns numbers.said) c.deref.ensures.value numbers.say };
      adds = after_markup _ _ _ _ c.in_ok-push_decimal.ensures.adds
          (after_markup _ _ _ _ numbers.adds c.in_ok-markup.ensures.adds);
      last = refl;
      rows = c.in_ok-push_numbers.ensures.rows;
      known = c.in_ok-push_numbers.ensures.known;
    }
