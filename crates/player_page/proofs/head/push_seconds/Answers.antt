use Rattle.std.proofs.Common.{◌≡◌, ◌++◌, ◌^◌, ℕ, refl}
use Rattle.std.proofs.lemmas.Result.{on_ok_weaker}
use Rattle.picture_page.proofs.PageLemmas.{if_added, joined_more}
use Rattle.picture_page.specs.Tags.{tag_bytes}
use Rattle.recorded_screen.specs.Reel.{decimal_point}
use Rattle.player_page.proofs.head.push_seconds.Goals as goal

pub returns-clause-adds : goal.returns-clause-adds
returns-clause-adds c = if_added _ _ _ _ _ c.in_ok-markup.ensures.adds c.push_decimal.ensures.adds

pub returns-clause-bytes : goal.returns-clause-bytes
returns-clause-bytes c =
    on_ok_weaker c.push_decimal.result (λ (bytes : (places : ℕ) → 1000000 ≡ 10 ^ places
    → c.push_decimal.new.page ≡ c.markup.new.self ++ decimal_point places c.args.millionths).
    joined_more c.args.page.now c.markup.new.self c.push_decimal.new.page (tag_bytes c.args.tag)
    (decimal_point 6 c.args.millionths) c.in_ok-markup.ensures.bytes (bytes 6 refl)) c.push_decimal.ensures.bytes
