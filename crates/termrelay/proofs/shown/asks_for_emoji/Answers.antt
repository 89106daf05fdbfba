use Rattle.std.proofs.Common.{◌≡◌, ◌∙◌, ◌==◌, ◌<◌, length, encode_utf8_all, arith, rules, tests, ap, sym}
use Rattle.std.specs.List.{list_any}
use Rattle.std.proofs.lemmas.Bool.{lt-leb}
use Rattle.std.proofs.lemmas.Iterator.{YieldsList-from_chars}
use Rattle.std.proofs.lemmas.Iterator.Search.{any_from_yields_List}
use Rattle.termrelay.proofs.ShownLemmas.{short-asks_not}
use Rattle.termrelay.proofs.shown.asks_for_emoji.Goals as goal

pub returns-then-text-len_utf8 : goal.returns-then-text-len_utf8
returns-then-text-len_utf8 c =
    any_from_yields_List (λ x. x == 0xFE0F) _ _ c.any.result c.any.ensures.ran
    (YieldsList-from_chars c.contents-text.result.now c.contents-text.utf8 cc) (λ x b q k. search (rules, tests))
    ∙ ap (λ xs. list_any (λ x. x == 0xFE0F) xs) c.contents-text.ensures.characters

pub returns-else-text-len_utf8 : goal.returns-else-text-len_utf8
returns-else-text-len_utf8 c =
    let text = c.args.cell.now.text in
    let three : c.len_utf8.result ≡ 3 = c.len_utf8.ensures.value in
    let short : length (encode_utf8_all text) < 3 =
    omega (arith, three, c.if-text-len_utf8.false, ap (λ bs. length bs) c.contents-text.ensures.bytes) in
    lt-leb c.len_utf8.result (length c.contents-text.result.now) c.if-text-len_utf8.false
    ∙ sym (short-asks_not text short)
