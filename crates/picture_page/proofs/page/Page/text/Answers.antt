use Rattle.std.proofs.Common.{◌≡◌, ◌+◌, ◌++◌, ◌∷◌, [], take, get_or, subst}
use Rattle.std.proofs.lemmas.List.{take_more}
use Rattle.picture_page.proofs.PageLemmas.{adds_more, escaped_more}
use Rattle.picture_page.proofs.page.Page.text.Goals as goal

pub loop-byte-preserved : goal.loop-byte-preserved
loop-byte-preserved c =
    let text = c.args.text.now in
    let i = c.loop-byte.byte-index in
    let x = get_or c.as_bytes-byte-items.result.now i 0 in
    let more : take (i + 1) text ≡ take i text ++ x ∷ [] =
    subst (λ bytes. take (i + 1) bytes ≡ take i bytes ++ x ∷ []) c.as_bytes-byte-items.ensures.value
    (take_more c.as_bytes-byte-items.result.now i 0 c.loop-byte-test.true) in
    record {
      adds = adds_more _ _ _ text i x more c.loop-byte.invariant.adds c.in_ok-text_byte.ensures.adds;
      bytes = escaped_more _ _ _ text i x more c.loop-byte.invariant.bytes c.in_ok-text_byte.ensures.bytes;
    }
