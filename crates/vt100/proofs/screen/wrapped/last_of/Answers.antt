use Rattle.std.proofs.Common.{◌<◌, ◌∙◌, Some, length, sym, ap, arith}
use Rattle.vt100.proofs.LastLemmas.{last_of-map}
use Rattle.vt100.proofs.screen.wrapped.last_of.Goals as goal

pub returns-in-len1-up : goal.returns-in-len1-up
returns-in-len1-up g c =
    let some : 0 < length c.args.text.now = omega (arith, c.in-len1-up.len_at_least) in
    ap Some c.to_char.ensures
    ∙ sym (last_of-map g.G.Glyph.code c.args.text.now c.args.last c.glyph-item.result some c.glyph-item.is)
