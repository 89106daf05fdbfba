use Rattle.std.proofs.Common.{◌∙◌, arith}
use Rattle.std.proofs.lemmas.Grind.{common_steps}
use Rattle.std.proofs.lemmas.List.{length-set}
use Rattle.row_pictures.proofs.ThemeLemmas.{first_more, theme_is}
use Rattle.row_pictures.proofs.theme.theme_of.Goals as goal

pub loop-i-preserved : goal.loop-i-preserved
loop-i-preserved c = record {
  sixteen = length-set c.loop-i.first c.loop-i.i c.rgb.result ∙ c.loop-i.invariant.sixteen;
  colors = first_more c.args.colors.now c.loop-i.first c.loop-i.i _ c.rgb.result (omega arith) c.rgb.ensures
      (grind (arith, common_steps)) c.loop-i.invariant.colors;
}

pub returns : goal.returns
returns c =
    theme_is c.args.colors.now c.loop-i.first c.rgb-2.result c.rgb-3.result (omega arith) c.loop-i.invariant.sixteen
    c.rgb-2.ensures c.rgb-3.ensures (λ k lt. c.loop-i.invariant.colors k (omega arith))
