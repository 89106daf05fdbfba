use Rattle.std.proofs.Common.{◌≡◌, arith, refl, get_or, take, ◌∷◌, []}
use Rattle.std.proofs.lemmas.List.{take_more}
use Rattle.vte_core.proofs.parser.esc_len.Goals as goal

pub loop-len-init : goal.loop-len-init
loop-len-init c =
    let bs = c.args.bytes.now in
    let first : take 1 bs ≡ get_or bs 0 0 ∷ [] = take_more bs 0 0 c.requires.some in
    record {
      some = omega arith;
      within = omega (arith, c.requires.some);
      escs = rw (first, c.requires.esc) refl;
    }
