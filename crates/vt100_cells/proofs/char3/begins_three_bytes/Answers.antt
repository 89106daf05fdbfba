use Rattle.std.proofs.Common.{ℕ, List, slice_index, ap, arith}
use Rattle.vt100_cells.proofs.Char3Lemmas.{begins-three}
use Rattle.vt100_cells.proofs.char3.begins_three_bytes.Goals as goal

pub returns-in-224-to-239 : goal.returns-in-224-to-239
returns-in-224-to-239 c _ =
    let e = ap (λ (l : List ℕ). slice_index l 0) c.as_bytes.ensures.value in
    begins-three c.args.text.now c.utf8.text (omega (arith, e)) (omega (arith, e))
