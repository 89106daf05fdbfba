use Rattle.std.proofs.Common.{ℕ, List, slice_index, ap, arith}
use Rattle.vt100_cells.proofs.Char3Lemmas.{begins-two}
use Rattle.vt100_cells.proofs.char3.begins_two_bytes.Goals as goal

pub returns-in-192-to-223 : goal.returns-in-192-to-223
returns-in-192-to-223 c _ =
    let e = ap (λ (l : List ℕ). slice_index l 0) c.as_bytes.ensures.value in
    begins-two c.args.text.now c.utf8.text (omega (arith, e)) (omega (arith, e))
