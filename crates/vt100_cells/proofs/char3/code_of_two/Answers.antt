use Rattle.std.proofs.Common.{arith}
use Rattle.vt100_cells.proofs.Char3Lemmas.{code-two}
use Rattle.vt100_cells.proofs.char3.code_of_two.Goals as goal

pub overflow_sub-result : goal.overflow_sub-result
overflow_sub-result c =
    let code = code-two c.args.text.now c.as_bytes-bytes.result.now c.utf8.text c.requires
    c.as_bytes-bytes.ensures.value in
    omega (arith, code, c.from.ensures, c.from-2.ensures)

pub returns : goal.returns
returns c =
    let code = code-two c.args.text.now c.as_bytes-bytes.result.now c.utf8.text c.requires
    c.as_bytes-bytes.ensures.value in
    omega (arith, code, c.from.ensures, c.from-2.ensures)
