use Rattle.vt100_cells.proofs.Char3Lemmas.{split-two}
use Rattle.vt100_cells.proofs.char3.split_two_bytes.Goals as goal

pub invariant_of-c : goal.invariant_of-c
invariant_of-c c =
    (split-two c.args.text.now c.as_bytes-bytes.result.now c.utf8.text c.requires c.as_bytes-bytes.ensures.value).short

pub from_utf8_unchecked-requires : goal.from_utf8_unchecked-requires
from_utf8_unchecked-requires c =
    (split-two c.args.text.now c.as_bytes-bytes.result.now c.utf8.text c.requires c.as_bytes-bytes.ensures.value).utf8

pub returns-clause-parts : goal.returns-clause-parts
returns-clause-parts c =
    (split-two c.args.text.now c.as_bytes-bytes.result.now c.utf8.text c.requires c.as_bytes-bytes.ensures.value).parts
    _
    c.from_utf8_unchecked.ensures
