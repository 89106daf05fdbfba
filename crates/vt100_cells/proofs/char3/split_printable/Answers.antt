use Rattle.std.proofs.Common.{arith}
use Rattle.vt100_cells.proofs.NarrowLemmas.{narrow-printable_is}
use Rattle.vt100_cells.proofs.Char3Lemmas.{split-one, one-is}
use Rattle.vt100_cells.proofs.char3.split_printable.Goals as goal

pub invariant_of-c : goal.invariant_of-c
invariant_of-c c =
    (split-one c.args.text.now c.as_bytes-bytes.result.now c.utf8.text c.requires c.as_bytes-bytes.ensures.value).short

pub from_utf8_unchecked-requires : goal.from_utf8_unchecked-requires
from_utf8_unchecked-requires c =
    (split-one c.args.text.now c.as_bytes-bytes.result.now c.utf8.text c.requires c.as_bytes-bytes.ensures.value).utf8

pub returns-clause-parts : goal.returns-clause-parts
returns-clause-parts c =
    (split-one c.args.text.now c.as_bytes-bytes.result.now c.utf8.text c.requires c.as_bytes-bytes.ensures.value).parts
    _
    c.from_utf8_unchecked.ensures

pub returns-clause-narrow : goal.returns-clause-narrow
returns-clause-narrow c =
    narrow-printable_is _ (one-is c.args.text.now c.as_bytes-bytes.result.now c.utf8.text c.requires
    c.as_bytes-bytes.ensures.value)

pub returns-clause-below : goal.returns-clause-below
returns-clause-below c =
    let p = one-is c.args.text.now c.as_bytes-bytes.result.now c.utf8.text c.requires c.as_bytes-bytes.ensures.value in
    omega (arith, p.1)
