use Rattle.std.proofs.Common.{refl}
use Rattle.termview.proofs.BlankTerms.{blank-lines, blank-wraps}
use Rattle.termview.proofs.picture.Picture.new.Goals as goal

pub returns-clause-blank : goal.returns-clause-blank
returns-clause-blank c =
    let n = c.args.size.rows.value in
    let width = c.args.size.cols.value in
    let cells = blank-lines n width c.in_ok-blank.field-0 c.in_ok-blank.ensures in
    let flags = blank-wraps n width c.in_ok-blank.field-0 c.in_ok-blank.ensures in
    rw (cells, flags, c.new.ensures, c.new-2.ensures) refl
