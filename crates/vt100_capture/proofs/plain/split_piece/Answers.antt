use Rattle.std.proofs.Common.{arith}
use Rattle.std.specs.Prelude.{Some, None}
use Rattle.std.proofs.lemmas.Str.Pattern.{split_parts}
use Rattle.vt100_capture.proofs.PlainLemmas.{pieces-whole, pieces-open, pieces-cut}
use Rattle.vt100_capture.proofs.plain.split_piece.Goals as goal

pub returns-in_default-clause-pieces : goal.returns-in_default-clause-pieces
returns-in_default-clause-pieces c =
    let none = split_parts 27 c.args.capture.now None c.in_default.ensures.cases (omega arith) in
    λ i. pieces-whole i i c.args.capture.now none

pub returns-in-Some-split_once-clause-pieces : goal.returns-in-Some-split_once-clause-pieces
returns-in-Some-split_once-clause-pieces c =
    let bs = c.in-Some.before.now in
    let cs = c.in-Some.after.now in
    let first = split_parts 27 c.args.capture.now (Some (c.in-Some.before, c.in-Some.after)) c.in-Some.ensures.cases
    (omega arith) in
    let second = split_parts 109 cs (Some (c.in-Some-split_once.field-0-0, c.in-Some-split_once.others))
    c.in-Some-split_once.ensures.cases (omega arith) in
    λ i. pieces-cut i c.args.capture.now bs cs c.in-Some-split_once.field-0-0.now c.in-Some-split_once.others.now
    first.0 first.1 second.0 second.1

pub returns-in-None-clause-pieces : goal.returns-in-None-clause-pieces
returns-in-None-clause-pieces c =
    let bs = c.in-Some.before.now in
    let cs = c.in-Some.after.now in
    let first = split_parts 27 c.args.capture.now (Some (c.in-Some.before, c.in-Some.after)) c.in-Some.ensures.cases
    (omega arith) in
    let none = split_parts 109 cs None c.in-None.ensures.cases (omega arith) in
    λ i. pieces-open i i c.args.capture.now bs cs first.0 first.1 none
