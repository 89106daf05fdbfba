use Rattle.std.proofs.Common.{◌≡◌, ◌∙◌, ◌++◌, ◌+◌, ap, ℕ, List, Ok, Err, drop, sym}
use Rattle.std.proofs.lemmas.List.{at_drop_more, drop_all}
use Rattle.std.specs.Borrow.{Bor}
use Rattle.std.specs.List.{flat_map}
use Rattle.byte_streams.specs.Sent.{broken, done, part}
use Rattle.screentext_command.proofs.streams.tell.Goals as goal

abbrev joined : List (Bor (List ℕ)) → List ℕ
joined parts = flat_map (λ part. part.now) parts

pub returns-in-Err : goal.returns-in-Err
returns-in-Err g c =
    let e = c.in-Err.field-0 in
    let rest = joined (drop (c.loop-part.part-index + 1) c.args.parts.now) in
    let owed : joined (drop c.loop-part.part-index c.args.parts.now) ≡ c.as_bytes.result.now ++ rest =
    at_drop_more joined c.args.parts.now c.loop-part.part-index _ c.loop-part-test.true
    ∙ ap (λ bytes. bytes ++ rest) (sym c.as_bytes.ensures.value) in
    (Err e, c.loop-part.invariant _ (Err e) (rw owed (broken rest (rw c.in-Err.is at c.pump.ensures))))

pub loop-part-preserved : goal.loop-part-preserved
loop-part-preserved g c = λ t answer sent.
    let rest = joined (drop (c.loop-part.part-index + 1) c.args.parts.now) in
    let owed : joined (drop c.loop-part.part-index c.args.parts.now) ≡ c.as_bytes.result.now ++ rest =
    at_drop_more joined c.args.parts.now c.loop-part.part-index _ c.loop-part-test.true
    ∙ ap (λ bytes. bytes ++ rest) (sym c.as_bytes.ensures.value) in
    c.loop-part.invariant t answer (rw owed (part c.pump.new.to (rw c.in-Ok.is at c.pump.ensures) sent))

pub returns : goal.returns
returns g c =
    (Ok tt, c.loop-part.invariant _ (Ok tt) (rw (drop_all c.loop-part.part-index c.args.parts.now c.loop-part-test.false) done))
