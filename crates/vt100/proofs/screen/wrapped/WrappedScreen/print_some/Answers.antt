use Rattle.std.proofs.Common.{refl}
use Rattle.printable.proofs.PrintableLemmas.{printable-boundary}
use Rattle.vt100.proofs.RunLemmas.{prefix-run}
use Rattle.vt100.proofs.screen.wrapped.WrappedScreen.print_some.Goals as goal

pub range_from-requires : goal.range_from-requires
range_from-requires g c =
    let n = c.printable_len-len.result in
    let within = rw c.as_bytes.ensures.value at c.printable_len-len.ensures.within in
    let printable = rw c.as_bytes.ensures.value at c.printable_len-len.ensures.printable in
    λ some. printable-boundary c.args.text.now n c.utf8.text within printable

pub returns-then-len-gt0-clause-printed : goal.returns-then-len-gt0-clause-printed
returns-then-len-gt0-clause-printed g c =
    let n = c.printable_len-len.result in
    let within = rw c.as_bytes.ensures.value at c.printable_len-len.ensures.within in
    let printable = rw c.as_bytes.ensures.value at c.printable_len-len.ensures.printable in
    rw c.range_from.ensures.value (prefix-run g.CB.Callbacks.step g.CB.Callbacks.scrolls c.args.text.now n _
    c.if-len-gt0.true within printable c.is_live.ensures.live (rw c.as_bytes-then-len-gt0.ensures.value at
    c.run.ensures))

pub run-requires-clause-drawn : goal.run-requires-clause-drawn
run-requires-clause-drawn g c =
    let printable = rw c.as_bytes.ensures.value at c.printable_len-len.ensures.printable in
    rw c.as_bytes-then-len-gt0.ensures.value (λ k d l. (refl, printable k d l))
