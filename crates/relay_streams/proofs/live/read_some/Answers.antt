use Rattle.std.proofs.Common.{◌≡◌, ◌+◌, Ok, Err, arith, rules}
use Rattle.std.specs.IoError.{error_kind}
use Rattle.std.specs.declared.io.ErrorKind.TheVariants.{Interrupted}
use Rattle.relay_streams.specs.declared.error.RelayError.TheVariants.{Read, TooManyReads}
use Rattle.relay_streams.specs.Live.{gave, failed, stopped}
use Rattle.relay_streams.proofs.LiveLemmas.{interrupted, tried}
use Rattle.relay_streams.proofs.live.read_some.Goals as goal

pub returns-in-Ok : goal.returns-in-Ok
returns-in-Ok g c =
    let inv = c.reading.invariant in
    let read = rw inv.room at c.in-Ok.ensures.gives in
    tried inv.tries c.give.new.self c.args.reads.now (c.reading.reads + 1) c.give.new.room (Ok c.in-Ok.n) (gave read)
    (omega (arith, inv.counted)) (omega arith)
    (omega (arith, c.in-Ok.ensures.bound.0, c.give.auto.room, inv.room)) (omega arith)

pub returns-then-ne : goal.returns-then-ne
returns-then-ne g c =
    let inv = c.reading.invariant in
    let read = rw inv.room at c.in-Err.ensures.gives in
    tried inv.tries c.give.new.self c.args.reads.now (c.reading.reads + 1) c.give.new.room (Err Read)
    (failed read (search rules)) (omega (arith, inv.counted)) (omega arith) tt tt

pub reading-preserved : goal.reading-preserved
reading-preserved g c =
    let inv = c.reading.invariant in
    let read = rw inv.room at c.in-Err.ensures.gives in
    let is : error_kind c.in-Err.error ≡ Interrupted = search rules in
    record {
      most = omega arith;
      made = inv.made + 1;
      counted = omega (arith, inv.counted);
      room = omega (arith, c.give.auto.room, inv.room);
      tries = interrupted inv.tries c.give.new.self c.in-Err.error read is;
    }

pub returns : goal.returns
returns g c =
    let inv = c.reading.invariant in
    tried inv.tries c.reading.input c.args.reads.now c.reading.reads c.reading.room (Err TooManyReads) stopped
    (omega (arith, inv.counted)) (omega (arith, inv.most)) tt tt
