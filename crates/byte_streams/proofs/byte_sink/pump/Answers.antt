use Rattle.std.proofs.Common.{◌≡◌, [], Ok, Err, ◌+◌, drop, length, min}
use Rattle.std.proofs.Common.{ap, arith, length-drop, add-zero, add_assoc}
use Rattle.std.proofs.lemmas.List.{drop_all, take_rest}
use Rattle.byte_streams.specs.Pump.{all, nothing, fault}
use Rattle.byte_streams.proofs.PumpLemmas.{some-left, pumps-more}
use Rattle.byte_streams.proofs.byte_sink.pump.Goals as goal

pub returns-in-Ok-eq0 : goal.returns-in-Ok-eq0
returns-in-Ok-eq0 g c =
    let takes = rw (take_rest c.args.owed.now c.writes.taken, c.in-Ok-eq0.field-0-test) at c.in-Ok-eq0.ensures.takes in
    let done = c.writes.invariant.goes_on (Err c.from.result) 0 c.offer.new.self
    (nothing (some-left c.args.owed.now c.writes.taken (omega arith)) takes c.from.ensures) in
    rw add-zero at done

pub writes-preserved : goal.writes-preserved
writes-preserved g c =
    let owed = c.args.owed.now in
    let taken = c.writes.taken in
    let n = c.in-Ok.n in
    let takes = rw (take_rest owed taken) at c.in-Ok.ensures.takes in
    let m = c.min-taken.result in
    let least : m ≡ min n (length (drop taken owed)) =
    omega (arith, c.min-taken.ensures, ap length (take_rest owed taken), length-drop taken owed) in
    record {
      within = omega (arith, least, length-drop taken owed);
      goes_on = λ answer k t rest.
          let more = pumps-more g.row.T.Denot g.T.ByteSink.takes c.writes.to c.offer.new.self t owed taken n m k answer
          (omega arith) (omega (arith, c.in-Ok.n-test)) least takes rest in
          rw (add_assoc taken m k) (c.writes.invariant.goes_on answer (m + k) t more);
    }

pub returns-in-Err : goal.returns-in-Err
returns-in-Err g c =
    let takes = rw (take_rest c.args.owed.now c.writes.taken) at c.in-Err.ensures.takes in
    let done = c.writes.invariant.goes_on (Err c.in-Err.e) 0 c.offer.new.self
    (fault (some-left c.args.owed.now c.writes.taken (omega arith)) takes) in
    rw add-zero at done

pub returns : goal.returns
returns g c =
    let none : drop c.writes.taken c.args.owed.now ≡ [] =
    drop_all c.writes.taken c.args.owed.now (omega arith) in
    let done = c.writes.invariant.goes_on (Ok tt) 0 c.writes.to (rw none all) in
    rw add-zero at done
