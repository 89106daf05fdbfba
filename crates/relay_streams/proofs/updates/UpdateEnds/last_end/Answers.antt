use Rattle.std.proofs.Common.{◌++◌, false, refl, take, arith}
use Rattle.relay_streams.specs.declared.updates.EndSeen.{EndSeen}
use Rattle.relay_streams.proofs.UpdateLemmas.{ends-on, none-on, reads-on}
use Rattle.relay_streams.proofs.updates.UpdateEnds.last_end.Goals as goal

pub loop-read-preserved-then-seen : goal.loop-read-preserved-then-seen
loop-read-preserved-then-seen c =
    let so_far = c.loop-read.invariant in
    let call = c.advance_until_terminated-read in
    let read = c.loop-read.read in
    let bytes = c.args.bytes.now in
    let fresh : EndSeen = record { ended = false } in
    record {
      within = omega (arith, so_far.within, call.ensures.within);
      least = omega (arith, so_far.least);
      reads = λ past h. reads-on past bytes read call.result call.new.self
          (call.ensures.state_after (past ++ take read bytes) (so_far.reads past h));
      last = λ past h. ends-on past bytes read call.result fresh call.new.performer refl
          (call.ensures.stops (past ++ take read bytes) (so_far.reads past h)) c.if-seen.true so_far.within;
    }

pub loop-read-preserved : goal.loop-read-preserved
loop-read-preserved c =
    let so_far = c.loop-read.invariant in
    let call = c.advance_until_terminated-read in
    let read = c.loop-read.read in
    let bytes = c.args.bytes.now in
    let fresh : EndSeen = record { ended = false } in
    record {
      within = omega (arith, so_far.within, call.ensures.within);
      least = omega (arith, so_far.least);
      reads = λ past h. reads-on past bytes read call.result call.new.self
          (call.ensures.state_after (past ++ take read bytes) (so_far.reads past h));
      last = λ past h. none-on past bytes read call.result fresh call.new.performer refl
          (call.ensures.stops (past ++ take read bytes) (so_far.reads past h)) c.loop-read.end c.if-seen.false
          (so_far.last past h);
    }
