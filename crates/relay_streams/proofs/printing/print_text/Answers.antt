use Rattle.std.proofs.Common.{Ok, Result, subst}
use Rattle.std.specs.declared.io.Error.{Error}
use Rattle.byte_streams.specs.Sent.{SendsText}
use Rattle.relay_streams.specs.Shown.{Prints, stopped, unflushed, printed}
use Rattle.relay_streams.proofs.OutputLemmas.{prints-text, text-one}
use Rattle.relay_streams.proofs.printing.print_text.Goals as goal

pub returns-in-Err-clause-prints : goal.returns-in-Err-clause-prints
returns-in-Err-clause-prints g c =
    stopped c.in-Err.field-0
    (subst (λ (r : Result (Unit {0}) Error). SendsText g.W.ByteSink.takes c.args.output.now c.args.text.now r
    c.pump.new.to)
    c.in-Err.is
    (text-one g.row.W.Denot g.W.ByteSink.takes c.args.output.now c.pump.new.to c.args.text.now c.pump.result.1
    c.pump.result.0 c.pump.ensures))

pub returns-in-Ok-finish : goal.returns-in-Ok-finish
returns-in-Ok-finish g c =
    let sent = subst (λ (r : Result (Unit {0}) Error). SendsText g.W.ByteSink.takes c.args.output.now c.args.text.now r
    c.pump.new.to) c.in-Ok.is
    (text-one g.row.W.Denot g.W.ByteSink.takes c.args.output.now c.pump.new.to c.args.text.now c.pump.result.1
    c.pump.result.0 c.pump.ensures) in
    let r : Prints g.W.ByteSink.takes g.W.FlushSink.flushes c.args.output.now c.args.text.now (Ok tt)
    c.finish.new.self =
    printed c.pump.new.to sent c.in-Ok-finish.ensures.flushes in
    record {
      prints = r;
      written = prints-text g.row.W.Denot g.W.ByteSink.takes g.W.FlushSink.flushes g.W.FlushSink.contents
          g.met.W.FlushSink.tells g.met.W.FlushSink.keeps c.args.output.now c.args.text.now (Ok tt) c.finish.new.self r;
    }

pub returns-in-Err-finish-clause-prints : goal.returns-in-Err-finish-clause-prints
returns-in-Err-finish-clause-prints g c =
    let sent = subst (λ (r : Result (Unit {0}) Error). SendsText g.W.ByteSink.takes c.args.output.now c.args.text.now r
    c.pump.new.to) c.in-Ok.is
    (text-one g.row.W.Denot g.W.ByteSink.takes c.args.output.now c.pump.new.to c.args.text.now c.pump.result.1
    c.pump.result.0 c.pump.ensures) in
    unflushed c.pump.new.to c.in-Err-finish.field-0 sent c.in-Err-finish.ensures.flushes
