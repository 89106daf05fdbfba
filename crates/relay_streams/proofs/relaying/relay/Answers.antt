use Rattle.std.proofs.lemmas.Result.{err_from_is_err_and}
use Rattle.std.proofs.Common.{◌≡◌, Ok, Err, ap, ◌∙◌, rules, arith}
use Rattle.relay_streams.specs.declared.error.RelayError.TheVariants.{Memory}
use Rattle.relay_streams.specs.Relayed.{Relays, refused, broken, unflushed, written}
use Rattle.relay_streams.specs.Turns.{fault_of}
use Rattle.relay_streams.proofs.OutcomeLemmas.{relays-reported}
use Rattle.relay_streams.proofs.StreamLemmas.{attach-refused}
use Rattle.relay_streams.proofs.TurnLemmas.{first-attached}
use Rattle.relay_streams.proofs.relaying.relay.Goals as goal

pub returns-in_err-hub-clause-relays : goal.returns-in_err-hub-clause-relays
returns-in_err-hub-clause-relays g c =
    let is : c.from_residual.result ≡ Err Memory = search rules in
    rw is refused

pub returns-in_err-client : goal.returns-in_err-client
returns-in_err-client g c =
    let e = c.in_err-client.field-0.0 in
    let none = attach-refused c.in_ok-hub.hub c.attach.new.self e c.in_err-client.ensures in
    let made = c.from_residual-in_err-client in
    let p = err_from_is_err_and made.result made.ensures.1 in
    let reported : c.from_residual-in_err-client.result ≡ Err (fault_of e) = p.1 ∙ ap Err p.2 in
    let is : c.from_residual-in_err-client.result ≡ Err Memory = reported ∙ ap Err none in
    let r : Relays g.S.Source.gives g.W.ByteSink.takes g.W.FlushSink.flushes c.args.rows.value c.args.cols.value
    c.args.input.now c.args.output.now c.from_residual-in_err-client.result c.args.input.now c.args.output.now =
    rw is refused in
    let reported = relays-reported g.row.S.Denot g.row.W.Denot g.S.Source.gives g.W.ByteSink.takes g.W.FlushSink.flushes
    g.W.FlushSink.contents g.S.Source.left g.met.S.Source.tells g.met.W.FlushSink.tells g.met.W.FlushSink.keeps _ _ _ _
    _ _ _ r in
    record { relays = r; text = reported.0; prefix = reported.1; too_long = reported.2 }

pub returns-in_err-relay_pieces : goal.returns-in_err-relay_pieces
returns-in_err-relay_pieces g c =
    let e = c.in_err-relay_pieces.field-0.0 in
    let at = first-attached c.args.rows.value c.args.cols.value c.in_ok-client.client c.in_ok-hub.hub
    c.attach.new.self (c.args.rows.ok, omega arith) (c.args.cols.ok, omega arith) c.in_ok-hub.ensures.new
    c.in_ok-client.ensures in
    let made = c.from_residual-in_err-relay_pieces in
    let p = err_from_is_err_and made.result made.ensures.1 in
    let is : c.from_residual-in_err-relay_pieces.result ≡ Err e = p.1 ∙ ap Err p.2 in
    let r : Relays g.S.Source.gives g.W.ByteSink.takes g.W.FlushSink.flushes c.args.rows.value c.args.cols.value
    c.args.input.now c.args.output.now c.from_residual-in_err-relay_pieces.result c.relay_pieces.new.input
    c.relay_pieces.new.output =
    rw is (broken e (c.in_err-relay_pieces.ensures c.args.rows.value c.args.cols.value at)) in
    let reported = relays-reported g.row.S.Denot g.row.W.Denot g.S.Source.gives g.W.ByteSink.takes g.W.FlushSink.flushes
    g.W.FlushSink.contents g.S.Source.left g.met.S.Source.tells g.met.W.FlushSink.tells g.met.W.FlushSink.keeps _ _ _ _
    _ _ _ r in
    record { relays = r; text = reported.0; prefix = reported.1; too_long = reported.2 }

pub returns-in-Ok : goal.returns-in-Ok
returns-in-Ok g c =
    let at = first-attached c.args.rows.value c.args.cols.value c.in_ok-client.client c.in_ok-hub.hub
    c.attach.new.self (c.args.rows.ok, omega arith) (c.args.cols.ok, omega arith) c.in_ok-hub.ensures.new
    c.in_ok-client.ensures in
    let r : Relays g.S.Source.gives g.W.ByteSink.takes g.W.FlushSink.flushes c.args.rows.value c.args.cols.value
    c.args.input.now c.args.output.now (Ok tt) c.relay_pieces.new.input c.finish.new.self =
    written c.relay_pieces.new.output
    (c.in_ok-relay_pieces.ensures c.args.rows.value c.args.cols.value at) c.in-Ok.ensures.flushes in
    let reported = relays-reported g.row.S.Denot g.row.W.Denot g.S.Source.gives g.W.ByteSink.takes g.W.FlushSink.flushes
    g.W.FlushSink.contents g.S.Source.left g.met.S.Source.tells g.met.W.FlushSink.tells g.met.W.FlushSink.keeps _ _ _ _
    _ _ _ r in
    record { relays = r; text = reported.0; prefix = reported.1; too_long = reported.2 }

pub returns-in-Err : goal.returns-in-Err
returns-in-Err g c =
    let at = first-attached c.args.rows.value c.args.cols.value c.in_ok-client.client c.in_ok-hub.hub
    c.attach.new.self (c.args.rows.ok, omega arith) (c.args.cols.ok, omega arith) c.in_ok-hub.ensures.new
    c.in_ok-client.ensures in
    let r =
    unflushed c.relay_pieces.new.output c.in-Err.field-0
    (c.in_ok-relay_pieces.ensures c.args.rows.value c.args.cols.value at) c.in-Err.ensures.flushes in
    let reported = relays-reported g.row.S.Denot g.row.W.Denot g.S.Source.gives g.W.ByteSink.takes g.W.FlushSink.flushes
    g.W.FlushSink.contents g.S.Source.left g.met.S.Source.tells g.met.W.FlushSink.tells g.met.W.FlushSink.keeps _ _ _ _
    _ _ _ r in
    record { relays = r; text = reported.0; prefix = reported.1; too_long = reported.2 }
