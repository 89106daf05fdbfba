use Rattle.std.proofs.lemmas.Result.{err_from_is_err_and}
use Rattle.std.proofs.Common.{◌≡◌, ◌∙◌, ap, Err, arith, rules}
use Rattle.relay_streams.specs.declared.error.RelayError.TheVariants.{Memory}
use Rattle.relay_streams.specs.Live.{RelaysThrough, refused, streamed}
use Rattle.relay_streams.specs.Turns.{fault_of}
use Rattle.relay_streams.proofs.LiveLemmas.{live-reported}
use Rattle.relay_streams.proofs.StreamLemmas.{attach-refused}
use Rattle.relay_streams.proofs.TurnLemmas.{first-attached}
use Rattle.relay_streams.proofs.live.relay_live_with.Goals as goal

pub returns-in_err-hub : goal.returns-in_err-hub
returns-in_err-hub g c =
    let is : c.from_residual.result ≡ Err Memory = search rules in
    let r : RelaysThrough c.args.lines g.S.Source.gives g.W.ByteSink.takes g.W.FlushSink.flushes c.args.rows.value
    c.args.cols.value c.args.input.now c.args.output.now c.from_residual.result c.args.input.now c.args.output.now =
    rw is refused in
    let reported = live-reported g.row.S.Denot g.row.W.Denot g.S.Source.gives g.W.ByteSink.takes g.W.FlushSink.flushes
    g.W.FlushSink.contents g.S.Source.left g.met.S.Source.tells g.met.W.FlushSink.tells g.met.W.FlushSink.keeps
    c.args.rows.value
    c.args.cols.value c.args.lines _ _ _ _ _ (c.args.rows.ok, omega arith) (c.args.cols.ok, omega arith) r in
    record { relays = r; text = reported.0; prefix = reported.1 }

pub returns-in_err-client : goal.returns-in_err-client
returns-in_err-client g c =
    let e = c.in_err-client.field-0.0 in
    let none = attach-refused c.in_ok-hub.hub c.attach.new.self e c.in_err-client.ensures in
    let made = c.from_residual-in_err-client in
    let p = err_from_is_err_and made.result made.ensures.1 in
    let fault : c.from_residual-in_err-client.result ≡ Err (fault_of e) = p.1 ∙ ap Err p.2 in
    let is : c.from_residual-in_err-client.result ≡ Err Memory = fault ∙ ap Err none in
    let r : RelaysThrough c.args.lines g.S.Source.gives g.W.ByteSink.takes g.W.FlushSink.flushes c.args.rows.value
    c.args.cols.value c.args.input.now c.args.output.now c.from_residual-in_err-client.result c.args.input.now
    c.args.output.now =
    rw is refused in
    let reported = live-reported g.row.S.Denot g.row.W.Denot g.S.Source.gives g.W.ByteSink.takes g.W.FlushSink.flushes
    g.W.FlushSink.contents g.S.Source.left g.met.S.Source.tells g.met.W.FlushSink.tells g.met.W.FlushSink.keeps
    c.args.rows.value
    c.args.cols.value c.args.lines _ _ _ _ _ (c.args.rows.ok, omega arith) (c.args.cols.ok, omega arith) r in
    record { relays = r; text = reported.0; prefix = reported.1 }

pub returns : goal.returns
returns g c =
    let at = first-attached c.args.rows.value c.args.cols.value c.in_ok-client.client c.in_ok-hub.hub
    c.attach.new.self (c.args.rows.ok, omega arith) (c.args.cols.ok, omega arith) c.in_ok-hub.ensures.new
    c.in_ok-client.ensures in
    let r = streamed (c.relay_reads.ensures c.args.rows.value c.args.cols.value c.args.lines at c.new-filter.ensures.passed) in
    let reported = live-reported g.row.S.Denot g.row.W.Denot g.S.Source.gives g.W.ByteSink.takes g.W.FlushSink.flushes
    g.W.FlushSink.contents g.S.Source.left g.met.S.Source.tells g.met.W.FlushSink.tells g.met.W.FlushSink.keeps
    c.args.rows.value
    c.args.cols.value c.args.lines _ _ _ _ _ (c.args.rows.ok, omega arith) (c.args.cols.ok, omega arith) r in
    record { relays = r; text = reported.0; prefix = reported.1 }
