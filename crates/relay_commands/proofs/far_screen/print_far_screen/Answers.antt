use Rattle.std.proofs.lemmas.Result.{err_from_is_err_and}
use Rattle.std.proofs.Common.{◌≡◌, ◌∙◌, ap, arith, refl, rules, Err}
use Rattle.std.proofs.lemmas.Result.{err_from_is_err_and}
use Rattle.relay_streams.specs.declared.error.RelayError.TheVariants.{Memory}
use Rattle.relay_streams.specs.Turns.{fault_of}
use Rattle.relay_streams.proofs.StreamLemmas.{attach-refused}
use Rattle.relay_streams.proofs.TurnLemmas.{first-attached}
use Rattle.relay_streams.proofs.ViewLemmas.{shown_so, size_is}
use Rattle.relay_commands.specs.Carried.{PrintsFar, broken, printed, refused}
use Rattle.relay_commands.specs.Ends.{from, onto}
use Rattle.relay_commands.proofs.CarryLemmas.{far-text}
use Rattle.relay_commands.proofs.EndLemmas.{appends-screen}
use Rattle.relay_commands.proofs.far_screen.print_far_screen.Goals as goal

pub returns-in_err-hub-clause-prints : goal.returns-in_err-hub-clause-prints
returns-in_err-hub-clause-prints g c =
    let is : c.from_residual.result ≡ Err Memory = search rules in
    rw is (refused refl refl)

pub returns-in_err-client-clause-prints : goal.returns-in_err-client-clause-prints
returns-in_err-client-clause-prints g c =
    let e = c.in_err-client.field-0.0 in
    let none = attach-refused c.in_ok-hub.hub c.attach.new.self e c.in_err-client.ensures in
    let made = c.from_residual-in_err-client in
    let p = err_from_is_err_and made.result made.ensures.1 in
    let reported : c.from_residual-in_err-client.result ≡ Err (fault_of e) = p.1 ∙ ap Err p.2 in
    let is : c.from_residual-in_err-client.result ≡ Err Memory = reported ∙ ap Err none in
    rw is (refused refl refl)

pub returns-in_err-view-clause-prints : goal.returns-in_err-view-clause-prints
returns-in_err-view-clause-prints g c =
    let made = c.from_residual-in_err-view in
    let p = err_from_is_err_and made.result made.ensures.1 in
    let is : c.from_residual-in_err-view.result ≡ Err Memory = p.1 ∙ ap Err p.2 in
    rw is (refused refl refl)

pub returns-in_err-carry_frames-clause-prints : goal.returns-in_err-carry_frames-clause-prints
returns-in_err-carry_frames-clause-prints g c =
    let e = c.in_err-carry_frames.field-0.0 in
    let at = first-attached c.args.rows.value c.args.cols.value c.in_ok-client.client c.in_ok-hub.hub
    c.attach.new.self (c.args.rows.ok, omega arith) (c.args.cols.ok, omega arith) c.in_ok-hub.ensures.new
    c.in_ok-client.ensures in
    let made = c.from_residual-in_err-carry_frames in
    let p = err_from_is_err_and made.result made.ensures.1 in
    let is : c.from_residual-in_err-carry_frames.result ≡ Err e = p.1 ∙ ap Err p.2 in
    let read = c.in_err-carry_frames.ensures c.args.rows.value c.args.cols.value c.args.lines at c.new-filter.ensures.passed in
    rw is (broken read.0 e read.1 refl)

pub returns : goal.returns
returns g c =
    let rows = c.args.rows.value in
    let cols = c.args.cols.value in
    let at = first-attached rows cols c.in_ok-client.client c.in_ok-hub.hub
    c.attach.new.self (c.args.rows.ok, omega arith) (c.args.cols.ok, omega arith) c.in_ok-hub.ensures.new
    c.in_ok-client.ensures in
    let read = c.in_ok-carry_frames.ensures rows cols c.args.lines at c.new-filter.ensures.passed in
    let carried = read.2 in
    let fresh = c.in_ok-view.ensures.exact (λ b e. e ∙ c.new-2.ensures) in
    let size = size_is _ _ _ c.in_ok-view.ensures.rows c.in_ok-view.ensures.cols in
    let r : PrintsFar c.args.lines
    (from g.S.Source.gives c.args.input.now c.carry_frames.new.input)
    (onto g.W.ByteSink.takes c.args.output.now c.print_view.new.output) g.W.FlushSink.flushes rows cols
    c.print_view.result =
    printed read.0 carried.pieces _ read.1 carried.joined (shown_so _ _ _ carried.pieces fresh size carried.led)
    c.print_view.ensures in
    let text = far-text g.row.S.Denot g.row.W.Denot g.S.Source.gives g.W.ByteSink.takes g.W.FlushSink.flushes
    g.W.FlushSink.contents g.S.Source.left g.met.S.Source.tells g.met.W.FlushSink.tells g.met.W.FlushSink.keeps
    c.args.lines rows cols _ _ _ _ _ r in
    record {
      prints = r;
      text = text;
      shows = appends-screen c.args.lines rows cols _ _ _ _ text;
    }
