use Rattle.std.proofs.lemmas.Result.{err_from_is_err_and}
use Rattle.std.proofs.Common.{◌≡◌, Err, ◌∙◌, ap}
use Rattle.relay_streams.specs.declared.error.RelayError.TheVariants.{Memory}
use Rattle.relay_streams.specs.Shown.{Shows, sized, refused, unread, shown}
use Rattle.relay_streams.proofs.OutcomeLemmas.{shows-text, shows-prefix}
use Rattle.relay_streams.proofs.ViewLemmas.{shown_so, size_is}
use Rattle.relay_streams.proofs.showing.show.Goals as goal

pub returns-in_err-view-clause-shows : goal.returns-in_err-view-clause-shows
returns-in_err-view-clause-shows g c =
    let made = c.from_residual in
    let p = err_from_is_err_and made.result made.ensures.1 in
    let is : c.from_residual.result ≡ Err Memory = p.1 ∙ ap Err p.2 in
    rw is refused

pub returns-in_err-read_view : goal.returns-in_err-read_view
returns-in_err-read_view g c =
    let fault = c.in_err-read_view.field-0.0 in
    let made = c.from_residual-in_err-read_view in
    let p = err_from_is_err_and made.result made.ensures.1 in
    let is : c.from_residual-in_err-read_view.result ≡ Err fault = p.1 ∙ ap Err p.2 in
    let read = c.in_err-read_view.ensures in
    let r : Shows g.S.Source.gives g.W.ByteSink.takes g.W.FlushSink.flushes (sized c.args.rows.value c.args.cols.value)
    c.args.input.now c.args.output.now c.from_residual-in_err-read_view.result c.read_view.new.input
    c.args.output.now =
    rw is (unread read.0 fault read.1) in
    record {
      shows = r;
      text = shows-text g.row.S.Denot g.row.W.Denot g.S.Source.gives g.W.ByteSink.takes g.W.FlushSink.flushes
          g.W.FlushSink.contents g.S.Source.left g.met.S.Source.tells g.met.W.FlushSink.tells g.met.W.FlushSink.keeps _
          _ _ _ _ _ r;
      prefix = shows-prefix g.row.S.Denot g.row.W.Denot g.S.Source.gives g.W.ByteSink.takes g.W.FlushSink.flushes
          g.W.FlushSink.contents g.S.Source.left g.met.S.Source.tells g.met.W.FlushSink.tells g.met.W.FlushSink.keeps _
          _ _ _ _ _ r;
    }

pub returns : goal.returns
returns g c =
    let read = c.in_ok-read_view.ensures in
    let fresh = c.in_ok-view.ensures.exact (λ b e. e ∙ c.new.ensures) in
    let size = size_is _ _ _ c.in_ok-view.ensures.rows c.in_ok-view.ensures.cols in
    let made = shown_so _ _ _ read.0 fresh size read.2 in
    let r : Shows g.S.Source.gives g.W.ByteSink.takes g.W.FlushSink.flushes (sized c.args.rows.value c.args.cols.value)
    c.args.input.now c.args.output.now c.print_view.result c.read_view.new.input c.print_view.new.output =
    shown read.0 _ read.1 made c.print_view.ensures in
    record {
      shows = r;
      text = shows-text g.row.S.Denot g.row.W.Denot g.S.Source.gives g.W.ByteSink.takes g.W.FlushSink.flushes
          g.W.FlushSink.contents g.S.Source.left g.met.S.Source.tells g.met.W.FlushSink.tells g.met.W.FlushSink.keeps _
          _ _ _ _ _ r;
      prefix = shows-prefix g.row.S.Denot g.row.W.Denot g.S.Source.gives g.W.ByteSink.takes g.W.FlushSink.flushes
          g.W.FlushSink.contents g.S.Source.left g.met.S.Source.tells g.met.W.FlushSink.tells g.met.W.FlushSink.keeps _
          _ _ _ _ _ r;
    }
