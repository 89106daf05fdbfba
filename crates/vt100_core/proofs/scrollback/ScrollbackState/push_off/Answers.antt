use Rattle.std.proofs.Common.{arith, ◌≡◌, ◌-◌, ◌∙◌, ◌++◌, ap, min, take, map, slice_range, length}
use Rattle.vt100_rows.specs.Row.{trimmed, blank_row}
use Rattle.vt100_rows.specs.Sheet.{rows_by_position, changed_between}
use Rattle.vt100_rows.specs.Sink.{TakesAll}
use Rattle.vt100_core.specs.KeptFields.{kept_of}
use Rattle.vt100_core.specs.Scroll.{pushed_out}
use Rattle.vt100_core.proofs.KeepLemmas.{pushes, pushed}
use Rattle.vt100_rows.proofs.SinkLemmas.{TakesAll-append, TakesAll-list}
use Rattle.vt100_core.proofs.scrollback.ScrollbackState.push_off.Given.{Over}
use Rattle.vt100_core.proofs.scrollback.ScrollbackState.push_off.Goals.{After-give_first}
use Rattle.vt100_core.proofs.scrollback.ScrollbackState.push_off.Goals as goal

pub returns-clause-kept : goal.returns-clause-kept
returns-clause-kept g c =
    let s = c.args.self.now in
    let over : c.saturating_sub.result ≡ min c.args.n s.capacity - (s.capacity - length s.rows.items) = omega arith in
    let first : c.args.n - c.min-fits.result ≡ c.args.n - min c.args.n s.capacity = omega arith in
    pushes (kept_of s) c.args.rows.now c.drop_oldest.new.rows.items c.keep_rows.new.kept.items c.args.n
    c.saturating_sub.result c.saturating_add-self.result c.requires.in_rows c.requires.valid.fits over
    c.drop_oldest.ensures.kept (c.in_ok-keep_rows.ensures.kept
    ∙ ap (λ m. c.drop_oldest.new.rows.items ++ map trimmed (slice_range c.args.rows.now m c.args.n)) first)
    (omega arith)

-- what the sink has been given once `give_first` has returned
given : (g : Over) (c : After-give_first g) → TakesAll g.S.RowSink.takes c.args.sink.now
    (pushed_out (kept_of c.args.self.now) (take c.args.n c.args.rows.now)) c.give_first.new.sink
given g c =
    let s = c.args.self.now in
    let over : c.saturating_sub.result ≡ min c.args.n s.capacity - (s.capacity - length s.rows.items) = omega arith in
    let first : c.args.n - c.min-fits.result ≡ c.args.n - min c.args.n s.capacity = omega arith in
    TakesAll-list g.S.RowSink.takes c.args.sink.now c.give_first.new.sink (take c.saturating_sub.result s.rows.items
    ++ take (c.args.n - c.min-fits.result) c.args.rows.now) (pushed_out (kept_of s) (take c.args.n c.args.rows.now))
    (ap (λ m. take c.saturating_sub.result s.rows.items ++ take m c.args.rows.now) first
    ∙ pushed (kept_of s) c.args.rows.now c.args.n c.saturating_sub.result c.requires.in_rows c.requires.valid.fits
    over)
    (TakesAll-append g.S.RowSink.takes c.args.sink.now c.drop_oldest.new.sink c.give_first.new.sink
    (take c.saturating_sub.result s.rows.items) (take (c.args.n - c.min-fits.result) c.args.rows.now)
    c.drop_oldest.ensures.sink c.give_first.ensures)

pub returns-clause-sink : goal.returns-clause-sink
returns-clause-sink g c = given g (goal.at.returns-clause-sink g c).After-give_first

pub returns-in_err-keep_rows-clause-sink : goal.returns-in_err-keep_rows-clause-sink
returns-in_err-keep_rows-clause-sink g c = given g (goal.at.returns-in_err-keep_rows-clause-sink g c).After-give_first

pub returns-clause-rows : goal.returns-clause-rows
returns-clause-rows g c =
    let first : c.args.n - c.min-fits.result ≡ c.args.n - min c.args.n c.args.self.now.capacity = omega arith in
    c.in_ok-keep_rows.ensures.rows
    ∙ ap (λ m. rows_by_position (length c.args.rows.now)
    (changed_between (λ v. blank_row c.args.width) c.args.rows.now m c.args.n)) first
