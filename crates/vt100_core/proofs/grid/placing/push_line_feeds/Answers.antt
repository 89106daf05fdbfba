use Rattle.std.proofs.Common.{◌<◌, arith}
use Rattle.std.specs.Prelude.{replicate, string_bytes}
use Rattle.vt100_forms.specs.Form.{Lf}
use Rattle.vt100_core.proofs.WriterLemmas.{line_feeds-begun, line_feeds-next, refused}
use Rattle.vt100_core.proofs.grid.placing.push_line_feeds.Goals as goal

pub returns-in_err-push : goal.returns-in_err-push
unfolding lib.Utf8.encode
returns-in_err-push c =
    let inside : c.loop-n._n < c.args.count = omega arith in
    refused c.from_residual.result (replicate c.args.count Lf) c.args.contents.now c.push.new.self
    c.from_residual.ensures.0
    (line_feeds-begun c.loop-n._n c.args.count c.args.contents.now c.loop-n.contents c.push.new.self inside
    c.loop-n.invariant c.in_err-push.ensures.bytes c.in_err-push.ensures.full)

pub loop-n-preserved : goal.loop-n-preserved
unfolding lib.Utf8.encode
loop-n-preserved c = record {
  bytes = line_feeds-next c.loop-n._n _ (string_bytes c.args.contents.now) (string_bytes c.loop-n.contents)
      (string_bytes c.push.new.self) (omega arith) c.loop-n.invariant.bytes c.in_ok-push.ensures.bytes;
  capacity = omega (arith, c.loop-n.invariant.capacity, c.in_ok-push.ensures.capacity);
}
