use Rattle.std.proofs.Common.{◌++◌, length, subst}
use Rattle.c_objects.specs.Requests.{RequestsView, RequestView, Queues}
use Rattle.c_objects.proofs.Queued.{queued, both}
use Rattle.c_objects.proofs.requests.Requests.queue.Goals as goal

pub returns : goal.returns
returns c =
    let q : RequestsView = record {
      waiting = c.self.inside.waiting;
      dropped = c.self.inside.dropped;
      tells_unknown = c.self.inside.unknown;
      tells_rows = c.self.inside.rows;
    } in
    let r : RequestView = record {
      kind = c.args.kind;
      rows = c.args.size.0;
      cols = c.args.size.1;
      letters = length c.args.letters.now;
      text = c.args.letters.now ++ c.args.text.now;
    } in
    subst (λ v. Queues v r c.count.new.self) c.self.view_is
    (queued c.push-queued.result q c.count.new.self c.push-queued.new.self r c.text.result.now
    (both c.clear.new.self c.push.new.self c.push-2.new.self c.text.result.now c.args.letters.now c.args.text.now
    c.text.ensures c.clear.ensures c.push.ensures c.push-2.ensures)
    c.push-queued.ensures.room c.push-queued.ensures.short c.push-queued.ensures.queued c.push-queued.ensures.same
    c.push-queued.ensures.refused c.count.ensures.queued c.count.ensures.dropped)
