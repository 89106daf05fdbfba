use Rattle.std.proofs.Common.{map, subst, []}
use Rattle.c_objects.specs.Requests.{RequestsView, RequestView, Told, of_kind, osc_text}
use Rattle.c_objects.proofs.Queued.{queued, told, after}
use Rattle.c_objects.proofs.requests.Requests.queue_osc.Goals as goal

pub returns : goal.returns
returns c =
    let q : RequestsView = record {
      waiting = c.self.inside.waiting;
      dropped = c.self.inside.dropped;
      tells_unknown = c.self.inside.unknown;
      tells_rows = c.self.inside.rows;
    } in
    let text = osc_text (map (λ p. p.now) c.args.pieces.now) in
    let r : RequestView = of_kind 12 text in
    subst (λ v. Told v.tells_unknown v r c.count.new.self) c.self.view_is
    (told c.self.inside.unknown q c.count.new.self r c.if-not-self.false
    (queued c.push-queued.result q c.count.new.self c.push-queued.new.self r c.text.result.now
    (after c.clear.new.self c.push_osc.new.draft c.text.result.now [] text c.text.ensures c.clear.ensures
    c.push_osc.ensures)
    c.push-queued.ensures.room c.push-queued.ensures.short c.push-queued.ensures.queued c.push-queued.ensures.same
    c.push-queued.ensures.refused c.count.ensures.queued c.count.ensures.dropped))
