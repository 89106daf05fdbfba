use Rattle.std.proofs.Common.{OnOk, ◌≡◌, ◌++◌, ◌∷◌, [], map, subst}
use Rattle.c_objects.specs.Requests.{RequestsView, RequestView, Told, behind, intermediates, csi_text}
use Rattle.c_objects.proofs.Queued.{queued, told, after}
use Rattle.c_objects.proofs.requests.Requests.queue_csi.Goals as goal

pub returns : goal.returns
returns c =
    let q : RequestsView = record {
      waiting = c.self.inside.waiting;
      dropped = c.self.inside.dropped;
      tells_unknown = c.self.inside.unknown;
      tells_rows = c.self.inside.rows;
    } in
    let letters = intermediates c.args.first c.args.second in
    let text = csi_text (map (λ g. g.now) c.args.params.now) c.args.last in
    let r : RequestView = behind 11 letters text in
    let queues = subst (λ n. OnOk c.push-queued.result (c.push-queued.new.self
    ≡ q.waiting ++ (record r { letters = n; text = c.text.result.now }) ∷ []))
    c.begin-letters.ensures.count c.push-queued.ensures.queued in
    subst (λ v. Told v.tells_unknown v r c.count.new.self) c.self.view_is
    (told c.self.inside.unknown q c.count.new.self r c.if-not-self.false
    (queued c.push-queued.result q c.count.new.self c.push-queued.new.self r c.text.result.now
    (after c.begin-letters.new.draft c.push_csi.new.draft c.text.result.now letters text
    c.text.ensures c.begin-letters.ensures.text c.push_csi.ensures)
    c.push-queued.ensures.room c.push-queued.ensures.short queues c.push-queued.ensures.same
    c.push-queued.ensures.refused c.count.ensures.queued c.count.ensures.dropped))
