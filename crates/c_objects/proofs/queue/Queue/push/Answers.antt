use Rattle.std.proofs.Common.{List, ◌<◌, arith, subst, length, ap, ◌∙◌, ◌++◌, ◌∷◌, []}
use Rattle.std.proofs.lemmas.Grind.{common_steps}
use Rattle.c_objects.specs.Queue.{all_shared, requests_in}
use Rattle.c_objects.specs.Requests.{HasNoPlace, RequestView}
use Rattle.c_objects.specs.declared.queue.Request.{Request}
use Rattle.c_objects.proofs.Waiting.{full, no_room, placed_fills, placed_behind, length-requests_in, with_text}
use Rattle.c_objects.proofs.queue.Queue.push.Goals as goal

pub returns-then-len-ge-MOST_REQUESTS-clause-refused : goal.returns-then-len-ge-MOST_REQUESTS-clause-refused
returns-then-len-ge-MOST_REQUESTS-clause-refused c =
    subst (λ q. HasNoPlace q c.args.text.now) c.self.view_is
    (full c.self.inside.waiting.items c.self.inside.shared.items c.args.text.now
    (grind (arith, common_steps, c.if-len-ge-MOST_REQUESTS.true, c.len.ensures)))

pub returns-in_default-clause-refused : goal.returns-in_default-clause-refused
returns-in_default-clause-refused c =
    subst (λ q. HasNoPlace q c.args.text.now) c.self.view_is
    (no_room c.self.inside.waiting.items c.self.inside.shared.items c.args.text.now _ c.self.invariant.2
    c.self.invariant.1 c.in_default.ensures.refused)

pub invariant_of-self-2 : goal.invariant_of-self-2
invariant_of-self-2 c =
    let request : Request = record {
      kind = c.args.kind;
      rows = c.args.size.0;
      cols = c.args.size.1;
      letters = c.args.letters;
      text = c.in-Ok.text;
    } in
    let fills = placed_fills c.self.inside.waiting.items request c.self.inside.shared.items c.args.text.now
    c.place.new.shared.items c.self.invariant.2 c.in-Ok.ensures.placed in (
      omega (arith, c.self.invariant.0, c.push_back_reserved.ensures.capacity),
      omega (arith, c.self.invariant.1, c.place.ensures.capacity),
      ap (λ xs. all_shared xs) c.push_back_reserved.ensures.items ∙ fills,
    )

pub returns-clause-queued : goal.returns-clause-queued
returns-clause-queued c =
    let request : Request = record {
      kind = c.args.kind;
      rows = c.args.size.0;
      cols = c.args.size.1;
      letters = c.args.letters;
      text = c.in-Ok.text;
    } in
    ap (λ xs. requests_in c.place.new.shared.items xs) c.push_back_reserved.ensures.items
    ∙ placed_behind c.self.inside.waiting.items request c.self.inside.shared.items c.args.text.now
    c.place.new.shared.items c.self.invariant.2 c.in-Ok.ensures.placed
    ∙ ap (λ (q : List RequestView). q ++ with_text request c.args.text.now ∷ []) c.self.view_is

pub returns-clause-room : goal.returns-clause-room
returns-clause-room c =
    subst (λ q. length q < 256) c.self.view_is
    (grind (
      arith,
      common_steps,
      length-requests_in c.self.inside.waiting.items c.self.inside.shared.items,
      c.len.ensures,
      c.if-len-ge-MOST_REQUESTS.false,
    ))
