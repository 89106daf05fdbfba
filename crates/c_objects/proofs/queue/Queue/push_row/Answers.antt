use Rattle.std.proofs.Common.{List, ◌≤◌, arith, subst, length, refl, ap, ◌∙◌, ◌++◌, ◌∷◌, []}
use Rattle.std.proofs.lemmas.Grind.{common_steps}
use Rattle.c_objects.specs.Queue.{all_shared, requests_in}
use Rattle.c_objects.specs.Requests.{RequestView, of_kind}
use Rattle.c_objects.specs.declared.queue.Request.{Request}
use Rattle.c_objects.specs.declared.queue.Text.TheVariants.{Own}
use Rattle.c_objects.proofs.Waiting.{placed_fills, placed_behind, length-requests_in}
use Rattle.c_objects.proofs.queue.Queue.push_row.Goals as goal

pub returns-in_default-clause-full : goal.returns-in_default-clause-full
returns-in_default-clause-full c =
    subst (λ q. 256 ≤ length q) c.self.view_is
    (grind (
      arith,
      common_steps,
      length-requests_in c.self.inside.waiting.items c.self.inside.shared.items,
      c.self.invariant.0,
      c.in_default.ensures.full,
    ))

pub invariant_of-self-2 : goal.invariant_of-self-2
invariant_of-self-2 c =
    let request : Request = record { kind = c.args.kind; rows = 0; cols = 0; letters = 0; text = Own c.args.text } in
    let room = c.self.inside.shared.items in (
      omega (arith, c.self.invariant.0, c.reserve.ensures.capacity, c.push_back_reserved.ensures.capacity),
      c.self.invariant.1,
      ap (λ xs. all_shared xs) c.push_back_reserved.ensures.items
          ∙ ap (λ (xs : List Request). all_shared (xs ++ request ∷ [])) c.reserve.ensures.items
          ∙ placed_fills c.self.inside.waiting.items request room c.args.text.items room c.self.invariant.2 (refl, refl),
    )

pub returns-clause-queued : goal.returns-clause-queued
returns-clause-queued c =
    let request : Request = record { kind = c.args.kind; rows = 0; cols = 0; letters = 0; text = Own c.args.text } in
    let room = c.self.inside.shared.items in
    ap (λ xs. requests_in room xs) c.push_back_reserved.ensures.items
    ∙ ap (λ (xs : List Request). requests_in room (xs ++ request ∷ [])) c.reserve.ensures.items
    ∙ placed_behind c.self.inside.waiting.items request room c.args.text.items room c.self.invariant.2 (refl, refl)
    ∙ ap (λ (q : List RequestView). q ++ of_kind c.args.kind c.args.text.items ∷ []) c.self.view_is
