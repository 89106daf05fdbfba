use Rattle.std.proofs.Common.{◌<◌, ◌∙◌, ◌++◌, ◌∷◌, [], ap, length, List, ℕ}
use Rattle.vte_core.proofs.OscLemmas.{rise-last, end-room, end-full, not_full, is_full, reads-by}
use Rattle.vte_core.proofs.osc_data.OscData.end_piece.Goals as goal

pub invariant_of-self : goal.invariant_of-self
invariant_of-self g c = rw (
  c.push.ensures.items,
  c.len.ensures.value,
) (rise-last 0 c.self.inside.ends.items c.self.inside.bytes.items c.self.invariant)

pub returns-then-not-is_full-clause-ends : goal.returns-then-not-is_full-clause-ends
returns-then-not-is_full-clause-ends g c = λ s r.
    let x : List ℕ × List ℕ = (c.self.inside.bytes.items, c.self.inside.ends.items) in
    let few : length c.self.inside.ends.items < 16 =
    not_full _ 16 c.if-not-is_full.ensures.value c.if-not-is_full.ensures.fits in
    c.push.ensures.items ∙ (ap (λ k. c.self.inside.ends.items ++ k ∷ []) c.len.ensures.value
    ∙ end-room g.row.N x s (reads-by g.row.N x c.args.self.now s c.self.view_is r) few)

pub returns-else-not-is_full-clause-ends : goal.returns-else-not-is_full-clause-ends
returns-else-not-is_full-clause-ends g c = λ s r.
    let x = c.args.self.now in
    end-full g.row.N x s r (is_full _ 16 (length x.1) c.if-not-is_full.ensures.value
    (ap (λ y. length y.1) c.self.view_is))
