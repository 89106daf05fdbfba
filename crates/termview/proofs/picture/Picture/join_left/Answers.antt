use Rattle.std.proofs.Common.{arith, refl, subst, ◌+◌, ◌≤◌}
use Rattle.std.proofs.lemmas.Grind.{common_steps}
use Rattle.termview.specs.Picture.{PictureView}
use Rattle.termview.proofs.RowTerms.{joined-is, row-fits}
use Rattle.termview.proofs.KeptPictures.{IsPicture-at, Becomes-at, joined_at, IsPicture-joined}
use Rattle.termview.proofs.picture.Picture.join_left.Goals as goal

pub invariant_of-self : goal.invariant_of-self
invariant_of-self c =
    let p = c.args.self.now in
    IsPicture-at _ (joined_at p c.args.c) (grind (arith, common_steps))
    (IsPicture-joined p c.args.c (rw (← c.self.view_is) c.self.invariant) c.ranges.c.0 c.requires.zero_width
    c.requires.after_some)

pub returns : goal.returns
returns c =
    let p = c.args.self.now in
    Becomes-at p _ (joined_at p c.args.c) _ (grind (arith, common_steps))
    (record {
      size = refl;
      shows = joined-is p c.args.c (rw (← c.self.view_is) c.self.invariant) c.requires.after_some;
    })

pub join_in_place-requires-clause-in_row : goal.join_in_place-requires-clause-in_row
join_in_place-requires-clause-in_row c =
    let here = subst (λ (p : PictureView). p.col + 0 ≤ p.size.cols) c.self.view_is
    (omega (arith, c.self.invariant.in_cols)) in
    omega (arith, row-fits 0 c.self.view_is c.self.invariant c.from.ensures c.index_mut.ensures.value here)
