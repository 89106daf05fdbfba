use Rattle.std.proofs.Common.{arith, refl}
use Rattle.std.proofs.lemmas.Grind.{common_steps}
use Rattle.termview.proofs.BlankTerms.{erased_below-is}
use Rattle.termview.proofs.KeptPictures.{IsPicture-at, Becomes-at, erased_below_at, IsPicture-erased_below}
use Rattle.termview.proofs.picture.Picture.erase_below.Goals as goal

pub invariant_of-self : goal.invariant_of-self
invariant_of-self c =
    let p = c.args.self.now in
    IsPicture-at _ (erased_below_at p) (grind (arith, common_steps))
    (IsPicture-erased_below p (rw (← c.self.view_is) c.self.invariant))

pub returns : goal.returns
returns c =
    let p = c.args.self.now in
    Becomes-at p _ (erased_below_at p) _ (grind (arith, common_steps))
    (record { size = refl; shows = erased_below-is p (rw (← c.self.view_is) c.self.invariant) })
