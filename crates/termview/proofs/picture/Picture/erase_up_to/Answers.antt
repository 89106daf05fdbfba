use Rattle.std.proofs.Common.{arith, refl}
use Rattle.std.proofs.lemmas.Grind.{common_steps}
use Rattle.termview.proofs.RowTerms.{erased-is}
use Rattle.termview.proofs.KeptPictures.{IsPicture-at, Becomes-at, erased_at, IsPicture-erased}
use Rattle.termview.proofs.picture.Picture.erase_up_to.Goals as goal

pub invariant_of-self : goal.invariant_of-self
invariant_of-self c =
    let p = c.args.self.now in
    IsPicture-at _ (erased_at p c.args.end) (grind (arith, common_steps))
    (IsPicture-erased p c.args.end (rw (← c.self.view_is) c.self.invariant) c.requires)

pub returns : goal.returns
returns c =
    let p = c.args.self.now in
    Becomes-at p _ (erased_at p c.args.end) _ (grind (arith, common_steps))
    (record { size = refl; shows = erased-is p c.args.end (rw (← c.self.view_is) c.self.invariant) c.requires })
