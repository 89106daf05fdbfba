use Rattle.std.proofs.Common.{arith, refl}
use Rattle.std.proofs.lemmas.Grind.{common_steps}
use Rattle.termview.proofs.RowTerms.{flagged-is}
use Rattle.termview.proofs.KeptPictures.{IsPicture-at, Becomes-at, flagged_at, IsPicture-flagged}
use Rattle.termview.proofs.picture.Picture.flag_row_above.Goals as goal

pub invariant_of-self : goal.invariant_of-self
invariant_of-self c =
    let p = c.args.self.now in
    IsPicture-at _ (flagged_at p) (grind (arith, common_steps))
    (IsPicture-flagged p (rw (← c.self.view_is) c.self.invariant) c.requires)

pub returns : goal.returns
returns c =
    let p = c.args.self.now in
    Becomes-at p _ (flagged_at p) _ (grind (arith, common_steps))
    (record { size = refl; shows = flagged-is p (rw (← c.self.view_is) c.self.invariant) c.requires })
