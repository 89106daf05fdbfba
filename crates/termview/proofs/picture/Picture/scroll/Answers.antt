use Rattle.std.proofs.Common.{arith, refl}
use Rattle.std.proofs.lemmas.Grind.{common_steps}
use Rattle.termview.proofs.RowTerms.{scrolled-is}
use Rattle.termview.proofs.KeptPictures.{IsPicture-at, Becomes-at, scrolled_at, IsPicture-scrolled}
use Rattle.termview.proofs.picture.Picture.scroll.Goals as goal

pub invariant_of-self : goal.invariant_of-self
invariant_of-self c =
    let p = c.args.self.now in
    let width = c.self.inside.size.cols.value in
    let moved = c.move_up.ensures width c.self.invariant.sheet.each in
    IsPicture-at _ (scrolled_at p) (grind (arith, common_steps, moved))
    (IsPicture-scrolled p (rw (← c.self.view_is) c.self.invariant))

pub returns : goal.returns
returns c =
    let p = c.args.self.now in
    let width = c.self.inside.size.cols.value in
    let moved = c.move_up.ensures width c.self.invariant.sheet.each in
    Becomes-at p _ (scrolled_at p) _ (grind (arith, common_steps, moved))
    (record {
      size = refl;
      shows = scrolled-is p p.size.cols (rw (← c.self.view_is) c.self.invariant) c.requires;
    })
