use Rattle.std.proofs.Common.{arith, refl}
use Rattle.std.proofs.lemmas.Grind.{common_steps}
use Rattle.vt100_cells.specs.Cell.{cell_of}
use Rattle.vt100_cells.proofs.NarrowLemmas.{narrow-printable_is}
use Rattle.vt100_cells.proofs.WidthLemmas.{drawn-is}
use Rattle.termview.proofs.RowTerms.{printed-is, row-fits, span_of-cell}
use Rattle.termview.proofs.RunSteps.{IsPicture-first, one_column}
use Rattle.termview.proofs.KeptPictures.{IsPicture-at, Becomes-at, put_at}
use Rattle.termview.proofs.picture.Picture.print_printable.Goals as goal

pub invariant_of-self : goal.invariant_of-self
invariant_of-self c =
    let p = c.args.self.now in
    IsPicture-at _ (put_at p (cell_of c.args.c p.attrs) 1) (grind (arith, common_steps))
    (IsPicture-first one_column p c.args.c (rw (← c.self.view_is) c.self.invariant)
    (narrow-printable_is c.args.c c.requires.printable) c.requires.fits)

pub returns : goal.returns
returns c =
    let p = c.args.self.now in
    let narrow = narrow-printable_is c.args.c c.requires.printable in
    Becomes-at p _ (put_at p (cell_of c.args.c p.attrs) 1) _ (grind (arith, common_steps))
    (record {
      size = refl;
      shows = printed-is p (cell_of c.args.c p.attrs) 1 (rw (← c.self.view_is) c.self.invariant)
          (span_of-cell c.args.c 1 p.attrs (drawn-is c.args.c 1 narrow.1).1 (omega arith)) c.requires.fits;
    })

pub put_printable-requires-clause-in_row : goal.put_printable-requires-clause-in_row
put_printable-requires-clause-in_row c =
    let fits = row-fits 1 c.self.view_is c.self.invariant c.from.ensures c.index_mut.ensures.value c.requires.fits in
    omega (arith, fits)
