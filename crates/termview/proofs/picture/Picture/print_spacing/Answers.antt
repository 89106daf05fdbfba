use Rattle.std.proofs.Common.{arith, refl}
use Rattle.std.proofs.lemmas.Grind.{common_steps}
use Rattle.vt100_cells.specs.Cell.{cell_of}
use Rattle.vt100_cells.proofs.CellLemmas.{IsCell-of}
use Rattle.vt100_cells.proofs.WidthLemmas.{drawn-is}
use Rattle.termview.proofs.RowTerms.{printed-is, span_of-cell}
use Rattle.termview.proofs.KeptPictures.{IsPicture-at, Becomes-at, put_at, IsPicture-put}
use Rattle.termview.proofs.picture.Picture.print_spacing.Goals as goal

pub invariant_of-self : goal.invariant_of-self
invariant_of-self c =
    let p = c.args.self.now in
    let d = drawn-is c.args.c c.args.columns c.requires.drawn in
    IsPicture-at _ (put_at p (cell_of c.args.c p.attrs) c.args.columns) (grind (arith, common_steps))
    (IsPicture-put p (cell_of c.args.c p.attrs) c.args.columns (rw (← c.self.view_is) c.self.invariant)
    (IsCell-of c.args.c p.attrs c.ranges.c.0 d.0 (omega (arith, d.1, c.requires.spacing))) refl
    (span_of-cell c.args.c c.args.columns p.attrs d.1 c.requires.spacing) c.requires.fits)

pub returns : goal.returns
returns c =
    let p = c.args.self.now in
    let d = drawn-is c.args.c c.args.columns c.requires.drawn in
    Becomes-at p _ (put_at p (cell_of c.args.c p.attrs) c.args.columns) _ (grind (arith, common_steps))
    (record {
      size = refl;
      shows = printed-is p (cell_of c.args.c p.attrs) c.args.columns (rw (← c.self.view_is) c.self.invariant)
          (span_of-cell c.args.c c.args.columns p.attrs d.1 c.requires.spacing) c.requires.fits;
    })
