use Rattle.std.proofs.Common.{arith, ap, ◌∙◌, length, true}
use Rattle.vt100_core.specs.Grid.{GridView}
use Rattle.vt100_core.proofs.TextLemmas.{IsMade-made}
use Rattle.vt100_core.proofs.grid.Grid.space.Goals as goal

pub print_spacing-requires-clause-allocated : goal.print_spacing-requires-clause-allocated
print_spacing-requires-clause-allocated g c =
    let e = ap (λ (x : GridView). length x.rows) c.in_ok-col_wrap.ensures.grid
    ∙ (IsMade-made c.args.self.now c.args.columns true c.requires.fits).count in
    omega (arith, e, c.requires.allocated)

pub print_spacing-requires-clause-fits : goal.print_spacing-requires-clause-fits
print_spacing-requires-clause-fits g c =
    let m = IsMade-made c.args.self.now c.args.columns true c.requires.fits in
    rw c.in_ok-col_wrap.ensures.grid m.fits
