use Rattle.std.proofs.Common.{arith, ap, ◌∙◌, length, false}
use Rattle.vt100_core.specs.Grid.{GridView}
use Rattle.vt100_core.proofs.TextLemmas.{IsMade-made}
use Rattle.vt100_core.proofs.grid.Grid.carry.Goals as goal

pub print_wide-requires-clause-allocated : goal.print_wide-requires-clause-allocated
print_wide-requires-clause-allocated g c =
    let e = ap (λ (x : GridView). length x.rows) c.in_ok-col_wrap.ensures.grid
    ∙ (IsMade-made c.args.self.now 2 false c.requires.fits).count in
    omega (arith, e, c.requires.allocated)

pub print_wide-requires-clause-fits : goal.print_wide-requires-clause-fits
print_wide-requires-clause-fits g c =
    let m = IsMade-made c.args.self.now 2 false c.requires.fits in
    rw c.in_ok-col_wrap.ensures.grid m.fits
