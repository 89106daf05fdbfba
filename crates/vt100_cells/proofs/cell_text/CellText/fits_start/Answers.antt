use Rattle.std.proofs.Common.{ap, nat_lt, ◌∙◌}
use Rattle.vt100_cells.proofs.CellTextLemmas.{len-text_of}
use Rattle.vt100_cells.proofs.cell_text.CellText.fits_start.Goals as goal

pub returns : goal.returns
returns c = ap (λ n. nat_lt n 6) (c.from.ensures
    ∙ len-text_of c.self.inside c.args.self.now c.self.invariant c.self.view_is)
