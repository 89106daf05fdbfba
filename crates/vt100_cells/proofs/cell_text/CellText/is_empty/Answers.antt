use Rattle.std.proofs.Common.{◌∙◌, ap, nat_eq}
use Rattle.vt100_cells.proofs.CellTextLemmas.{len-text_of, encodes-empty}
use Rattle.vt100_cells.proofs.cell_text.CellText.is_empty.Goals as goal

pub returns : goal.returns
returns c = ap (λ n. nat_eq n 0) (len-text_of c.self.inside c.args.self.now c.self.invariant c.self.view_is)
    ∙ encodes-empty c.args.self.now
