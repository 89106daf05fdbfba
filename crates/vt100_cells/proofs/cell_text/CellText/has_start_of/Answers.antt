use Rattle.std.proofs.Common.{◌∙◌, ◌&&◌, nat_eq, ap}
use Rattle.vt100_cells.proofs.CellTextLemmas.{start-fields, fits-same}
use Rattle.vt100_cells.proofs.cell_text.CellText.has_start_of.Goals as goal

pub returns-clause-value : goal.returns-clause-value
returns-clause-value c =
    ap (λ b. nat_eq c.self.inside.len c.other.inside.len && b) c.have_same_start.ensures
    ∙ start-fields c.self.inside c.other.inside c.args.self.now c.args.other.now c.self.invariant c.other.invariant
    c.self.view_is c.other.view_is

pub returns-clause-whole : goal.returns-clause-whole
returns-clause-whole c h s =
    fits-same c.self.inside c.other.inside c.args.self.now c.args.other.now c.self.invariant c.other.invariant
    c.self.view_is c.other.view_is s h
