use Rattle.std.proofs.Common.{◌≡◌, false, ap, ◌∙◌, sym}
use Rattle.vt100_cells.specs.Cell.{CellView}
use Rattle.vt100_cells.specs.CellFields.{view_of}
use Rattle.vt100_cells.proofs.CellLemmas.{IsCell-made_plain}
use Rattle.vt100_cells.proofs.cell.Cell.join_in_place.Goals as goal

pub invariant_of-self : goal.invariant_of-self
invariant_of-self c =
    let x = view_of c.self.inside in
    let whole : x.continuation ≡ false = ap (λ (v : CellView). v.continuation) c.self.view_is ∙ c.requires.no_half in
    IsCell-made_plain x c.args.c c.join.new.self c.self.invariant c.ranges.c.0 c.requires.zero_width whole
    (sym c.has_room.ensures ∙ c.if-has_room.true) c.join.ensures
