use Rattle.std.proofs.Common.{◌∙◌, ap}
use Rattle.vt100_core.specs.Grid.{GridView}
use Rattle.vt100_core.specs.GridFields.{grid_of}
use Rattle.vt100_core.specs.KeptFields.{kept_of}
use Rattle.vt100_core.specs.Copy.{without_kept}
use Rattle.vt100_core.proofs.CopyLemmas.{IsGrid-copied, copied-parts, widths-same, widths-lent}
use Rattle.vt100_core.proofs.grid.Grid.copy_drawn.Goals as goal

pub copy_from-requires : goal.copy_from-requires
copy_from-requires c =
    widths-lent (ap (λ (g : GridView). g.rows) c.self.view_is)
    (ap (λ (g : GridView). g.rows) c.other.view_is)
    (widths-same c.args.self.now c.args.other.now (rw (← c.self.view_is) c.self.invariant)
    (rw (← c.other.view_is) c.other.invariant) c.requires.drawn c.requires.other c.requires.height c.requires.width)

pub invariant_of-self : goal.invariant_of-self
invariant_of-self c =
    IsGrid-copied (grid_of c.other.inside) c.args.other.now _ (kept_of c.nothing_kept.result)
    c.other.view_is c.other.invariant c.requires.other c.copy_from.ensures
    c.nothing_kept.ensures

pub returns : goal.returns
returns c =
    copied-parts (grid_of c.other.inside) _ (kept_of c.nothing_kept.result)
    c.copy_from.ensures c.nothing_kept.ensures
    ∙ ap (λ (g : GridView). without_kept g) c.other.view_is
