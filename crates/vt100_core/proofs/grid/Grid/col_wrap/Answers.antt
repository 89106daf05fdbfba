use Rattle.std.proofs.Common.{arith, ap, subst, sym, ◌∙◌, ◌<◌, length}
use Rattle.vt100_core.specs.Grid.{GridView, IsAllocated}
use Rattle.vt100_core.specs.GridFields.{grid_of}
use Rattle.vt100_core.proofs.TextLemmas.{IsSized-fed}
use Rattle.vt100_core.proofs.grid.Grid.col_wrap.Given.{Over}
use Rattle.vt100_core.proofs.grid.Grid.col_wrap.Goals.{In_ok-row_inc_scroll}
use Rattle.vt100_core.proofs.grid.Grid.col_wrap.Goals as goal

-- the row that the cursor left is still there
left-row : (g : Over) (c : In_ok-row_inc_scroll g) → c.self.inside.pos.row < length c.row_inc_scroll.new.self.rows
left-row g c =
    let own = grid_of c.self.inside in
    let e = ap (λ (x : GridView). length x.rows) c.in_ok-row_inc_scroll.ensures.grid
    ∙ (IsSized-fed (record own { col = 0 }) 1).count in
    let some : IsAllocated own = subst (λ (x : GridView). IsAllocated x) (sym c.self.view_is) c.requires.allocated in
    omega (arith, e, c.self.invariant.sheet.count some, c.self.invariant.cursor_row)

pub wrap_row-requires : goal.wrap_row-requires
wrap_row-requires g c =
    let left = left-row g (goal.at.wrap_row-requires g c).In_ok-row_inc_scroll in
    omega (arith, left)

pub wrap_row-requires-2 : goal.wrap_row-requires-2
wrap_row-requires-2 g c = left-row g (goal.at.wrap_row-requires-2 g c).In_ok-row_inc_scroll
