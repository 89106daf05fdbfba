use Rattle.std.proofs.Common.{refl, subst, sym, ap, arith, min, length, ◌≡◌, ◌∙◌}
use Rattle.std.proofs.lemmas.Bool.{false≢true}
use Rattle.vt100_core.specs.GridFields.{grid_of}
use Rattle.vt100_core.specs.KeptFields.{kept_of}
use Rattle.vt100_core.specs.Grid.{GridView, IsAllocated}
use Rattle.vt100_core.proofs.GridLemmas.{IsGrid-scrolled}
use Rattle.vt100_core.proofs.ScrollLemmas.{IsShownWide-is, IsShownWide-as}
use Rattle.vt100_core.proofs.grid.Grid.set_scrollback.Goals as goal

pub invariant_of-self-2 : goal.invariant_of-self-2
invariant_of-self-2 c =
    let some : IsAllocated (grid_of c.self.inside) =
    subst (λ (g : GridView). IsAllocated g) (sym c.self.view_is) c.requires in
    IsGrid-scrolled (grid_of c.self.inside) c.self.inside.rows (kept_of c.show.new.self) c.self.invariant some
    refl c.self.invariant.sheet c.show.ensures.valid
    (IsShownWide-is _ _ _ _ _ _ c.in_ok-show.ensures.kept c.rows.ensures c.cols.ensures)

pub returns-in_err-show-clause-wide : goal.returns-in_err-show-clause-wide
returns-in_err-show-clause-wide c wide =
    let s = c.args.self.now in
    let len = ap (λ (x : GridView). length x.kept.rows) c.self.view_is in
    let offset : c.min-offset.result ≡ min c.args.rows (length s.kept.rows) =
    omega (arith, c.len.ensures, c.self.inside.scrollback.rows.ok) in
    absurd (false≢true (c.in_err-show.ensures.wide
    (IsShownWide-as (record (kept_of c.self.inside.scrollback) { offset = c.min-offset.result })
    (record (s.kept) { offset = min c.args.rows (length s.kept.rows) }) c.rows.result s.height c.cols.result s.width
    (ap (λ (x : GridView). record (x.kept) { offset = c.min-offset.result }) c.self.view_is
    ∙ ap (λ n. record (s.kept) { offset = n }) offset)
    (c.rows.ensures ∙ ap (λ (x : GridView). x.height) c.self.view_is) (c.cols.ensures
    ∙ ap (λ (x : GridView). x.width) c.self.view_is) wide)))
