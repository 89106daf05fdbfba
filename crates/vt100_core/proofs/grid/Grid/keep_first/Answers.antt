use Rattle.std.proofs.Common.{◌≡◌, ◌∙◌, ◌<◌, arith, rules, sym, subst, ap, refl, length}
use Rattle.std.specs.Prelude.{Err, List}
use Rattle.vt100_rows.specs.Row.{RowView}
use Rattle.vt100_core.specs.Grid.{GridView, IsGrid, IsAllocated}
use Rattle.vt100_core.specs.GridFields.{grid_of}
use Rattle.vt100_core.specs.KeptFields.{kept_of}
use Rattle.vt100_core.proofs.ScrollLemmas.{IsShownWide-is}
use Rattle.vt100_core.proofs.RepeatLemmas.{keeps-first, refuses-first, keeps-some, spare-sheet, spare-first}
use Rattle.vt100_core.proofs.RepeatLemmas.{IsGrid-rekept}
use Rattle.vt100_core.proofs.grid.Grid.keep_first.Goals as goal

pub returns-then-self-eq0-clause-scrolls : goal.returns-then-self-eq0-clause-scrolls
returns-then-self-eq0-clause-scrolls g c = record {
  grid = c.give_first.ensures.grid;
  sink = c.give_first.ensures.sink;
  limits = c.give_first.ensures.limits;
  keeps_none = λ _. refl;
  stays = λ _. refl;
  allocated = c.give_first.ensures.allocated;
}

pub scroll_off-requires-clause-sheet : goal.scroll_off-requires-clause-sheet
scroll_off-requires-clause-sheet g c =
    spare-sheet c.requires.spare (c.cols.ensures ∙ ap (λ (x : GridView). x.width) c.self.view_is)
    (subst IsGrid c.self.view_is c.self.invariant) c.requires.allocated

pub returns-in_err-scroll_off-clause-scrolls : goal.returns-in_err-scroll_off-clause-scrolls
returns-in_err-scroll_off-clause-scrolls g c =
    let is : c.from_residual.result ≡ Err c.in_err-scroll_off.field-0.0 = search rules in
    rw is (refuses-first c.self.view_is c.self.invariant c.requires.allocated c.requires.first c.requires.last
    c.args.spare.now (kept_of c.scroll_off.new.self) (keeps-some _ c.self.invariant.kept c.if-self-eq0.false)
    c.if-self-eq0.false (spare-first c.self.view_is c.requires.spare c.requires.allocated)
    c.scroll_off.ensures.same c.scroll_off.ensures.sink)

pub copy_from-requires : goal.copy_from-requires
copy_from-requires g c =
    let count : length c.args.spare.now ≡ 2 = ap (λ (xs : List RowView). length xs) c.requires.spare in
    let own = grid_of c.self.inside in
    let some : IsAllocated own = subst IsAllocated (sym c.self.view_is) c.requires.allocated in
    ap (λ (v : RowView). length v.cells) c.index_mut.ensures.value
    ∙ (c.scroll_off.ensures.sheet.each 0 (omega (arith, count, c.scroll_off.ensures.size))).wide ∙ c.cols.ensures
    ∙ sym (ap (λ (v : RowView). length v.cells) c.index.ensures ∙ (c.self.invariant.sheet.each 0 some).wide)

pub invariant_of-self-2 : goal.invariant_of-self-2
invariant_of-self-2 g c =
    IsGrid-rekept (grid_of c.self.inside) (kept_of c.scroll_off.new.self) c.self.invariant
    (subst IsAllocated (sym c.self.view_is) c.requires.allocated) c.scroll_off.ensures.valid
    (IsShownWide-is _ _ _ _ _ _ c.in_ok-scroll_off.ensures.kept c.rows.ensures c.cols.ensures)

pub returns-clause-scrolls : goal.returns-clause-scrolls
returns-clause-scrolls g c =
    keeps-first c.self.view_is c.self.invariant c.requires.allocated c.requires.first c.requires.last
    c.args.spare.now (kept_of c.scroll_off.new.self) (keeps-some _ c.self.invariant.kept c.if-self-eq0.false)
    (spare-first c.self.view_is c.requires.spare c.requires.allocated) c.rows.ensures c.cols.ensures
    c.in_ok-scroll_off.ensures.kept c.scroll_off.ensures.same c.in_ok-scroll_off.ensures.sink
