use Rattle.std.proofs.Common.{arith, rules, ◌≡◌, ap, subst, sym, ◌∙◌, ◌+◌, length}
use Rattle.std.proofs.lemmas.Grind.{common_steps}
use Rattle.vt100_rows.specs.Sink.{TakesAll}
use Rattle.vt100_core.specs.Grid.{GridView, IsAllocated}
use Rattle.vt100_core.specs.GridFields.{grid_of}
use Rattle.vt100_core.specs.KeptFields.{kept_of}
use Rattle.vt100_core.specs.Lines.{lines_closed}
use Rattle.vt100_core.specs.Scroll.{ScrollsNoneOff, scrolled_up}
use Rattle.vt100_core.proofs.KeepLemmas.{IsShownWide-none}
use Rattle.vt100_core.proofs.ScrollLemmas.{IsShownWide-is, IsGrid-off, ScrollsTo-at, scrolls-below, scrolls-given}
use Rattle.vt100_core.proofs.ScrollLemmas.{scrolls-kept, taken-kept}
use Rattle.vt100_core.proofs.StayLemmas.{scrolls-nothing}
use Rattle.vt100_core.proofs.CountLemmas.{scrolls-some}
use Rattle.vt100_core.proofs.grid.Grid.scroll_up.Goals as goal

pub invariant_of-self : goal.invariant_of-self
invariant_of-self g c =
    IsGrid-off (grid_of c.self.inside) (kept_of c.scroll_off.new.self) c.self.invariant
    (subst (λ (x : GridView). IsAllocated x) (sym c.self.view_is) c.requires)
    c.scroll_off.ensures.size c.cols.ensures c.scroll_off.ensures.sheet c.scroll_off.ensures.valid
    (IsShownWide-is _ _ _ _ _ _ c.in_ok-scroll_off.ensures.kept c.rows.ensures c.cols.ensures)

pub invariant_of-self-in_err-scroll_off : goal.invariant_of-self-in_err-scroll_off
invariant_of-self-in_err-scroll_off g c =
    IsGrid-off (grid_of c.self.inside) (kept_of c.scroll_off.new.self) c.self.invariant
    (subst (λ (x : GridView). IsAllocated x) (sym c.self.view_is) c.requires)
    c.scroll_off.ensures.size c.cols.ensures c.scroll_off.ensures.sheet c.scroll_off.ensures.valid
    (IsShownWide-none (kept_of c.scroll_off.new.self) _ _ c.in_err-scroll_off.ensures.hidden)

pub returns-then-n-eq0 : goal.returns-then-n-eq0
returns-then-n-eq0 g c =
    let s = c.args.self.now in
    let top = ap (λ (x : GridView). x.top) c.self.view_is in
    let bottom = ap (λ (x : GridView). x.bottom) c.self.view_is in
    scrolls-nothing s c.args.count (omega arith) (rw (← c.self.view_is) c.self.invariant) c.requires

pub returns-then-first-gt0 : goal.returns-then-first-gt0
returns-then-first-gt0 g c =
    let own = grid_of c.self.inside in
    let moved : c.close_lines_at.new.self ≡ lines_closed own own.top c.args.count = grind (arith, common_steps) in
    ScrollsTo-at c.args.count c.self.view_is
    (scrolls-below own c.args.count moved (omega arith) c.close_lines_at.ensures.allocated)

pub returns-else-self : goal.returns-else-self
returns-else-self g c =
    let own = grid_of c.self.inside in
    let moved : c.close_lines_at-else-self.new.self ≡ lines_closed own own.top c.args.count =
    grind (arith, common_steps) in
    ScrollsTo-at c.args.count c.self.view_is
    (scrolls-given own c.args.count (c.from-end.result + 1) c.min-n.result moved (omega arith) c.if-self.false
    (omega arith) (omega arith) c.close_lines_at-else-self.ensures.allocated c.give_first.ensures)

pub returns-in_ok-scroll_off : goal.returns-in_ok-scroll_off
returns-in_ok-scroll_off g c =
    let own = grid_of c.self.inside in
    ScrollsTo-at c.args.count c.self.view_is
    (scrolls-kept own c.args.count (c.from-end.result + 1) c.min-n.result c.cols.result c.rows.result
    (kept_of c.scroll_off.new.self) (subst (λ (x : GridView). IsAllocated x) (sym c.self.view_is) c.requires)
    (omega arith) c.if-self.true (omega arith) (omega arith) c.cols.ensures c.rows.ensures
    c.in_ok-scroll_off.ensures.rows
    c.in_ok-scroll_off.ensures.kept c.scroll_off.ensures.same c.in_ok-scroll_off.ensures.sink)

pub returns-in_err-scroll_off : goal.returns-in_err-scroll_off
returns-in_err-scroll_off g c =
    let own = grid_of c.self.inside in
    record {
      grid = search rules;
      sink = subst (λ (x : GridView). TakesAll g.S.RowSink.takes c.args.sink.now (scrolled_up x c.args.count).sunk
          c.scroll_off.new.sink) c.self.view_is (taken-kept _ _ _ own c.args.count (c.from-end.result + 1)
          c.min-n.result (omega arith) c.if-self.true (omega arith) (omega arith)
          c.in_err-scroll_off.ensures.sink);
      limits = grind (arith, common_steps);
      keeps_none = grind (arith, common_steps);
      stays = λ z. absurd (scrolls-some own c.args.count c.self.invariant
          (subst (λ (x : GridView). IsAllocated x) (sym c.self.view_is) c.requires) (omega arith) c.if-self.true
          (omega arith) (subst (λ (x : GridView). ScrollsNoneOff x (scrolled_up x c.args.count).grid)
          (sym c.self.view_is) z));
      allocated = omega (
        arith,
        c.requires,
        c.scroll_off.ensures.size,
        ap (λ (x : GridView). length x.rows) c.self.view_is,
      );
    }
