use Rattle.std.proofs.Common.{arith, ap, sym, subst, ◌∙◌, ◌≡◌, ◌<◌, ◌≤◌, [], length, ⊎_elim, refl}
use Rattle.std.proofs.lemmas.Bool.{cases_lt}
use Rattle.std.proofs.lemmas.Grind.{common_steps}
use Rattle.vt100_core.specs.Grid.{GridView, IsGrid, IsAllocated}
use Rattle.vt100_core.specs.Resize.{whole_screen, up_rows, resized}
use Rattle.vt100_core.specs.Scroll.{scrolled_up}
use Rattle.vt100_rows.specs.Sink.{TakesAll}
use Rattle.vt100_core.proofs.ResizeLemmas.{IsGrid-whole_screen, lowers, lowers-sunk, raises-sunk, some-shortened}
use Rattle.vt100_core.proofs.ResizeLemmas.{some-lengthened}
use Rattle.vt100_core.proofs.GridLemmas.{IsNew-of}
use Rattle.vt100_core.proofs.StayLemmas.{scrolls-none, sinks-none}
use Rattle.vt100_rows.proofs.SinkLemmas.{TakesAll-list}
use Rattle.vt100_core.proofs.grid.Grid.set_size.Given.{Over}
use Rattle.vt100_core.proofs.grid.Grid.set_size.Goals.{then-up-gt0+in_ok-scroll_up, else-up-gt0, After-shorten, Else-lt}
use Rattle.vt100_core.proofs.grid.Grid.set_size.Goals as goal

pub scroll_up-requires : goal.scroll_up-requires
scroll_up-requires g c =
    let s = c.args.self.now in
    let up = c.saturating_sub-up.result in
    let height = c.args.size.rows.value in
    let valid : IsGrid s = rw (← c.self.view_is) c.self.invariant in
    let rows = ap (λ (x : GridView). length x.rows) c.show_whole_screen.ensures in
    let lower : height < s.height = grind (arith, common_steps) in
    let count : up ≡ up_rows s height = grind (arith, lower, common_steps) in
    ⊎_elim (λ (l : 0 < length s.rows). omega arith) (λ (l : length s.rows ≤ 0).
    let n = (IsNew-of s valid (omega arith)).row in absurd (omega arith)) (cases_lt 0 (length s.rows))

-- ---- a lower screen

is-lower : (g : Over) (c : After-shorten g) → (c.args.size.rows.value < c.args.self.now.height)
    × (c.saturating_sub-up.result ≡ up_rows c.args.self.now c.args.size.rows.value)
is-lower g c =
    let lower : c.args.size.rows.value < c.args.self.now.height = grind (arith, common_steps) in
    (lower, grind (arith, lower, common_steps))

lower-sunk : (g : Over) (c : After-shorten g) → TakesAll g.S.RowSink.takes c.args.sink.now
    (resized c.args.self.now c.args.size.rows.value c.args.size.cols.value).sunk c.if-up-gt0.sink
lower-sunk g c =
    let s = c.args.self.now in
    let up = c.saturating_sub-up.result in
    let valid : IsGrid s = rw (← c.self.view_is) c.self.invariant in
    let is = is-lower g c in
    let sunk = lowers-sunk s up c.args.size.rows.value c.args.size.cols.value is.0 is.1 in
    elim c.if-up-gt0.branch [
      | then-up-gt0+in_ok-scroll_up w ↦
          TakesAll-list g.S.RowSink.takes c.args.sink.now c.if-up-gt0.sink
          (scrolled_up c.show_whole_screen.new.self up).sunk _
          (ap (λ (x : GridView). (scrolled_up x up).sunk) c.show_whole_screen.ensures ∙ sunk)
          (subst (λ t. TakesAll g.S.RowSink.takes _ _ t) (sym w.sink-is) w.scroll_up.ensures.sink)
      | else-up-gt0 w ↦
          let none : 0 ≡ up = omega arith in
          TakesAll-list g.S.RowSink.takes c.args.sink.now c.if-up-gt0.sink [] _
          (sinks-none (whole_screen s) up (omega arith) valid.kept.fits ∙ sunk) (sym w.sink-is)
    ]

lower-some : (g : Over) (c : After-shorten g) → IsAllocated c.args.self.now → IsAllocated c.shorten.new.self
lower-some g c some =
    let scrolled : IsAllocated c.if-up-gt0.self =
    elim c.if-up-gt0.branch [
      | then-up-gt0+in_ok-scroll_up w ↦ subst (λ (x : GridView). IsAllocated x) (sym w.self-is)
          w.scroll_up.ensures.allocated
      | else-up-gt0 w ↦ subst (λ (x : GridView). IsAllocated x) (sym (w.self-is ∙ c.show_whole_screen.ensures)) some
    ] in
    some-shortened c.if-up-gt0.self c.shorten.new.self c.saturating_sub-up.result c.args.size.rows.value
    c.shorten.ensures (omega arith) scrolled

pub returns-in_ok-set_width-clause-grid : goal.returns-in_ok-set_width-clause-grid
returns-in_ok-set_width-clause-grid g c =
    let s = c.args.self.now in
    let up = c.saturating_sub-up.result in
    let hidden : IsGrid (whole_screen s) = IsGrid-whole_screen s (rw (← c.self.view_is) c.self.invariant) in
    let above : c.if-up-gt0.self ≡ (scrolled_up (whole_screen s) up).grid =
    elim c.if-up-gt0.branch [
      | then-up-gt0+in_ok-scroll_up w ↦ w.self-is ∙ w.in_ok-scroll_up.ensures.grid
          ∙ ap (λ (x : GridView). (scrolled_up x up).grid) c.show_whole_screen.ensures
      | else-up-gt0 w ↦
          let none : 0 ≡ up = omega arith in
          w.self-is ∙ c.show_whole_screen.ensures ∙ scrolls-none (whole_screen s) up (omega arith) hidden.kept
          hidden.shown
    ] in
    let is = is-lower g (goal.at.returns-in_ok-set_width-clause-grid g c).After-shorten in
    lowers s c.if-up-gt0.self c.shorten.new.self c.set_width.new.self up c.args.size.rows.value c.args.size.cols.value
    is.0 is.1 above c.shorten.ensures c.in_ok-set_width.ensures.grid

pub returns-in_ok-set_width-clause-sink : goal.returns-in_ok-set_width-clause-sink
returns-in_ok-set_width-clause-sink g c =
    lower-sunk g (goal.at.returns-in_ok-set_width-clause-sink g c).After-shorten

pub returns-in_err-set_width-clause-sink : goal.returns-in_err-set_width-clause-sink
returns-in_err-set_width-clause-sink g c =
    lower-sunk g (goal.at.returns-in_err-set_width-clause-sink g c).After-shorten

pub returns-in_err-scroll_up-clause-sink : goal.returns-in_err-scroll_up-clause-sink
returns-in_err-scroll_up-clause-sink g c =
    let s = c.args.self.now in
    let up = c.saturating_sub-up.result in
    let height = c.args.size.rows.value in
    let lower : height < s.height = grind (arith, common_steps) in
    let count : up ≡ up_rows s height = grind (arith, lower, common_steps) in
    TakesAll-list g.S.RowSink.takes c.args.sink.now c.scroll_up.new.sink
    (scrolled_up c.show_whole_screen.new.self up).sunk _
    (ap (λ (x : GridView). (scrolled_up x up).sunk) c.show_whole_screen.ensures
    ∙ lowers-sunk s up height c.args.size.cols.value lower count) c.scroll_up.ensures.sink

pub returns-in_ok-set_width-clause-allocated : goal.returns-in_ok-set_width-clause-allocated
returns-in_ok-set_width-clause-allocated g c some =
    let before = lower-some g (goal.at.returns-in_ok-set_width-clause-allocated g c).After-shorten some in
    omega (arith, c.set_width.ensures.count, before)

pub returns-in_err-set_width-clause-allocated : goal.returns-in_err-set_width-clause-allocated
returns-in_err-set_width-clause-allocated g c some =
    let before = lower-some g (goal.at.returns-in_err-set_width-clause-allocated g c).After-shorten some in
    omega (arith, c.set_width.ensures.count, before)

-- ---- a higher screen

higher-sunk : (g : Over) (c : Else-lt g) → TakesAll g.S.RowSink.takes c.args.sink.now
    (resized c.args.self.now c.args.size.rows.value c.args.size.cols.value).sunk c.args.sink.now
higher-sunk g c =
    TakesAll-list g.S.RowSink.takes c.args.sink.now c.args.sink.now [] _
    (raises-sunk c.args.self.now c.args.size.rows.value c.args.size.cols.value (grind (arith, common_steps))) refl

pub returns-in_err-set_width-2-clause-sink : goal.returns-in_err-set_width-2-clause-sink
returns-in_err-set_width-2-clause-sink g c =
    higher-sunk g (goal.at.returns-in_err-set_width-2-clause-sink g c).Else-lt

pub returns-in_err-lengthen-clause-sink : goal.returns-in_err-lengthen-clause-sink
returns-in_err-lengthen-clause-sink g c = higher-sunk g (goal.at.returns-in_err-lengthen-clause-sink g c).Else-lt

pub returns-in_ok-lengthen-clause-sink : goal.returns-in_ok-lengthen-clause-sink
returns-in_ok-lengthen-clause-sink g c = higher-sunk g (goal.at.returns-in_ok-lengthen-clause-sink g c).Else-lt

pub returns-in_ok-lengthen-clause-allocated : goal.returns-in_ok-lengthen-clause-allocated
returns-in_ok-lengthen-clause-allocated g c some =
    let before : IsAllocated c.set_width-else-lt.new.self =
    omega (arith, c.set_width-else-lt.ensures.count, ap (λ (x : GridView). length x.rows) c.show_whole_screen.ensures)
    in
    some-lengthened c.set_width-else-lt.new.self c.lengthen.new.self c.args.size.rows.value
    c.in_ok-lengthen.ensures.grid before
