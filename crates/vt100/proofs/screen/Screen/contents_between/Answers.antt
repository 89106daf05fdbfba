use Rattle.std.proofs.Common.{◌≡◌, ◌≤◌, ◌+◌, ◌-◌, ◌==◌, cond, refl, rules, sym, ap, ◌∙◌, arith}
use Rattle.std.proofs.lemmas.Bool.{false≢true}
use Rattle.std.specs.Prelude.{string_bytes}
use Rattle.vt100_core.specs.Grid.{GridView, visible_row_at}
use Rattle.screen_model.specs.Call.{ScreenView}
use Rattle.vt100_core.proofs.ShowLemmas.{shown-none}
use Rattle.vt100.proofs.BetweenLemmas.{IsBetween-next, between-on, between-past, some-row}
use Rattle.vt100.proofs.BetweenLemmas.{between-last, between-row, encodes-empty}
use Rattle.vt100.proofs.WriteLemmas.{some-full}
use Rattle.vt100.proofs.screen.Screen.contents_between.Goals as goal
use Rattle.vt100.proofs.screen.Screen.contents_between.Goals.{in-Some-visible_row+in_ok-write_contents}
use Rattle.vt100.proofs.screen.Screen.contents_between.Goals.{in_default-visible_row}

pub loop-r-preserved : goal.loop-r-preserved
loop-r-preserved c =
    let g = c.args.self.now.state.shown in
    let first = c.args.start_row in
    let r = c.loop-r.r in
    let v = c.in-Some.row.now in
    let shown = ap (λ (x : ScreenView). x.state.shown) c.self.view_is in
    let row = some-row g r v (ap (λ x. visible_row_at x r) (sym shown) ∙ sym c.in-Some.ensures) in
    IsBetween-next g first c.args.start_col (r - first) (r + 1 - first) r c.cols-cols.result v c.loop-r.start
    (string_bytes c.loop-r.contents) (string_bytes c.write_rest.new.contents)
    (omega (arith, c.loop-r.auto.r)) (omega (arith, c.loop-r.auto.r)) row.0 row.1
    (c.cols-cols.ensures ∙ c.size.ensures.cols ∙ ap (λ (x : GridView). x.width) shown) c.loop-r.invariant
    c.in_ok-write_rest.ensures.text

pub returns-in_err-write_rest : goal.returns-in_err-write_rest
returns-in_err-write_rest c =
    let g = c.args.self.now.state.shown in
    let first = c.args.start_row in
    let r = c.loop-r.r in
    let v = c.in-Some.row.now in
    let shown = ap (λ (x : ScreenView). x.state.shown) c.self.view_is in
    let row = some-row g r v (ap (λ x. visible_row_at x r) (sym shown) ∙ sym c.in-Some.ensures) in
    record {
      text = search rules;
      memory = search rules;
      empty = λ none. absurd (false≢true (c.in_err-write_rest.ensures.empty (between-row g first c.args.start_col
          c.args.end_row c.args.end_col r c.cols-cols.result v c.loop-r.start (omega (arith, c.loop-r.auto.r))
          (omega (arith, c.loop-r-test.true)) row.0 row.1
          (c.cols-cols.ensures ∙ c.size.ensures.cols ∙ ap (λ (x : GridView). x.width) shown)
          c.loop-r.invariant.begins (encodes-empty _ none))));
    }

pub returns-in_err-write_contents : goal.returns-in_err-write_contents
returns-in_err-write_contents c =
    let g = c.args.self.now.state.shown in
    let first = c.args.start_row in
    let end = c.args.end_row in
    let v = c.in-Some-visible_row.row.now in
    let shown = ap (λ (x : ScreenView). x.state.shown) c.self.view_is in
    let row = some-row g end v (ap (λ x. visible_row_at x end) (sym shown) ∙ sym c.in-Some-visible_row.ensures) in
    let ordered : first ≤ end = c.if-end_row-start_row.false in
    let last : c.loop-r.r ≡ end = omega (arith, ordered, c.loop-r.auto.r-end, c.loop-r-test.false) in
    record {
      text = search rules;
      memory = search rules;
      empty = λ none. absurd (some-full c.loop-r.contents _ c.in_err-write_contents.ensures.full
          (between-last g first c.args.start_col end c.args.end_col c.saturating_sub.result v c.loop-r.start ordered
          row.0 row.1 (c.loop-r.invariant.begins ∙ ap (λ k. cond (k - first == 0) c.args.start_col 0) last)
          c.saturating_sub.ensures (encodes-empty _ none)));
    }

pub returns : goal.returns
returns c =
    let g = c.args.self.now.state.shown in
    let first = c.args.start_row in
    let end = c.args.end_row in
    let shown = ap (λ (x : ScreenView). x.state.shown) c.self.view_is in
    let ordered : first ≤ end = c.if-end_row-start_row.false in
    let last : c.loop-r.r ≡ end =
    omega (arith, ordered, c.loop-r.auto.r-end, c.loop-r-test.false) in
    record {
      text = elim c.match-visible_row-2.branch [
        | in-Some-visible_row+in_ok-write_contents w ↦
            let v = w.in-Some-visible_row.row.now in
            let row = some-row g end v
            (ap (λ x. visible_row_at x end) (sym shown) ∙ sym w.in-Some-visible_row.ensures) in
            rw w.contents-is (between-on g first c.args.start_col end c.args.end_col (c.loop-r.r - first)
            w.saturating_sub.result v c.loop-r.start (string_bytes c.loop-r.contents)
            (string_bytes w.write_contents.new.contents) ordered row.0 (ap (λ k. k - first) last)
            w.saturating_sub.ensures row.1 c.loop-r.invariant w.in_ok-write_contents.ensures.text)
        | in_default-visible_row w ↦
            rw w.contents-is (between-past g first c.args.start_col end c.args.end_col (c.loop-r.r - first) end
            c.loop-r.start (string_bytes c.loop-r.contents) ordered (omega arith)
            (shown-none g end (ap (λ x. visible_row_at x end) (sym shown) ∙ sym w.in_default-visible_row.ensures))
            (ap (λ k. k - first) last) c.loop-r.invariant)
      ];
      memory = tt;
      empty = λ none. refl;
    }
