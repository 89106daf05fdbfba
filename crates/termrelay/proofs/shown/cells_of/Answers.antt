use Rattle.std.proofs.Common.{◌≡◌, ◌∙◌, sym, ap, arith}
use Rattle.std.specs.Option.{option_copied}
use Rattle.std.proofs.lemmas.List.{length-take-le}
use Rattle.screen_model.specs.Shown.{shown_state}
use Rattle.termrelay.proofs.RowLemmas.{cells-reported, cells-cut}
use Rattle.termrelay.proofs.shown.cells_of.Goals as goal

pub slice_bounds-result-end : goal.slice_bounds-result-end
slice_bounds-result-end c =
    let reported = cells-reported c.args.screen.now.state c.args.row c.requires.state c.requires.inside
    c.in-Some.cells.now
    (sym c.row_cells.ensures ∙ ap (λ o. option_copied o) c.in-Some.is) in
    let n = c.from.result in
    let here : n ≡ c.args.screen.now.state.shown.width = omega arith in
    sym (length-take-le n c.in-Some.cells.now (omega (arith, here, reported.wide)))

pub returns-in-Some : goal.returns-in-Some
returns-in-Some c =
    let reported = cells-reported c.args.screen.now.state c.args.row c.requires.state c.requires.inside
    c.in-Some.cells.now
    (sym c.row_cells.ensures ∙ ap (λ o. option_copied o) c.in-Some.is) in
    let n = c.from.result in
    let width = c.args.screen.now.state.shown.width in
    let here : n ≡ width = omega arith in
    record {
      count = length-take-le n c.in-Some.cells.now (omega (arith, here, reported.wide)) ∙ here;
      cells = cells-cut n width c.in-Some.cells.now
          ((shown_state c.args.screen.now.state).cell c.args.row) here reported.same;
    }
