use Rattle.std.proofs.Common.{◌≡◌, ◌++◌, ◌∙◌, ap, refl, subst, sym, length, map}
use Rattle.row_pictures.specs.Svg.{AreSvgRuns}
use Rattle.recorded_screen.specs.Reel.{drawn_row}
use Rattle.recorded_screen.specs.Shots.{Inserts}
use Rattle.recorded_screen.proofs.ReelLemmas.{drawn_more, takes_place}
use Rattle.recorded_screen.proofs.reel.Reel.row_number.Goals as goal

pub returns-clause-drawn : goal.returns-clause-drawn
returns-clause-drawn c =
    let item : c.into_bytes.result.items ≡ c.push_svg_row.new.page =
    c.into_bytes.ensures.bytes ∙ c.in_ok-append.ensures
    ∙ ap (λ xs. xs ++ c.push_svg_row.new.page) c.new-row.ensures in
    let inserts = subst (λ xs. Inserts (map (λ v. v.items) c.args.self.now.rows.keys)
    (map (λ v. v.items) c.insert_row.new.rows.keys) xs c.in_ok-number.number c.in_ok-number.new) item
    c.in_ok-number.ensures.inserts in
    let takes = takes_place _ _ _ c.in_ok-number.number c.in_ok-number.new inserts in
    record {
      rows = drawn_more drawn_row _ _ _ c.in_ok-number.number c.in_ok-number.new _ _ inserts c.requires.drawn.rows
          c.in_ok-draw_row_if.ensures;
      different = takes.different c.requires.drawn.different;
    }

pub returns-clause-grows : goal.returns-clause-grows
returns-clause-grows c =
    let takes = takes_place _ _ _ c.in_ok-number.number c.in_ok-number.new c.in_ok-number.ensures.inserts in
    record {
      rows = takes.longer;
      own = takes.own;
      tracks = refl;
      size = refl;
      time = refl;
    }

pub returns-clause-row : goal.returns-clause-row
returns-clause-row c =
    let runs = c.in_ok-push_svg_row.ensures.runs in
    let takes = takes_place _ _ _ c.in_ok-number.number c.in_ok-number.new c.in_ok-number.ensures.inserts in
    let item : c.into_bytes.result.items ≡ runs.more =
    c.into_bytes.ensures.bytes ∙ c.in_ok-append.ensures
    ∙ ap (λ xs. xs ++ c.push_svg_row.new.page) c.new-row.ensures
    ∙ runs.joined ∙ ap (λ xs. xs ++ runs.more) c.new-page.ensures in
    record {
      item = c.into_bytes.result.items;
      at = takes.at;
      holds = subst (λ xs. AreSvgRuns c.args.look.now c.args.cells.now c.args.cursor xs) (sym item) runs.holds;
    }
