use Rattle.std.proofs.Common.{◌≡◌, ◌∙◌, ap, arith, subst}
use Rattle.vt100_core.specs.Grid.{GridView, IsGrid}
use Rattle.vt100_rows.proofs.SheetLemmas.{length-read}
use Rattle.vt100_core.specs.Copy.{fitted_at, visible_as_drawn}
use Rattle.vt100_core.proofs.VisibleLemmas.{fitted-more, rows-fitted, sheet-fitted, some-fitted}
use Rattle.vt100_core.proofs.grid.Grid.clone_shown_rows.Goals as goal

pub push-requires : goal.push-requires
push-requires c =
    omega (arith, length-read c.loop-r.r (fitted_at c.args.self.now) c.loop-r.rows c.loop-r.invariant)

pub loop-r-preserved : goal.loop-r-preserved
loop-r-preserved c =
    fitted-more c.args.self.now c.loop-r.r c.cols.result c.rows-height.result c.loop-r.rows
    c.push.new.self c.in_ok-clone_fitted.field-0 c.shown_row.result.now c.loop-r.invariant c.shown_row.ensures
    (c.cols.ensures ∙ ap (λ (g : GridView). g.width) c.self.view_is)
    (c.rows-height.ensures ∙ ap (λ (g : GridView). g.height) c.self.view_is) c.in_ok-clone_fitted.ensures
    c.in_ok-push.ensures.pushed

pub returns : goal.returns
returns c =
    let s = c.args.self.now in
    let grid : IsGrid s = subst IsGrid c.self.view_is c.self.invariant in
    let tall = c.rows-height.ensures ∙ ap (λ (g : GridView). g.height) c.self.view_is in
    let all : c.loop-r.r ≡ s.height = omega (arith, tall, c.loop-r.auto.r-end, c.loop-r-test.false) in
    let rows : c.loop-r.rows ≡ (visible_as_drawn s).rows =
    rows-fitted s c.loop-r.r c.loop-r.rows grid c.requires all c.loop-r.invariant in
    record {
      rows = rows;
      sheet = sheet-fitted s c.loop-r.rows grid c.requires rows;
      some = some-fitted s c.loop-r.rows c.requires rows;
    }
