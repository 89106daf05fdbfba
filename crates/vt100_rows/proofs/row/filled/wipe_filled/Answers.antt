use Rattle.std.proofs.Common.{◌≡◌, ◌∙◌, ap, arith, length}
use Rattle.std.proofs.lemmas.Grind.{common_steps}
use Rattle.vt100_forms.specs.Attrs.{default_attrs}
use Rattle.vt100_cells.specs.Line.{wiped}
use Rattle.vt100_cells.specs.Cells.{cell_at, by_position}
use Rattle.vt100_rows.proofs.FilledLemmas.{wipes-filled, wipes-none}
use Rattle.vt100_rows.proofs.row.filled.wipe_filled.Goals as goal
use Rattle.vt100_rows.proofs.row.filled.wipe_filled.Goals.{then-eq, else-eq}

pub returns-then-s-end : goal.returns-then-s-end
returns-then-s-end c =
    let xs = c.args.cells.now in
    let wipes : _ ≡ by_position (length xs) (wiped (cell_at xs) c.args.s c.if-eq.end c.args.attrs) =
    c.wipe.ensures
    ∙ (λ j. by_position (length xs)
    (wiped (cell_at xs) (c.from.ensures j) (c.from-then-s-end.ensures j) c.args.attrs)) in
    elim c.if-eq.branch [
      | then-eq w ↦
          let is : c.args.attrs ≡ default_attrs = grind (arith, common_steps) in
          wipes ∙ wipes-filled xs c.args.s c.args.e c.args.filled c.if-eq.end c.args.attrs is
          c.requires.paired c.requires.blank c.requires.some (omega (arith, w.end-is, w.min-end.ensures))
      | else-eq w ↦
          wipes ∙ ap (λ t. by_position (length xs) (wiped (cell_at xs) c.args.s t c.args.attrs)) w.end-is
    ]

pub returns-else-s-end : goal.returns-else-s-end
returns-else-s-end c =
    elim c.if-eq.branch [
      | then-eq w ↦
          let is : c.args.attrs ≡ default_attrs = grind (arith, common_steps) in
          wipes-none c.args.cells.now c.args.s c.args.e c.args.filled c.if-eq.end c.args.attrs is c.requires.paired
          c.requires.blank c.requires.some (omega (arith, w.end-is, w.min-end.ensures)) (omega arith)
      | else-eq w ↦ absurd (omega (arith, w.end-is, c.requires.some))
    ]
