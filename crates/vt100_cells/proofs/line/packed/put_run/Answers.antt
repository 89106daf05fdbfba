use Rattle.std.proofs.Common.{arith, ◌≡◌, ◌∙◌, ◌+◌, ◌*◌, ◌≤◌, length, map, true, false, ap, sym}
use Rattle.vt100_cells.specs.Cell.{CellView}
use Rattle.vt100_cells.specs.Cells.{cell_at}
use Rattle.vt100_cells.specs.Line.{half_of}
use Rattle.std.proofs.lemmas.List.{length-map}
use Rattle.vt100_cells.proofs.RunLemmas.{makes-right, makes-no_right}
use Rattle.vt100_cells.proofs.GlyphLemmas.{writes}
use Rattle.vt100_cells.proofs.line.packed.put_run.Goals as goal
use Rattle.vt100_cells.proofs.line.packed.put_run.Goals.{then-is_continuation_at, else-is_continuation_at}

pub returns-clause-cells : goal.returns-clause-cells
returns-clause-cells g c =
    let w = g.row.COLUMNS in
    let ts = map g.G.Glyph.code c.args.text.now in
    let ys = c.clear_left.new.cells in
    let e = c.args.start + w * length c.args.text.now in
    let a = c.args.attrs.now in
    let n = length-map c.args.text.now g.G.Glyph.code in
    let whole = writes w c.args.cells.now ys c.if-is_continuation_at.cells c.write_run.new.cells c.args.start e _ ts a
    c.space_of.result.attrs c.requires.columns (omega (arith, n, c.requires.some))
    (ap (λ k. c.args.start + w * k) (sym n)) c.requires.in_row
    (omega arith) (ap (λ (x : CellView). x.attrs) c.space_of.ensures) c.clear_left.ensures in
    elim c.if-is_continuation_at.branch [
      | then-is_continuation_at v ↦
          let half : (cell_at ys e).continuation ≡ true = cc in
          whole (v.cells-is ∙ makes-right ys e v.half_of.result (half_of w a) v.half_of.ensures half)
          c.write_run.ensures.cells
      | else-is_continuation_at v ↦
          let none : (cell_at ys e).continuation ≡ false = cc in
          whole (v.cells-is ∙ makes-no_right ys e (half_of w a) none) c.write_run.ensures.cells
    ]
