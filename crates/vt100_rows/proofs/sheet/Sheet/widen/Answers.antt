use Rattle.std.proofs.Common.{arith, ap, ◌∙◌, ◌≡◌, ◌<◌, length, length-set, set}
use Rattle.std.proofs.lemmas.Bool.{false≢true}
use Rattle.vt100_cells.specs.Cell.{CellView, default_cell}
use Rattle.vt100_rows.specs.Row.{RowView, grown}
use Rattle.vt100_rows.specs.Sheet.{row_at}
use Rattle.vt100_rows.proofs.SheetLemmas.{changes-more, length-read}
use Rattle.vt100_rows.proofs.KeptLemmas.{not_yet, wide_along}
use Rattle.vt100_rows.proofs.WidthLemmas.{changes-all, IsSheet-back, same_read}
use Rattle.vt100_rows.proofs.sheet.Sheet.widen.Goals as goal

pub loop-r-preserved : goal.loop-r-preserved
loop-r-preserved c =
    let rows = c.loop-r.self in
    let f : RowView → RowView = λ v. grown v c.args.to default_cell in
    let within : c.loop-r.r < length rows = omega (arith, c.loop-r.invariant.count) in
    let wider : c.grow.new.self ≡ f (row_at rows c.loop-r.r) =
    c.in_default.ensures.ok ∙ ap (λ (x : CellView). grown c.index_mut.result.now c.args.to x) c.new.ensures
    ∙ ap f c.index_mut.ensures.value in
    record {
      count = length-set rows c.loop-r.r c.grow.new.self ∙ c.loop-r.invariant.count;
      changed = changes-more f c.args.self.now rows 0 c.loop-r.r c.grow.new.self (omega arith) within
          c.loop-r.invariant.changed wider;
    }

pub returns-in-Err-clause-size : goal.returns-in-Err-clause-size
returns-in-Err-clause-size c =
    let rows = c.loop-r.self in
    length-read _ _ c.narrow.new.self c.narrow.ensures ∙ length-set rows c.loop-r.r c.grow.new.self
    ∙ c.loop-r.invariant.count

pub returns-in-Err-clause-sheet : goal.returns-in-Err-clause-sheet
returns-in-Err-clause-sheet c =
    let rows = c.loop-r.self in
    let same : c.grow.new.self ≡ row_at rows c.loop-r.r = c.in-Err.ensures.err ∙ c.index_mut.ensures.value in
    IsSheet-back c.args.self.now (set rows c.loop-r.r c.grow.new.self) c.narrow.new.self c.args.from c.args.to
    c.loop-r.r c.requires.sheet c.requires.wider (omega arith)
    (length-set rows c.loop-r.r c.grow.new.self ∙ c.loop-r.invariant.count)
    (λ k. same_read rows c.loop-r.r c.grow.new.self same k ∙ c.loop-r.invariant.changed k) c.narrow.ensures

pub returns-in-Err-clause-same : goal.returns-in-Err-clause-same
returns-in-Err-clause-same c narrow =
    let rows = c.loop-r.self in
    let f : RowView → RowView = λ v. grown v c.args.to default_cell in
    let row : c.index_mut.result.now ≡ row_at c.args.self.now c.loop-r.r =
    c.index_mut.ensures.value ∙ c.loop-r.invariant.changed c.loop-r.r ∙ not_yet f c.args.self.now 0 c.loop-r.r in
    let wide = (c.requires.sheet.each c.loop-r.r (omega arith)).wide in
    absurd (false≢true (c.in-Err.ensures.enough (wide_along _ (row_at c.args.self.now c.loop-r.r) c.args.to row
    (omega (arith, wide, narrow)))))

pub returns-clause-rows : goal.returns-clause-rows
returns-clause-rows c =
    let f : RowView → RowView = λ v. grown v c.args.to default_cell in
    changes-all f c.args.self.now c.loop-r.self c.loop-r.r c.loop-r.invariant.count
    (omega (arith, c.loop-r.invariant.count)) c.loop-r.invariant.changed
