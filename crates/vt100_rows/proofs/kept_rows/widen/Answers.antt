use Rattle.std.proofs.Common.{arith, ap, ◌∙◌, ◌≡◌, ◌<◌, length, length-set}
use Rattle.std.proofs.lemmas.Bool.{false≢true}
use Rattle.std.proofs.lemmas.List.{get_or_default}
use Rattle.vt100_cells.specs.Cell.{CellView, default_cell}
use Rattle.vt100_rows.specs.Row.{RowView, grown, blank_row}
use Rattle.vt100_rows.specs.Sheet.{row_at}
use Rattle.vt100_rows.proofs.SheetLemmas.{changes-more, changes-done}
use Rattle.vt100_rows.proofs.KeptLemmas.{IsRow-set, IsRow-grown_default, not_yet, wide_along}
use Rattle.vt100_rows.proofs.kept_rows.widen.Goals as goal

pub loop-j-preserved : goal.loop-j-preserved
loop-j-preserved c =
    let rows = c.loop-j.rows.items in
    let f : RowView → RowView = λ v. grown v c.args.width default_cell in
    let within : c.loop-j.j < length rows = omega (arith, c.loop-j.invariant.count, c.requires.in_rows) in
    let row : c.index_mut.result.now ≡ row_at rows c.loop-j.j =
    c.index_mut.ensures.value ∙ get_or_default rows c.loop-j.j c.index_mut.result.now (blank_row 0) within in
    let wider : c.grow.new.self ≡ f (row_at rows c.loop-j.j) =
    c.in_ok-grow.ensures.ok ∙ ap (λ (x : CellView). grown c.index_mut.result.now c.args.width x) c.new.ensures
    ∙ ap f row in
    record {
      grown = changes-more f c.args.rows.now.items rows c.args.first c.loop-j.j c.grow.new.self (omega arith) within
          c.loop-j.invariant.grown wider;
      each = IsRow-set rows c.loop-j.j c.grow.new.self c.loop-j.invariant.each
          (rw wider (IsRow-grown_default (row_at rows c.loop-j.j) c.args.width
          (c.loop-j.invariant.each c.loop-j.j within) (omega arith))) within;
      count = length-set rows c.loop-j.j c.grow.new.self ∙ c.loop-j.invariant.count;
    }

pub returns-in_err-grow-clause-each : goal.returns-in_err-grow-clause-each
returns-in_err-grow-clause-each c =
    let rows = c.loop-j.rows.items in
    let within : c.loop-j.j < length rows = omega (arith, c.loop-j.invariant.count, c.requires.in_rows) in
    let row : c.index_mut.result.now ≡ row_at rows c.loop-j.j =
    c.index_mut.ensures.value ∙ get_or_default rows c.loop-j.j c.index_mut.result.now (blank_row 0) within in
    IsRow-set rows c.loop-j.j c.grow.new.self c.loop-j.invariant.each
    (rw (c.in_err-grow.ensures.err ∙ row) (c.loop-j.invariant.each c.loop-j.j within)) within

pub returns-in_err-grow-clause-wide : goal.returns-in_err-grow-clause-wide
returns-in_err-grow-clause-wide c all =
    let rows = c.loop-j.rows.items in
    let f : RowView → RowView = λ v. grown v c.args.width default_cell in
    let within : c.loop-j.j < length rows = omega (arith, c.loop-j.invariant.count, c.requires.in_rows) in
    let row : c.index_mut.result.now ≡ row_at c.args.rows.now.items c.loop-j.j =
    c.index_mut.ensures.value ∙ get_or_default rows c.loop-j.j c.index_mut.result.now (blank_row 0) within
    ∙ c.loop-j.invariant.grown c.loop-j.j ∙ not_yet f c.args.rows.now.items c.args.first c.loop-j.j in
    absurd (false≢true (c.in_err-grow.ensures.enough
    (wide_along c.index_mut.result.now (row_at c.args.rows.now.items c.loop-j.j) c.args.width row
    (all c.loop-j.j (omega arith) (omega arith)))))

pub returns-clause-rows : goal.returns-clause-rows
returns-clause-rows c =
    changes-done (λ v. grown v c.args.width default_cell) c.args.rows.now.items c.loop-j.rows.items c.args.first
    c.loop-j.j c.args.end c.loop-j.invariant.count (omega (arith, c.requires.in_part)) c.loop-j.invariant.grown
