use Rattle.std.proofs.Common.{arith, ap, ◌∙◌, ◌≡◌, ◌<◌, ◌-◌, length, length-set}
use Rattle.std.proofs.lemmas.List.{get_or_default}
use Rattle.vt100_cells.specs.Cell.{CellView, default_cell}
use Rattle.vt100_rows.specs.Row.{RowView, resized_row, blank_row}
use Rattle.vt100_rows.specs.Sheet.{row_at}
use Rattle.vt100_rows.proofs.SheetLemmas.{changes-more}
use Rattle.vt100_rows.proofs.KeptLemmas.{IsRow-set}
use Rattle.vt100_rows.proofs.BackLemmas.{IsRow-resized_default, changed-end}
use Rattle.vt100_rows.proofs.kept_rows.resize_newest.Goals as goal

pub loop-j-preserved : goal.loop-j-preserved
loop-j-preserved c =
    let rows = c.loop-j.rows.items in
    let f : RowView → RowView = λ v. resized_row v c.args.width default_cell in
    let within : c.loop-j.j < length rows = omega (arith, c.loop-j.invariant.count) in
    let row : c.index_mut.result.now ≡ row_at rows c.loop-j.j =
    c.index_mut.ensures.value ∙ get_or_default rows c.loop-j.j c.index_mut.result.now (blank_row 0) within in
    let sized : c.resize.new.self ≡ f (row_at rows c.loop-j.j) =
    c.in_ok-resize.ensures.ok ∙ ap (λ (x : CellView). resized_row c.index_mut.result.now c.args.width x) c.new.ensures
    ∙ ap f row in
    record {
      changed = changes-more f c.args.rows.now.items rows (length c.args.rows.now.items - c.args.n) c.loop-j.j
          c.resize.new.self (omega arith) within c.loop-j.invariant.changed sized;
      each = IsRow-set rows c.loop-j.j c.resize.new.self c.loop-j.invariant.each
          (rw sized (IsRow-resized_default (row_at rows c.loop-j.j) c.args.width
          (c.loop-j.invariant.each c.loop-j.j within) (omega arith))) within;
      count = length-set rows c.loop-j.j c.resize.new.self ∙ c.loop-j.invariant.count;
    }

pub returns-in_err-resize-clause-each : goal.returns-in_err-resize-clause-each
returns-in_err-resize-clause-each c =
    let rows = c.loop-j.rows.items in
    let within : c.loop-j.j < length rows = omega (arith, c.loop-j.invariant.count) in
    let row : c.index_mut.result.now ≡ row_at rows c.loop-j.j =
    c.index_mut.ensures.value ∙ get_or_default rows c.loop-j.j c.index_mut.result.now (blank_row 0) within in
    IsRow-set rows c.loop-j.j c.resize.new.self c.loop-j.invariant.each
    (rw (c.in_err-resize.ensures.err ∙ row) (c.loop-j.invariant.each c.loop-j.j within)) within

pub returns-clause-rows : goal.returns-clause-rows
returns-clause-rows c =
    let f : RowView → RowView = λ v. resized_row v c.args.width default_cell in
    changed-end f c.args.rows.now.items c.loop-j.rows.items (length c.args.rows.now.items - c.args.n) c.loop-j.j
    (omega arith) (omega arith) c.loop-j.invariant.count c.loop-j.invariant.changed
