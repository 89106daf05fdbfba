use Rattle.std.proofs.Common.{arith, ap, ◌∙◌, ◌≡◌, ◌<◌, ◌++◌, ◌∷◌, [], List, length, length-append, length-set}
use Rattle.vt100_rows.specs.Row.{RowView, IsRow, blank_row, trimmed}
use Rattle.vt100_rows.proofs.TrimLemmas.{IsRow-trimmed}
use Rattle.vt100_rows.specs.Sheet.{row_at}
use Rattle.vt100_rows.proofs.SheetLemmas.{changes-more, changes-done, IsSheet-with_blank}
use Rattle.vt100_rows.proofs.KeptLemmas.{IsRow-push, keeps-more}
use Rattle.vt100_rows.proofs.kept_rows.keep_rows.Goals as goal

pub loop-r-preserved : goal.loop-r-preserved
loop-r-preserved c =
    let f : RowView → RowView = λ v. blank_row c.args.width in
    let within : c.loop-r.r < length c.loop-r.rows = omega (arith, c.loop-r.invariant.size, c.requires.in_rows) in
    let row : c.index.result.now ≡ row_at c.loop-r.rows c.loop-r.r = c.index.ensures in
    let of_sheet = c.loop-r.invariant.sheet.each c.loop-r.r within in
    let fresh : c.reset.new.self ≡ blank_row c.args.width =
    c.reset.ensures ∙ ap (λ (v : RowView). blank_row (length v.cells)) c.index_mut.ensures.value
    ∙ ap blank_row of_sheet.wide in
    let whole : IsRow c.index.result.now = rw row of_sheet.row in
    let copied : c.in_ok-row.row ≡ trimmed c.index.result.now = c.in_ok-row.ensures in
    let short : IsRow c.in_ok-row.row = rw copied (IsRow-trimmed c.index.result.now whole) in
    record {
      blank = changes-more f c.args.rows.now c.loop-r.rows c.args.first c.loop-r.r c.reset.new.self (omega arith)
          within c.loop-r.invariant.blank fresh;
      kept = (c.in_ok-push_back.ensures.items ∙ ap (λ (xs : List RowView). xs ++ c.in_ok-row.row
          ∷ []) c.loop-r.invariant.kept)
          ∙ keeps-more f c.args.rows.now c.loop-r.rows c.args.kept.now.items c.args.first c.loop-r.r
          c.index.result.now c.in_ok-row.row (omega arith) (omega (arith, within, c.loop-r.invariant.size))
          c.loop-r.invariant.blank row copied;
      size = length-set c.loop-r.rows c.loop-r.r c.reset.new.self ∙ c.loop-r.invariant.size;
      sheet = IsSheet-with_blank (length c.args.rows.now) c.args.width c.loop-r.rows c.loop-r.r c.reset.new.self
          c.loop-r.invariant.sheet within (omega arith) fresh;
      each_kept = rw c.in_ok-push_back.ensures.items
          (IsRow-push c.loop-r.kept.items c.in_ok-row.row c.loop-r.invariant.each_kept short);
      count = rw c.in_ok-push_back.ensures.items (omega (
        arith,
        length-append c.loop-r.kept.items (c.in_ok-row.row ∷ []),
        c.loop-r.invariant.count,
      ));
    }

pub returns-in_err-push_back-clause-each_kept : goal.returns-in_err-push_back-clause-each_kept
returns-in_err-push_back-clause-each_kept c = rw c.in_err-push_back.ensures.items c.loop-r.invariant.each_kept

pub returns-clause-rows : goal.returns-clause-rows
returns-clause-rows c =
    changes-done (λ v. blank_row c.args.width) c.args.rows.now c.loop-r.rows c.args.first c.loop-r.r c.args.end
    c.loop-r.invariant.size (omega (arith, c.requires.in_part)) c.loop-r.invariant.blank
