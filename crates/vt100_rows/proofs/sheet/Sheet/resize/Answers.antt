use Rattle.std.proofs.Common.{arith, subst, ap, ◌∙◌, ◌≡◌, List, length}
use Rattle.std.specs.Prelude.{OnOk}
use Rattle.vt100_rows.specs.Row.{RowView, truncated}
use Rattle.vt100_rows.specs.Sheet.{rows_by_position, changed_between}
use Rattle.vt100_rows.proofs.SheetLemmas.{length-read}
use Rattle.vt100_rows.proofs.WidthLemmas.{narrows, widens}
use Rattle.vt100_rows.proofs.sheet.Sheet.resize.Goals as goal

pub returns-then-to-from-clause-rows : goal.returns-then-to-from-clause-rows
returns-then-to-from-clause-rows c =
    let rows = c.args.self.now in
    c.narrow.ensures ∙ ap (λ n. rows_by_position (length rows) (changed_between (λ v. truncated v c.args.to) rows 0 n))
    c.len.ensures ∙ narrows rows c.args.from c.args.to c.requires.sheet (omega arith)

pub returns-then-to-from-clause-size : goal.returns-then-to-from-clause-size
returns-then-to-from-clause-size c = length-read _ _ c.narrow.new.self c.narrow.ensures

pub returns-else-to-from-clause-rows : goal.returns-else-to-from-clause-rows
returns-else-to-from-clause-rows c =
    subst (λ (rows : List RowView). OnOk c.widen.result (c.widen.new.self ≡ rows))
    (widens c.args.self.now c.args.from c.args.to c.requires.sheet (omega arith)) c.widen.ensures.rows
