use Rattle.std.proofs.Common.{◌≡◌, ◌+◌, ◌∙◌, ap, sym, subst, arith, take, ◌++◌, ◌∷◌, [], List}
use Rattle.std.proofs.lemmas.List.{take_more}
use Rattle.vt100_rows.specs.Row.{RowView, blank_row}
use Rattle.vt100_rows.specs.Sink.{TakesAll}
use Rattle.vt100_rows.proofs.SinkLemmas.{TakesAll-push}
use Rattle.vt100_rows.proofs.sheet.Sheet.give_first.Goals as goal

pub loop-r-preserved : goal.loop-r-preserved
loop-r-preserved g c =
    let rows = c.args.self.now in
    let i = c.loop-r.r in
    let e : take (i + 1) rows ≡ take i rows ++ c.index.result.now ∷ [] =
    take_more rows i (blank_row 0) (omega (arith, c.requires)) ∙ ap (λ x. take i rows ++ x ∷ []) (sym c.index.ensures) in
    subst (λ (xs : List RowView). TakesAll g.S.RowSink.takes c.args.sink.now xs c.row.new.self) (sym e)
    (TakesAll-push g.S.RowSink.takes c.args.sink.now c.loop-r.sink c.row.new.self (take i rows) c.index.result.now
    c.loop-r.invariant c.row.ensures)
