use Rattle.std.proofs.Common.{arith, ap, sym, ◌∙◌, ◌≡◌, ◌+◌, ◌<◌, ◌++◌, ◌∷◌, [], List, length, length-drop, take}
use Rattle.std.proofs.Common.{get_or}
use Rattle.std.proofs.lemmas.List.{take_more}
use Rattle.vt100_rows.specs.Row.{RowView, blank_row}
use Rattle.vt100_rows.proofs.SinkLemmas.{TakesAll-push, TakesAll-list, drop-more, first-dropped}
use Rattle.vt100_rows.proofs.kept_rows.drop_oldest.Goals as goal

pub loop-i-preserved : goal.loop-i-preserved
loop-i-preserved g c =
    let rows = c.args.rows.now.items in
    let i = c.loop-i._i in
    let within : i < length rows = omega (arith, c.requires) in
    let row : c.unwrap-row.result ≡ get_or rows i (blank_row 0) =
    first-dropped rows c.loop-i.rows.items i c.unwrap-row.result within c.loop-i.invariant.kept
    (sym c.unwrap-row.ensures ∙ c.pop_front.ensures.value (blank_row 0)
    (omega (
      arith,
      ap (λ (xs : List RowView). length xs) c.loop-i.invariant.kept,
      length-drop i rows,
      c.loop-i.rows.ok,
    ))) in
    record {
      kept = drop-more rows c.loop-i.rows.items c.pop_front.new.self.items i c.loop-i.invariant.kept
          c.pop_front.ensures.rest;
      sink = TakesAll-list g.S.RowSink.takes c.args.sink.now c.row-in-loop-i.new.self (take i rows ++ c.unwrap-row.result
          ∷ []) (take (i + 1) rows)
          (ap (λ (x : RowView). take i rows ++ x ∷ []) row ∙ sym (take_more rows i (blank_row 0) within))
          (TakesAll-push g.S.RowSink.takes c.args.sink.now c.loop-i.sink c.row-in-loop-i.new.self (take i rows)
          c.unwrap-row.result c.loop-i.invariant.sink c.row-in-loop-i.ensures);
    }
