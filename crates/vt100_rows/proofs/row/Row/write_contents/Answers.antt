use Rattle.std.proofs.Common.{append_assoc, refl, replicate, ℕ}
use Rattle.std.proofs.Common.{◌≡◌, ◌+◌, ◌<◌, ◌≤◌, ◌++◌, true, false, not, ◌&&◌, ◌==◌, ap, ◌∙◌, sym, arith, length, min}
use Rattle.std.proofs.Common.{List}
use Rattle.std.proofs.lemmas.List.{length-replicate}
use Rattle.std.specs.Prelude.{string_bytes, string_len, string_capacity, encode_utf8_all}
use Rattle.vt100_cells.specs.Cell.{CellView, has_text}
use Rattle.vt100_cells.specs.Cells.{cell_at}
use Rattle.vt100_rows.specs.Row.{RowView}
use Rattle.vt100_cells.proofs.TrimLemmas.{not-false}
use Rattle.std.proofs.lemmas.Bool.{not-true}
use Rattle.row_drawing.proofs.WritesLemmas.{begun-more, begun_whole, full_within}
use Rattle.vt100_rows.proofs.TextLemmas.{IsWritten-text, IsWritten-none, IsBegun-text, on-err}
use Rattle.vt100_rows.proofs.row.Row.write_contents.Goals as goal
use Rattle.vt100_rows.proofs.row.Row.write_contents.Goals.{then-has_contents+in_ok-push_spaces+in_ok-push_str}
use Rattle.vt100_rows.proofs.row.Row.write_contents.Goals.{else-has_contents+then-is_empty_column}
use Rattle.vt100_rows.proofs.row.Row.write_contents.Goals.{else-has_contents+else-is_empty_column}

pub loop-col-preserved : goal.loop-col-preserved
loop-col-preserved c =
    let f = cell_at c.args.self.now.cells in
    let s = c.from-start.result in
    let k = c.loop-col.col in
    let old = string_bytes c.args.contents.now in
    let was = string_bytes c.loop-col.contents in
    let here : c.at-cell.result.now ≡ f k = c.at-cell.ensures
    ∙ ap (λ (xs : List CellView). cell_at xs k) (c.deref.ensures.value
    ∙ ap (λ (v : RowView). v.cells) c.self.view_is) in
    let has : c.has_contents.result ≡ has_text (f k) = c.has_contents.ensures ∙ ap has_text here in
    elim c.if-has_contents.branch [
      | then-has_contents+in_ok-push_spaces+in_ok-push_str w ↦
          rw (w.contents-is, w.blanks-is, w.shown-is)
          (record {
            written = IsWritten-text f s k c.loop-col.blanks old was c.loop-col.shown c.loop-col.auto.col
                c.loop-col.invariant.written (string_bytes w.push_spaces.new.contents)
                (string_bytes w.push_str.new.self)
                (sym has ∙ w.if-has_contents.true) w.in_ok-push_spaces.ensures.text
                (w.in_ok-push_str.ensures.bytes ∙ ap (λ bs. string_bytes w.push_spaces.new.contents
                ++ bs) (w.contents.ensures.bytes ∙ ap (λ (x : CellView). encode_utf8_all x.text) here));
            capacity = omega (
              arith,
              c.loop-col.invariant.capacity,
              w.in_ok-push_spaces.ensures.capacity,
              w.in_ok-push_str.ensures.capacity,
            );
          })
      | else-has_contents+then-is_empty_column w ↦
          let empty : not ((f k).continuation && not (k == s)) ≡ true =
          ap (λ (x : CellView). not (x.continuation && not (k == s))) (sym here) ∙ sym w.is_empty_column.ensures
          ∙ w.if-is_empty_column.true in
          rw (w.contents-is, w.blanks-is, w.shown-is)
          (record {
            written = IsWritten-none f s k c.loop-col.blanks old was c.loop-col.shown c.loop-col.auto.col
                c.loop-col.invariant.written false (sym has ∙ w.if-has_contents.false) (not-true _ empty);
            capacity = c.loop-col.invariant.capacity;
          })
      | else-has_contents+else-is_empty_column w ↦
          let half : not ((f k).continuation && not (k == s)) ≡ false =
          ap (λ (x : CellView). not (x.continuation && not (k == s))) (sym here) ∙ sym w.is_empty_column.ensures
          ∙ w.if-is_empty_column.false in
          rw (w.contents-is, w.blanks-is, w.shown-is)
          (record {
            written = IsWritten-none f s k c.loop-col.blanks old was c.loop-col.shown c.loop-col.auto.col
                c.loop-col.invariant.written true (sym has ∙ w.if-has_contents.false) (not-false _ half);
            capacity = c.loop-col.invariant.capacity;
          })
    ]

pub returns-in_err-push_spaces-clause-begun : goal.returns-in_err-push_spaces-clause-begun
returns-in_err-push_spaces-clause-begun c =
    let v = c.args.self.now in
    let old = string_bytes c.args.contents.now in
    let was = string_bytes c.loop-col.contents in
    let blanks = c.loop-col.blanks in
    let cells = ap (λ (x : RowView). length x.cells) c.self.view_is in
    let within : c.loop-col.col < min (c.from-start.result + c.args.width) (length v.cells) =
    omega (arith, c.max-end.ensures, c.min.ensures, c.from.ensures, c.len.ensures) in
    let here = c.at-cell.ensures ∙ ap (λ (xs : List CellView). cell_at xs c.loop-col.col) (c.deref.ensures.value
    ∙ ap (λ (x : RowView). x.cells) c.self.view_is) in
    on-err c.from_residual.result
    (IsBegun-text v c.from-start.result c.args.start c.args.width c.loop-col.col blanks c.args.wrapping
    c.loop-col.shown old was (string_bytes c.push_spaces.new.contents) c.at-cell.result.now c.from-start.ensures
    c.loop-col.auto.col within c.loop-col.invariant.written here (sym c.has_contents.ensures ∙ c.if-has_contents.true)
    (begun-more was _ _ _ c.in_err-push_spaces.ensures.begun))

pub returns-in_err-push_spaces-clause-full : goal.returns-in_err-push_spaces-clause-full
returns-in_err-push_spaces-clause-full c =
    let v = c.args.self.now in
    let old = string_bytes c.args.contents.now in
    let was = string_bytes c.loop-col.contents in
    let blanks = c.loop-col.blanks in
    let cells = ap (λ (x : RowView). length x.cells) c.self.view_is in
    let within : c.loop-col.col < min (c.from-start.result + c.args.width) (length v.cells) =
    omega (arith, c.max-end.ensures, c.min.ensures, c.from.ensures, c.len.ensures) in
    let here = c.at-cell.ensures ∙ ap (λ (xs : List CellView). cell_at xs c.loop-col.col) (c.deref.ensures.value
    ∙ ap (λ (x : RowView). x.cells) c.self.view_is) in
    let many = length-replicate {A = ℕ} blanks 32 in
    let full : string_capacity c.loop-col.contents < string_len c.loop-col.contents + length (replicate blanks 32) =
    omega (arith, many, c.in_err-push_spaces.ensures.full) in
    on-err c.from_residual.result (full_within c.args.contents.now c.loop-col.contents (replicate blanks 32) _
    c.loop-col.invariant.capacity full
    (IsBegun-text v c.from-start.result c.args.start c.args.width c.loop-col.col blanks c.args.wrapping
    c.loop-col.shown old was (was ++ replicate blanks 32) c.at-cell.result.now c.from-start.ensures
    c.loop-col.auto.col within c.loop-col.invariant.written here (sym c.has_contents.ensures ∙ c.if-has_contents.true)
    (begun-more was _ _ _ (begun_whole was (replicate blanks 32) _ refl))))

pub returns-in_err-push_str-clause-begun : goal.returns-in_err-push_str-clause-begun
returns-in_err-push_str-clause-begun c =
    let v = c.args.self.now in
    let old = string_bytes c.args.contents.now in
    let was = string_bytes c.loop-col.contents in
    let blanks = c.loop-col.blanks in
    let cells = ap (λ (x : RowView). length x.cells) c.self.view_is in
    let within : c.loop-col.col < min (c.from-start.result + c.args.width) (length v.cells) =
    omega (arith, c.max-end.ensures, c.min.ensures, c.from.ensures, c.len.ensures) in
    let here = c.at-cell.ensures ∙ ap (λ (xs : List CellView). cell_at xs c.loop-col.col) (c.deref.ensures.value
    ∙ ap (λ (x : RowView). x.cells) c.self.view_is) in
    on-err c.from_residual-in_err-push_str.result
    (IsBegun-text v c.from-start.result c.args.start c.args.width c.loop-col.col blanks c.args.wrapping
    c.loop-col.shown old was (string_bytes c.push_str.new.self) c.at-cell.result.now c.from-start.ensures
    c.loop-col.auto.col within c.loop-col.invariant.written here (sym c.has_contents.ensures ∙ c.if-has_contents.true)
    (begun-more was _ _ _ (begun_whole was (replicate blanks 32) _
    (c.in_err-push_str.ensures.bytes ∙ c.in_ok-push_spaces.ensures.text))))

pub returns-in_err-push_str-clause-full : goal.returns-in_err-push_str-clause-full
returns-in_err-push_str-clause-full c =
    let v = c.args.self.now in
    let old = string_bytes c.args.contents.now in
    let was = string_bytes c.loop-col.contents in
    let blanks = c.loop-col.blanks in
    let cells = ap (λ (x : RowView). length x.cells) c.self.view_is in
    let within : c.loop-col.col < min (c.from-start.result + c.args.width) (length v.cells) =
    omega (arith, c.max-end.ensures, c.min.ensures, c.from.ensures, c.len.ensures) in
    let here = c.at-cell.ensures ∙ ap (λ (xs : List CellView). cell_at xs c.loop-col.col) (c.deref.ensures.value
    ∙ ap (λ (x : RowView). x.cells) c.self.view_is) in
    let spaced = c.push_spaces.new.contents in
    let text = encode_utf8_all c.at-cell.result.now.text in
    let room : string_capacity c.args.contents.now ≤ string_capacity spaced =
    omega (arith, c.loop-col.invariant.capacity, c.in_ok-push_spaces.ensures.capacity) in
    let bytes = ap length c.contents.ensures.bytes in
    let full : string_capacity spaced < string_len spaced + length text =
    omega (arith, bytes, c.in_err-push_str.ensures.full) in
    on-err c.from_residual-in_err-push_str.result (full_within c.args.contents.now spaced text _ room full
    (IsBegun-text v c.from-start.result c.args.start c.args.width c.loop-col.col blanks c.args.wrapping
    c.loop-col.shown old was (string_bytes spaced ++ text) c.at-cell.result.now c.from-start.ensures
    c.loop-col.auto.col within c.loop-col.invariant.written here (sym c.has_contents.ensures ∙ c.if-has_contents.true)
    (begun_whole was (replicate blanks 32 ++ text) _ (ap (λ bs. bs ++ text) c.in_ok-push_spaces.ensures.text
    ∙ append_assoc was (replicate blanks 32) text))))
