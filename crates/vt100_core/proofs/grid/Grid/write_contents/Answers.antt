use Rattle.std.proofs.Common.{arith, ◌+◌, ◌<◌, ◌++◌, length, ap, ◌∙◌, sym, subst, append_assoc, replicate}
use Rattle.std.specs.Prelude.{string_bytes, string_len, string_capacity, encode_utf8_all}
use Rattle.std.proofs.lemmas.List.{length_push}
use Rattle.vt100_rows.specs.Text.{row_text, written_text}
use Rattle.row_drawing.specs.Writes.{IsBegun}
use Rattle.vt100_rows.proofs.TextLemmas.{on-err}
use Rattle.vt100_core.specs.Grid.{GridView}
use Rattle.vt100_core.specs.Contents.{newlines_cut}
use Rattle.vt100_core.proofs.NewlineLemmas.{cut-newlines, one-owed}
use Rattle.vt100_core.proofs.ContentsLemmas.{IsShown-next, IsShown-end, IsBegun-owed, full-owed, no-newline}
use Rattle.vt100_core.proofs.grid.Grid.write_contents.Goals as goal

pub returns-in_err-newlines-clause-begun : goal.returns-in_err-newlines-clause-begun
returns-in_err-newlines-clause-begun c =
    let owed = c.loop-row.newlines in
    let width = c.cols.ensures ∙ ap (λ (x : GridView). x.width) c.self.view_is in
    on-err c.from_residual.result (IsBegun-owed owed _ c.loop-row.invariant.shown c.in-Some.ensures.steps
    c.loop-row.invariant.grown (subst (λ n. IsBegun (string_bytes c.loop-row.contents) (replicate owed 10
    ++ encode_utf8_all (written_text c.in-Some.row.now 0 n c.loop-row.wrapping))
    (string_bytes c.write_row.new.contents)) width c.in_err-newlines.ensures.begun))

pub returns-in_err-newlines-clause-full : goal.returns-in_err-newlines-clause-full
returns-in_err-newlines-clause-full c =
    let v = c.in-Some.row.now in
    let now = c.loop-row.contents in
    let owed = c.loop-row.newlines in
    let width = c.cols.ensures ∙ ap (λ (x : GridView). x.width) c.self.view_is in
    on-err c.from_residual.result (full-owed c.args.contents.now now owed c.loop-row.invariant.shown
    c.in-Some.ensures.steps (rw (← c.self.view_is) c.self.invariant)
    (subst (λ n. 0 < length (row_text v 0 n)) width c.in_err-newlines.ensures.shows) c.loop-row.invariant.capacity
    (subst (λ n. string_capacity now < string_len now + owed + length (encode_utf8_all (row_text v 0 n))) width
    c.in_err-newlines.ensures.full))

pub loop-row-preserved-then-not-wrapping : goal.loop-row-preserved-then-not-wrapping
loop-row-preserved-then-not-wrapping c =
    let v = c.in-Some.row.now in
    let owed = c.loop-row.newlines in
    let now = string_bytes c.write_row.new.contents in
    let was = string_bytes c.loop-row.contents ++ replicate owed 10 in
    let width = c.cols.ensures ∙ ap (λ (x : GridView). x.width) c.self.view_is in
    let more = c.in_ok-newlines.ensures.begun in
    let done = c.loop-row.invariant.grown in
    record {
      shown = IsShown-next (length_push c.loop-row.yielded c.in-Some.row) c.loop-row.invariant.shown
          c.in-Some.ensures.steps (c.in_ok-newlines.ensures.text ∙ ap (λ n. was
          ++ encode_utf8_all (written_text v 0 n c.loop-row.wrapping)) width) c.wrapped-wrapping.ensures
          (one-owed v.wrapped now c.in_ok-newlines.newlines _ (sym c.wrapped-wrapping.ensures ∙ c.if-not-wrapping.true)
          (omega arith));
      grown = (
        done.0 ++ more.0,
        more.3 ∙ ap (λ bs. bs ++ more.0) done.1
            ∙ append_assoc (string_bytes c.args.contents.now) done.0 more.0,
      );
      few = omega (
        arith,
        c.loop-row.invariant.few,
        c.in_ok-newlines.ensures.owed,
        length_push c.loop-row.yielded c.in-Some.row,
      );
      capacity = omega (arith, c.loop-row.invariant.capacity, c.in_ok-newlines.ensures.capacity);
    }

pub loop-row-preserved : goal.loop-row-preserved
loop-row-preserved c =
    let v = c.in-Some.row.now in
    let owed = c.loop-row.newlines in
    let now = string_bytes c.write_row.new.contents in
    let was = string_bytes c.loop-row.contents ++ replicate owed 10 in
    let width = c.cols.ensures ∙ ap (λ (x : GridView). x.width) c.self.view_is in
    let more = c.in_ok-newlines.ensures.begun in
    let done = c.loop-row.invariant.grown in
    record {
      shown = IsShown-next (length_push c.loop-row.yielded c.in-Some.row) c.loop-row.invariant.shown
          c.in-Some.ensures.steps (c.in_ok-newlines.ensures.text ∙ ap (λ n. was
          ++ encode_utf8_all (written_text v 0 n c.loop-row.wrapping)) width) c.wrapped-wrapping.ensures
          (no-newline v.wrapped (now ++ replicate c.in_ok-newlines.newlines 10) (sym c.wrapped-wrapping.ensures
          ∙ c.if-not-wrapping.false));
      grown = (
        done.0 ++ more.0,
        more.3 ∙ ap (λ bs. bs ++ more.0) done.1
            ∙ append_assoc (string_bytes c.args.contents.now) done.0 more.0,
      );
      few = omega (
        arith,
        c.loop-row.invariant.few,
        c.in_ok-newlines.ensures.owed,
        length_push c.loop-row.yielded c.in-Some.row,
      );
      capacity = omega (arith, c.loop-row.invariant.capacity, c.in_ok-newlines.ensures.capacity);
    }

pub returns-clause-text : goal.returns-clause-text
returns-clause-text c =
    c.trim_newlines.ensures ∙ sym (cut-newlines (string_bytes c.loop-row.contents) c.loop-row.newlines)
    ∙ ap newlines_cut (IsShown-end c.args.self.now (length c.loop-row.yielded) c.loop-row.row-iterator
    c.loop-row.wrapping _ _ c.in-None.ensures.steps.0 c.loop-row.invariant.shown)
