use Rattle.std.proofs.Common.{◌≡◌, ◌+◌, ◌==◌, true, false}
use Rattle.std.proofs.Common.{length, sym, ap, ◌∙◌, arith, length-append, [], ◌∷◌}
use Rattle.std.proofs.Common.{◌++◌}
use Rattle.std.specs.Prelude.{encode_utf8, unwrap_or}
use Rattle.std.specs.Str.Iter.{char_indices_offset, char_indices_rest}
use Rattle.std.proofs.lemmas.Bool.{ne_eqb}
use Rattle.vt100_cells.specs.Cell.{columns_of}
use Rattle.vt100_capture.specs.Rows.{rows_from}
use Rattle.vt100_capture.proofs.RowsLemmas.{IsWalked-start, IsWalked-next, walked-cut, walked-newline, walked-whole}
use Rattle.vt100_capture.proofs.RowsLemmas.{step-inside, step-escape, step-plain, columns-or-one, passes-width, Joins}
use Rattle.vt100_capture.proofs.RowsLemmas.{joins-none, joins-first, joins-room}
use Rattle.vt100_capture.proofs.rows.row_end.Goals as goal
use Rattle.vt100_capture.proofs.rows.row_end.Goals.{else-columns-gt0-via-then-columns-gt0+else-taken-gt0}
use Rattle.vt100_capture.proofs.rows.row_end.Goals.{else-columns-gt0-via-then-columns-gt0+then-taken-gt0+else-taken-columns}
use Rattle.vt100_capture.proofs.rows.row_end.Goals.{else-columns-gt0-via-else-columns-gt0}

pub loop-i-init : goal.loop-i-init
loop-i-init c =
    let it = c.into_iter-i-iterator.result in
    let bs = c.args.capture.now in
    let same = c.into_iter-i-iterator.ensures.into_iter_gives in
    let rest : char_indices_rest it ≡ bs = ap char_indices_rest same ∙ c.char_indices-i-items.ensures.rest in
    let at : char_indices_offset it ≡ 0 = ap char_indices_offset same ∙ c.char_indices-i-items.ensures.offset in
    let size = ap length rest in (
      omega (arith, at, size),
      (tt, IsWalked-start c.args.width (char_indices_offset it) bs (char_indices_rest it) c.utf8.capture rest at),
    )

pub loop-i-preserved-then-inside : goal.loop-i-preserved-then-inside
loop-i-preserved-then-inside c =
    let n = c.args.width in
    let it = c.loop-i.i-iterator in
    let to = c.next.new.self in
    let ch = c.in-Some.c in
    let h = c.loop-i.invariant.1.1 in
    let cut = c.in-Some.ensures.steps.1 in
    let moved = c.in-Some.ensures.steps.2 in
    let can = c.loop-i.invariant.0 in
    let size = ap length cut ∙ length-append (encode_utf8 ch) (char_indices_rest to) in (
      omega (arith, can, moved, size),
      (
        tt,
        IsWalked-next n c.args.capture.now c.loop-i.inside c.loop-i.taken (char_indices_offset it)
            (char_indices_rest it) h ch (char_indices_rest to) cut _ c.loop-i.taken (char_indices_offset to) moved
            (λ row cs. ap (λ b. rows_from n b c.loop-i.taken row (ch ∷ cs)) c.if-inside.true
            ∙ step-inside n c.loop-i.taken ch row cs) h.few,
      ),
    )

pub loop-i-preserved-then-c-eq27 : goal.loop-i-preserved-then-c-eq27
loop-i-preserved-then-c-eq27 c =
    let n = c.args.width in
    let it = c.loop-i.i-iterator in
    let to = c.next.new.self in
    let ch = c.in-Some.c in
    let h = c.loop-i.invariant.1.1 in
    let cut = c.in-Some.ensures.steps.1 in
    let moved = c.in-Some.ensures.steps.2 in
    let can = c.loop-i.invariant.0 in
    let size = ap length cut ∙ length-append (encode_utf8 ch) (char_indices_rest to) in (
      omega (arith, can, moved, size),
      (
        tt,
        IsWalked-next n c.args.capture.now c.loop-i.inside c.loop-i.taken (char_indices_offset it)
            (char_indices_rest it) h ch (char_indices_rest to) cut true c.loop-i.taken (char_indices_offset to) moved
            (λ row cs. ap (λ b. rows_from n b c.loop-i.taken row (ch ∷ cs)) c.if-inside.false
            ∙ step-escape n c.loop-i.taken ch row cs (ap (λ x. x == 27) c.if-c-eq27.true)) h.few,
      ),
    )

pub returns-then-c-eq10-clause-rows : goal.returns-then-c-eq10-clause-rows
returns-then-c-eq10-clause-rows c =
    let it = c.loop-i.i-iterator in
    let parts = walked-newline c.args.width c.args.capture.now c.loop-i.inside c.loop-i.taken (char_indices_offset it)
    (char_indices_rest it) c.loop-i.invariant.1.1 c.in-Some.c (char_indices_rest c.next.new.self)
    c.in-Some.ensures.steps.1 c.if-inside.false c.if-c-eq10.true in
    rw c.in-Some.ensures.steps.0 parts.0

pub returns-then-c-eq10-clause-cut : goal.returns-then-c-eq10-clause-cut
returns-then-c-eq10-clause-cut c =
    let it = c.loop-i.i-iterator in
    let parts = walked-newline c.args.width c.args.capture.now c.loop-i.inside c.loop-i.taken (char_indices_offset it)
    (char_indices_rest it) c.loop-i.invariant.1.1 c.in-Some.c (char_indices_rest c.next.new.self)
    c.in-Some.ensures.steps.1 c.if-inside.false c.if-c-eq10.true in
    rw c.in-Some.ensures.steps.0 parts.1

pub returns-then-taken-columns-clause-rows : goal.returns-then-taken-columns-clause-rows
returns-then-taken-columns-clause-rows c =
    let n = c.args.width in
    let it = c.loop-i.i-iterator in
    let ch = c.in-Some.c in
    let k = c.from-columns.result in
    let columns : k ≡ columns_of ch = c.from-columns.ensures ∙ c.unwrap_or.ensures
    ∙ ap (λ o. unwrap_or o 1) c.columns.ensures ∙ columns-or-one ch in
    let wide = c.if-taken-columns.true in
    let same = c.from.ensures in
    let parts = walked-cut n c.args.capture.now c.loop-i.inside c.loop-i.taken (char_indices_offset it)
    (char_indices_rest it) c.loop-i.invariant.1.1 ch (char_indices_rest c.next.new.self) c.in-Some.ensures.steps.1
    c.if-inside.false (ne_eqb ch 27 c.if-c-eq27.false) (ne_eqb ch 10 c.if-c-eq10.false)
    (passes-width n c.loop-i.taken k ch columns c.if-columns-gt0.true c.if-taken-gt0.true
    (omega (arith, wide, same))) in
    rw c.in-Some.ensures.steps.0 parts.0

pub loop-i-preserved : goal.loop-i-preserved
loop-i-preserved c =
    let n = c.args.width in
    let it = c.loop-i.i-iterator in
    let to = c.next.new.self in
    let ch = c.in-Some.c in
    let taken = c.loop-i.taken in
    let k = c.from-columns.result in
    let columns : k ≡ columns_of ch = c.from-columns.ensures ∙ c.unwrap_or.ensures
    ∙ ap (λ o. unwrap_or o 1) c.columns.ensures ∙ columns-or-one ch in
    let h = c.loop-i.invariant.1.1 in
    let cut = c.in-Some.ensures.steps.1 in
    let moved = c.in-Some.ensures.steps.2 in
    let can = c.loop-i.invariant.0 in
    let size = ap length cut ∙ length-append (encode_utf8 ch) (char_indices_rest to) in
    let joins : Joins n taken k ch =
    elim c.else-columns-gt0.branch [
      | else-columns-gt0-via-then-columns-gt0+then-taken-gt0+else-taken-columns w ↦
          joins-room n taken k ch columns h.few (omega (arith, w.if-taken-columns.false, w.from.ensures))
      | else-columns-gt0-via-then-columns-gt0+else-taken-gt0 w ↦
          joins-first n taken k ch columns h.few w.if-taken-gt0.false
      | else-columns-gt0-via-else-columns-gt0 w ↦ joins-none n taken k ch columns h.few w.if-columns-gt0.false
    ] in (
      omega (arith, can, moved, size),
      (
        tt,
        IsWalked-next n c.args.capture.now c.loop-i.inside taken (char_indices_offset it) (char_indices_rest it) h ch
            (char_indices_rest to) cut c.loop-i.inside (taken + k) (char_indices_offset to) moved
            (λ row cs. ap (λ b. rows_from n b taken row (ch ∷ cs)) c.if-inside.false
            ∙ step-plain n taken ch row cs (ne_eqb ch 27 c.if-c-eq27.false) (ne_eqb ch 10 c.if-c-eq10.false) joins.0
            ∙ ap (λ j. rows_from n false (taken + j) (row ++ ch ∷ []) cs) (sym columns)
            ∙ ap (λ b. rows_from n b (taken + k) (row ++ ch ∷ []) cs) (sym c.if-inside.false)) joins.1,
      ),
    )

pub returns-clause-rows : goal.returns-clause-rows
returns-clause-rows c =
    let it = c.loop-i.i-iterator in
    walked-whole c.args.width c.args.capture.now c.loop-i.inside c.loop-i.taken (char_indices_offset it)
    (char_indices_rest it) c.in-None.ensures.steps.0 c.loop-i.invariant.1.1
