use Rattle.std.proofs.Common.{◌<◌, ◌++◌, ◌∙◌, ap, arith, get_or, length}
use Rattle.std.proofs.lemmas.List.{take_more}
use Rattle.recorded_screen.specs.Reel.{used_row}
use Rattle.recorded_screen.proofs.ReelLemmas.{numbered_more}
use Rattle.recorded_screen.proofs.reel.use_rows.Goals as goal

pub loop-place-preserved : goal.loop-place-preserved
loop-place-preserved c =
    let rows = c.args.rows.now.keys in
    let i = c.loop-place.place in
    let cols = c.args.cols in
    let y = c.args.y in
    let lt : c.loop-place.place < length c.args.rows.now.keys =
    (let below = c.loop-place-test.true in let len = c.len-place-end.ensures.len in omega arith) in
    numbered_more (used_row cols y) _ _ _ rows i (get_or rows i 0) lt (take_more rows i 0 lt) c.loop-place.invariant
    (c.in_ok-use_row.ensures ∙ ap (λ n. c.loop-place.page ++ used_row cols y i n) c.number_at.ensures)
