use Rattle.std.proofs.Common.{◌+◌, arith, refl, subst, sym, length, ◌<◌}
use Rattle.player_page.proofs.LineLemmas.{ChangesSoFar, all_changes, no_change, no_changes, one_change}
use Rattle.player_page.proofs.strip.push_changed.Goals as goal
use Rattle.player_page.proofs.strip.push_changed.Goals.{else-old-row, then-old-row+in_ok-numbers}

pub loop-row-init : goal.loop-row-init
loop-row-init c = no_changes _ _ _ _ c.in_ok-markup.ensures.bytes c.in_ok-markup.ensures.adds

pub loop-row-preserved : goal.loop-row-preserved
loop-row-preserved c =
    let old = c.args.old.now in
    let new = c.args.new.now in
    let i = c.loop-row.row in
    let lt : c.loop-row.row < length c.args.old.now = (let count = c.requires.count in let test = c.loop-row-test.true in omega arith) in
    elim c.if-old-row.branch [
      | then-old-row+in_ok-numbers w ↦
          subst (ChangesSoFar old new (i + 1) c.args.page.now) (sym w.page-is)
          (one_change old new c.args.page.now c.loop-row.page w.numbers.new.self i _ lt refl c.loop-row.invariant
          w.in_ok-numbers.ensures.bytes w.in_ok-numbers.ensures.adds)
      | else-old-row w ↦
          subst (ChangesSoFar old new (i + 1) c.args.page.now) (sym w.page-is)
          (no_change old new c.args.page.now c.loop-row.page i w.if-old-row.false c.loop-row.invariant)
    ]

pub returns : goal.returns
returns c = all_changes _ _ _ _ c.loop-row.row c.requires.count c.loop-row-test.false c.loop-row.invariant
