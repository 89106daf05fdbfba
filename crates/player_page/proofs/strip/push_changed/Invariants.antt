use Rattle.player_page.proofs.LineLemmas.{ChangesSoFar}
use Rattle.player_page.proofs.strip.push_changed.Given as goal

-- the changes so far
abbrev pub invariant-loop-row : goal.invariant-loop-row
invariant-loop-row l = ChangesSoFar l.fn.old l.new l.row l.fn.page l.page
