use Rattle.std.proofs.Common.{◌≡◌, ◌∙◌, sym}
use Rattle.vt100.proofs.DeferringLemmas.{frequent_handled}
use Rattle.vt100.proofs.screen.deferring.are_frequent.Goals as goal

pub returns-in-Some : goal.returns-in-Some
returns-in-Some c h =
    rw c.in-Some.ensures.alone (frequent_handled c.in-Some.numbers.now (sym c.are_all_frequent.ensures ∙ h))
