use Rattle.c_theorem.proofs.CompanionLemmas.{whole-shown}
use Rattle.c_theorem.proofs.laws.whole_frames_from_c_are_shown.Goals as goal

pub returns : goal.returns
returns c =
    whole-shown c.from-fault.result c.runs_from_c_are_logged.ensures c.whole_logged_frames_are_shown.ensures
    c.until_cleared_is_exact.ensures
