use Rattle.c_theorem.proofs.CompanionLemmas.{isolated}
use Rattle.c_theorem.proofs.laws.sessions_from_c_are_isolated.Goals as goal

pub returns : goal.returns
returns c =
    isolated c.from-fault.result c.runs_from_c_are_logged.ensures c.whole_logged_frames_are_shown.ensures
    c.sessions_are_isolated.ensures.logged
