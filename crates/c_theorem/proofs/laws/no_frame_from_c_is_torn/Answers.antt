use Rattle.c_theorem.proofs.CompanionLemmas.{none-torn}
use Rattle.c_theorem.proofs.laws.no_frame_from_c_is_torn.Goals as goal

pub returns : goal.returns
returns c =
    none-torn c.from-fault.result c.runs_from_c_are_logged.ensures c.whole_logged_frames_are_shown.ensures
    c.no_frame_is_torn.ensures c.until_cleared_is_exact.ensures
