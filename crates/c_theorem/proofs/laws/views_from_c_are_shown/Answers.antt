use Rattle.c_theorem.proofs.ShownLemmas.{views-shown}
use Rattle.c_theorem.proofs.laws.views_from_c_are_shown.Goals as goal

pub returns : goal.returns
returns c =
    views-shown c.from-fault.result c.runs_from_c_are_logged.ensures c.logged_frames_are_shown.ensures
    c.until_cleared_is_exact.ensures
