use Rattle.row_pictures.proofs.FrameLemmas.{bar_added}
use Rattle.row_pictures.proofs.frame.push_window_bar.Goals as goal

pub returns-in-Some-clause-bytes : goal.returns-in-Some-clause-bytes
returns-in-Some-clause-bytes c =
    bar_added _ _ _ c.args.frame.now c.args.theme _ c.args.cols _ c.in-Some.title c.in-Some.is c.as_str.ensures.value
    c.width-width.ensures c.push_bar.ensures.bytes
