use Rattle.row_pictures.proofs.FrameLemmas.{edge_added}
use Rattle.row_pictures.proofs.frame.push_window_edge.Goals as goal

pub returns-in-Some-clause-bytes : goal.returns-in-Some-clause-bytes
returns-in-Some-clause-bytes c =
    edge_added _ _ _ c.args.frame.now c.args.theme _ _ c.args.rows c.args.cols _ c.in-Some.is c.width-width.ensures
    c.height-height.ensures c.push_edge.ensures.bytes
