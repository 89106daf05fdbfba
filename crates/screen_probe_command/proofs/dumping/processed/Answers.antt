use Rattle.std.proofs.Common.{[], sym}
use Rattle.screen_probe_command.proofs.dumping.processed.Goals as goal

pub returns : goal.returns
returns c =
    let d = c.args.dump in
    c.in_ok-process.ensures.made (λ x v k y w h. sym h) d.rows.value d.cols.value d.capacity [] c.in_ok-parser.ensures
