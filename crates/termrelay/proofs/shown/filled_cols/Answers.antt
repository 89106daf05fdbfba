use Rattle.std.proofs.Common.{arith}
use Rattle.termrelay.proofs.RowLemmas.{filled-shown}
use Rattle.termrelay.proofs.shown.filled_cols.Goals as goal

pub returns : goal.returns
returns c k le =
    filled-shown c.args.screen.now.state c.args.row c.row_filled.result c.requires.state c.requires.inside
    c.row_filled.ensures k (omega (arith, le))
