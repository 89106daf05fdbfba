use Rattle.std.proofs.Common.{arith, ◌-◌}
use Rattle.vt100_core.specs.KeptFields.{kept_of}
use Rattle.vt100_core.proofs.KeepLemmas.{shows}
use Rattle.vt100_core.proofs.scrollback.ScrollbackState.show.Goals as goal

pub returns-clause-kept : goal.returns-clause-kept
returns-clause-kept c =
    shows (kept_of c.args.self.now) c.widen.new.rows.items c.args.offset c.args.height c.args.width
    (c.len.result - c.args.offset) c.min-end.result c.requires.some
    (omega (arith, c.len.ensures, c.args.self.now.rows.ok)) (omega (arith, c.len.ensures, c.args.self.now.rows.ok))
    c.in_ok-widen.ensures.rows
