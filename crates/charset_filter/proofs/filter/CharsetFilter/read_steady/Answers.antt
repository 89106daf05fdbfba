use Rattle.std.proofs.Common.{refl}
use Rattle.charset_filter.proofs.Telling.{steady-run}
use Rattle.charset_filter.proofs.filter.CharsetFilter.read_steady.Goals as goal

pub returns-clause-given : goal.returns-clause-given
returns-clause-given c = steady-run _ _ c.args.bytes.now _ c.args.len _ _ c.requires.within c.requires.steady
    c.requires.outside c.requires.run refl c.advance.ensures.state_after c.advance.ensures.reported
    c.in_ok-extend_from_slice.ensures.items
