use Rattle.std.proofs.Common.{refl}
use Rattle.charset_filter.proofs.Telling.{byte-behind, byte-drawn, byte-read}
use Rattle.charset_filter.proofs.filter.CharsetFilter.listen.Goals as goal

pub returns-clause-reads : goal.returns-clause-reads
returns-clause-reads c =
    byte-read _ _ c.args.byte _ _ c.forget.ensures.sets refl c.advance.ensures.state_after c.advance.ensures.reported
    c.may_be_in_sequence-self.ensures

pub returns-clause-drawn : goal.returns-clause-drawn
returns-clause-drawn c = byte-drawn c.args.self.now c.args.byte _ _ c.forget.ensures.sets c.forget.ensures.drawn
    c.advance.ensures.reported

pub returns-clause-behind : goal.returns-clause-behind
returns-clause-behind c = byte-behind c.args.self.now c.args.byte _ _ c.forget.ensures.sets c.forget.ensures.behind
    c.advance.ensures.reported
