use Rattle.std.proofs.Common.{◌∙◌, ap, ℕ, List, ◌++◌}
use Rattle.charset_filter.proofs.Telling.{byte-gives}
use Rattle.charset_filter.proofs.filter.CharsetFilter.read_byte.Goals as goal

pub returns-clause-given : goal.returns-clause-given
returns-clause-given c = byte-gives _ _ c.args.bytes.now _ _ _ _ _ _ c.requires c.listen.ensures.reads
    c.listen.ensures.drawn c.listen.ensures.behind c.in_ok-reserve.ensures.items c.push_given.ensures.items
    (c.push_bytes.ensures.items ∙ ap (λ (bs : List ℕ). c.push_given.new.output.items ++ bs) c.as_slice.ensures.value)
