use Rattle.std.proofs.Common.{arith}
use Rattle.vte_core.proofs.InlineText.{esc_after, inline-no_esc, inline_reads, inline_step}
use Rattle.vte_core.proofs.parser.Parser.read_inline_text.Goals as goal

pub returns-clause-reads : goal.returns-clause-reads
returns-clause-reads g c =
    let bs = c.args.bytes.now in
    let k = c.read_inline.result in
    let inline = c.read_inline.ensures in
    inline_reads bs k c.requires.ground c.requires.whole (omega (arith, inline.within)) (inline-no_esc bs k inline.len)
    inline.rest c.requires.ground inline.whole inline.reported

pub returns-clause-is_step : goal.returns-clause-is_step
returns-clause-is_step g c = λ more q at.
    let some = c.requires.room in
    inline_step g.row.N c.args.self.now c.args.bytes.now c.read_inline.result q c.requires.ground
    (omega (arith, some)) more
    (c.read_inline.ensures.len more) at

pub returns-clause-ended : goal.returns-clause-ended
returns-clause-ended g c = λ more.
    let bs = c.args.bytes.now in
    let inline = c.read_inline.ensures in
    esc_after bs c.read_inline.result inline.within (inline.len more)
