use Rattle.std.proofs.Common.{◌≡◌, arith, false, get_or}
use Rattle.std.proofs.lemmas.Bool.Decides.{nat_tests}
use Rattle.vte_core.specs.Bytes.{is_esc}
use Rattle.vte_core.proofs.Prefixes.{reads_malformed, reads_byte}
use Rattle.vte_core.proofs.text.Unfinished.read_multibyte.Goals as goal

pub returns-in-len2-up-2 : goal.returns-in-len2-up-2
returns-in-len2-up-2 g c =
    let bs = c.args.bytes.now in
    let esc : is_esc (get_or bs 1 0) ≡ false = grind (arith, nat_tests, c.if-second-ne27.true) in
    rw c.requires.none (reads_malformed bs (omega (arith, c.in-len2-up.len_at_least)) c.requires.high esc
    (c.is_begun.ensures.not_begun c.if-is_begun.false) c.report_malformed.ensures)

pub returns-in_default : goal.returns-in_default
returns-in_default g c =
    let esc : is_esc (get_or c.args.bytes.now 0 0) ≡ false = grind (arith, nat_tests, c.requires.high) in
    reads_byte c.args.bytes.now c.requires.some esc c.read_byte.ensures.reported c.read_byte.ensures.rest
