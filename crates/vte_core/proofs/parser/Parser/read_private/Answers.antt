use Rattle.std.proofs.Common.{◌∙◌, ◌+◌, refl, sym, arith}
use Rattle.vte_core.proofs.WholeCsi.{private_step, sequence_read, still_text}
use Rattle.vte_core.proofs.parser.Parser.read_private.Goals as goal

pub returns-clause-reads : goal.returns-clause-reads
returns-clause-reads g c =
    let need = c.requires in
    sequence_read c.args.bytes.now (c.in-Some.len + 4)
    (private_step c.args.bytes.now c.in-Some.len need.begins need.ground
    need.whole (omega arith) (omega arith) (sym c.is_private.ensures ∙ c.if-not-is_private.false) c.in-Some.ensures
    (sym c.is_final.ensures ∙ c.if-not-is_final.false) (still_text _ _ _ need.ground need.ground refl)
    c.dispatch_marked.ensures)
