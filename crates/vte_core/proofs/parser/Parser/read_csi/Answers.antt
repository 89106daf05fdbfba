use Rattle.std.proofs.Common.{◌∙◌, ◌+◌, refl, sym, arith}
use Rattle.vte_core.proofs.WholeCsi.{marked_csi_step, csi_step, sequence_read, still_text, whole_from}
use Rattle.vte_core.proofs.parser.Parser.read_csi.Goals as goal

pub returns-then-is_final-clause-reads : goal.returns-then-is_final-clause-reads
returns-then-is_final-clause-reads g c =
    let need = c.requires in
    let k = c.in-Some.numbers in
    sequence_read c.args.bytes.now (2 + k + 1) (csi_step c.args.bytes.now k need.begins need.ground
    need.whole (omega arith) (omega arith) c.in-Some.ensures (sym c.is_final.ensures ∙ c.if-is_final.true)
    (still_text _ _ _ need.ground need.ground refl) c.csi_dispatch.ensures)

pub returns-then-is_final-2-clause-reads : goal.returns-then-is_final-2-clause-reads
returns-then-is_final-2-clause-reads g c =
    let need = c.requires in
    let k = c.in-Some.numbers in
    sequence_read c.args.bytes.now (2 + k + 2) (marked_csi_step c.args.bytes.now k need.begins
    need.ground need.whole (omega arith) (omega arith) c.in-Some.ensures
    (sym c.is_intermediate.ensures ∙ c.if-is_intermediate.true) c.if-len-bytes.true
    (sym c.is_final-then-len-bytes.ensures ∙ c.if-is_final-2.true) (still_text _ _ _ need.ground need.ground refl)
    c.dispatch_marked.ensures)

pub returns-clause-reads : goal.returns-clause-reads
returns-clause-reads g c =
    whole_from c.args.bytes.now c.read_private.result (still_text _ _ _ c.requires.ground c.requires.ground refl)
    c.read_private.ensures.reads
