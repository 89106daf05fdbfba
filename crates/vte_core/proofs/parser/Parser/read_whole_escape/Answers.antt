use Rattle.std.proofs.Common.{◌∙◌, sym, arith}
use Rattle.vte_core.proofs.MarkedSequence.{marked_step, unmarked_step}
use Rattle.vte_core.proofs.WholeCsi.{sequence_read}
use Rattle.vte_core.proofs.parser.Parser.read_whole_escape.Goals as goal

pub returns-then-not-opens_sequence : goal.returns-then-not-opens_sequence
returns-then-not-opens_sequence g c =
    let need = c.requires in
    sequence_read c.args.bytes.now 2 (unmarked_step c.args.bytes.now need.begins need.ground need.whole (omega arith)
    (sym c.if-is_escape_final.ensures) (sym c.if-not-opens_sequence.ensures) c.esc_dispatch.ensures)

pub returns-then-is_escape_final-2 : goal.returns-then-is_escape_final-2
returns-then-is_escape_final-2 g c =
    let need = c.requires in
    sequence_read c.args.bytes.now 3 (marked_step c.args.bytes.now need.begins need.ground need.whole (omega arith)
    (sym c.is_intermediate.ensures ∙ c.if-is_intermediate.true)
    (sym c.is_escape_final-then-bytes-gt2.ensures ∙ c.if-is_escape_final-2.true)
    c.esc_dispatch-then-is_escape_final-2.ensures)
