use Rattle.std.proofs.Common.{◌∙◌, arith, sym}
use Rattle.vte_core.proofs.AskedLemmas.{never-asked, on_other, on_run, on_step, on_text}
use Rattle.vte_core.proofs.parser.Parser.read_turn.Goals as goal
use Rattle.vte_core.proofs.parser.Parser.read_turn.Goals.{else-this-ne0-via-then-this-ne0+then-text-gt0+else-terminated}
use Rattle.vte_core.proofs.parser.Parser.read_turn.Goals.{else-this-ne0-via-then-this-ne0+else-text-gt0}
use Rattle.vte_core.proofs.parser.Parser.read_turn.Goals.{else-this-ne0-via-else-this-ne0}

pub returns-then-terminated : goal.returns-then-terminated
returns-then-terminated g c =
    let inline = c.read_inline_text-text.ensures in
    on_run c.args.bytes.now c.read_inline_text-text.result c.if-text-gt0.true inline.reads inline.is_step

pub returns-then-bytes-ne27 : goal.returns-then-bytes-ne27
returns-then-bytes-ne27 g c =
    let inline = c.read_inline_text-text.ensures in
    on_other c.args.bytes.now c.read_through.result c.requires.ground (rw c.if-text-eq0.true at inline.reads)
    c.read_through.ensures

pub returns : goal.returns
returns g c =
    let inline = c.read_inline_text-text.ensures in
    on_text c.args.bytes.now c.read_inline_text-text.result c.read_sequence.result c.requires.ground inline.reads
    inline.is_step
    (λ asks some. elim c.else-this-ne0.branch [
      | else-this-ne0-via-then-this-ne0+then-text-gt0+else-terminated w ↦ sym w.terminated.ensures
          ∙ w.if-terminated.false
      | else-this-ne0-via-then-this-ne0+else-text-gt0 w ↦ absurd (omega (arith, some, w.if-text-gt0.false))
      | else-this-ne0-via-else-this-ne0 w ↦ absurd (never-asked _ w.if-this-ne0.false asks)
    ])
    (on_step _ c.read_sequence.result c.read_sequence.ensures)
