use Rattle.std.proofs.Common.{true, false, sym, ◌∙◌, append-nil}
use Rattle.std.specs.Prelude.{encode_utf8}
use Rattle.vt100_rows.proofs.BasicLemmas.{on-ok, from-ok, writes-default, writes-own, basic_cell-some}
use Rattle.vt100_rows.proofs.attributed_text.write_cell.Goals as goal

pub returns-then-is_default-clause-text : goal.returns-then-is_default-clause-text
returns-then-is_default-clause-text g c =
    on-ok c.write_char.result
    (writes-default g.W.Write.write_str_gives c.args.writer.now c.args.current_attrs.now c.args.cell.now
    (sym c.is_wide_continuation.ensures ∙ c.if-is_wide_continuation.false) c.write_char.new.self
    (sym c.is_default.ensures ∙ c.if-is_default.true))
    c.write_char.ensures.writes

pub returns-then-has_contents-clause-text : goal.returns-then-has_contents-clause-text
returns-then-has_contents-clause-text g c =
    from-ok c.write_str.result
    (λ ok. writes-own g.W.Write.write_str_gives c.args.writer.now c.args.current_attrs.now c.args.cell.now
    (sym c.is_wide_continuation.ensures ∙ c.if-is_wide_continuation.false) true c.attrs-attrs.result
    c.write_escape_code_diff_fmt.new.writer c.write_str.new.self c.contents.result.now
    (sym c.is_default.ensures ∙ c.if-is_default.false) (sym c.has_contents.ensures ∙ c.if-has_contents.true)
    c.attrs-attrs.ensures c.in_ok-write_escape_code_diff_fmt.ensures.written c.contents.ensures.bytes
    (c.write_str.ensures.ok ok))

pub returns-else-has_contents-clause-text : goal.returns-else-has_contents-clause-text
returns-else-has_contents-clause-text g c =
    on-ok c.write_char-else-has_contents.result
    (writes-own g.W.Write.write_str_gives c.args.writer.now c.args.current_attrs.now c.args.cell.now
    (sym c.is_wide_continuation.ensures ∙ c.if-is_wide_continuation.false) false c.attrs-attrs.result
    c.write_escape_code_diff_fmt.new.writer c.write_char-else-has_contents.new.self (encode_utf8 32)
    (sym c.is_default.ensures ∙ c.if-is_default.false) (sym c.has_contents.ensures ∙ c.if-has_contents.false)
    c.attrs-attrs.ensures c.in_ok-write_escape_code_diff_fmt.ensures.written (sym (append-nil (encode_utf8 32))))
    c.write_char-else-has_contents.ensures.writes

pub returns-then-has_contents-clause-empty : goal.returns-then-has_contents-clause-empty
returns-then-has_contents-clause-empty g c e = absurd (basic_cell-some c.args.current_attrs.now c.args.cell.now
    (sym c.is_wide_continuation.ensures ∙ c.if-is_wide_continuation.false) e)
