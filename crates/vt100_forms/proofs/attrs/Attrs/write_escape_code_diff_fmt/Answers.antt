use Rattle.std.proofs.Common.{◌≡◌, ◌++◌, List, ℕ, ap, subst, sym, ◌∙◌}
use Rattle.vt100_forms.specs.Form.{bytes_of, change}
use Rattle.vt100_forms.specs.Writer.{HandsOver}
use Rattle.vt100_forms.proofs.ChangeLemmas.{handed_over, on_ok}
use Rattle.vt100_forms.proofs.attrs.Attrs.write_escape_code_diff_fmt.Goals as goal

pub returns-clause-written : goal.returns-clause-written
returns-clause-written g c =
    let text : c.as_str-text.result.now ≡ bytes_of (change c.args.other.now c.args.self.now) =
    c.as_str-text.ensures ∙ c.push_escape_code_diff.ensures.bytes
    ∙ ap (λ (xs : List ℕ). xs ++ bytes_of (change c.args.other.now c.args.self.now)) c.new-run.ensures in
    on_ok c.write_str.result
    (λ ok. subst (λ bs. HandsOver g.W.Write.write_str_gives c.args.writer.now bs c.write_str.new.self) text
    (handed_over g.W.Write.write_str_gives c.args.writer.now c.as_str-text.result.now c.write_str.new.self
    (sym c.is_empty.ensures ∙ c.if-is_empty.false) (c.write_str.ensures.ok ok)))
