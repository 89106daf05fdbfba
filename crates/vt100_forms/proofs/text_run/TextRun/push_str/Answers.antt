use Rattle.std.proofs.Common.{◌≡◌, ◌++◌, length, take, ap, ◌∙◌, arith, sym, subst}
use Rattle.std.specs.Prelude.{IsUtf8}
use Rattle.std.proofs.Math.Seq.{take-length}
use Rattle.vt100_forms.proofs.TextRunLemmas.{IsRun-push}
use Rattle.vt100_forms.proofs.text_run.TextRun.push_str.Goals as goal

pub invariant_of-self : goal.invariant_of-self
invariant_of-self c =
    let text = c.args.text.now in
    let same : c.copy_from_slice.new.self ≡ text = c.copy_from_slice.ensures.after ∙ c.as_bytes.ensures.value in
    let count = ap length same in
    let whole : take (length text) c.copy_from_slice.new.self ≡ text = ap (take (length text)) same
    ∙ take-length text in
    IsRun-push c.self.inside c.args.self.now _ (length text) c.copy_from_slice.new.self c.self.invariant c.self.view_is
    (omega (arith, c.requires)) (omega (arith, count)) (omega arith) (subst IsUtf8 (sym whole) c.utf8.text)
