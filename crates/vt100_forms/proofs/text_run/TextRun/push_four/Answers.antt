use Rattle.std.proofs.Common.{◌++◌, length, take, ap, ◌∙◌, arith, sym, subst}
use Rattle.std.specs.Prelude.{IsUtf8}
use Rattle.vt100_forms.proofs.TextRunLemmas.{IsRun-push, bytes_of-push}
use Rattle.vt100_forms.proofs.text_run.TextRun.push_four.Goals as goal

pub invariant_of-self : goal.invariant_of-self
invariant_of-self c =
    let e = ap length c.copy_from_slice.ensures.after ∙ c.requires.four in
    IsRun-push c.self.inside c.args.self.now _ c.args.len c.copy_from_slice.new.self c.self.invariant c.self.view_is
    (omega (arith, c.requires.room)) (omega (arith, e)) (omega (arith, c.requires.few))
    (subst (λ ys. IsUtf8 (take c.args.len ys)) (sym c.copy_from_slice.ensures.after) c.requires.utf8)

pub returns : goal.returns
returns c =
    let e = ap length c.copy_from_slice.ensures.after ∙ c.requires.four in
    bytes_of-push c.self.inside c.args.self.now _ c.args.len c.copy_from_slice.new.self c.self.invariant c.self.view_is
    (omega (arith, e)) (omega (arith, c.requires.few))
    ∙ ap (λ ys. c.args.self.now ++ take c.args.len ys) c.copy_from_slice.ensures.after
