use Rattle.std.proofs.Common.{◌≡◌, sym, ◌∙◌, rules}
use Rattle.vt100_forms.specs.Attrs.{attrs_eq, default_attrs}
use Rattle.vt100_forms.proofs.ChangeLemmas.{change_sgr}
use Rattle.vt100_forms.proofs.attrs.Attrs.push_escape_code_diff.Goals as goal

pub returns-else-eq-2-clause-bytes : goal.returns-else-eq-2-clause-bytes
returns-else-eq-2-clause-bytes c =
    let same : c.eq.result ≡ attrs_eq c.args.self.now c.args.other.now = search rules in
    let plain : c.eq-2.result ≡ attrs_eq c.args.self.now default_attrs = search rules in
    rw (change_sgr c.args.other.now c.args.self.now (sym same ∙ c.if-eq.false) (sym plain ∙ c.if-eq-2.false))
    (rw c.of_change.ensures at c.push_to.ensures.bytes)
