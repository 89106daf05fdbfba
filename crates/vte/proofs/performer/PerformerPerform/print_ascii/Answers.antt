use Rattle.std.proofs.Common.{◌≡◌, ◌<◌, sym, ap, ◌∙◌, map, length, arith}
use Rattle.std.specs.Str.{chars}
use Rattle.std.proofs.lemmas.List.{nil_from_length}
use Rattle.std.proofs.lemmas.Str.{chars-nil}
use Rattle.vte_core.specs.Event.{Print}
use Rattle.vte.specs.Performed.{last_after_all}
use Rattle.vte.proofs.PrintLemmas.{printed-all, last-byte}
use Rattle.vte.proofs.performer.PerformerPerform.print_ascii.Goals as goal

pub returns-in_default : goal.returns-in_default
returns-in_default g c =
    let none : length c.args.text.now ≡ 0 = omega (arith, c.in_default.len_below, ap length c.as_bytes.ensures.value) in
    printed-all g.H.Handler.step g.T.Timeout.ticking c.args.self.now (chars c.args.text.now) _ _ c.input_ascii.ensures
    (ap (λ xs. last_after_all c.args.self.now.state.now.preceding_char (map Print xs))
    (sym (ap chars (nil_from_length c.args.text.now none) ∙ chars-nil)))

pub returns-in-len1-up : goal.returns-in-len1-up
returns-in-len1-up g c =
    let some : 0 < length c.as_bytes.result.now = omega (arith, c.in-len1-up.len_at_least) in
    printed-all g.H.Handler.step g.T.Timeout.ticking c.args.self.now (chars c.args.text.now) _ _ c.input_ascii.ensures
    (last-byte c.args.self.now.state.now.preceding_char c.as_bytes.result.now c.args.text.now _
    c.as_bytes.ensures.value c.requires some)
