use Rattle.std.proofs.Common.{sym, ap, ◌∙◌, map, length, rules}
use Rattle.std.specs.Char.{IsScalar}
use Rattle.std.specs.Str.{chars}
use Rattle.std.proofs.lemmas.List.{nil_from_length}
use Rattle.std.proofs.lemmas.Str.{chars-nil}
use Rattle.vte_core.specs.Event.{Print}
use Rattle.vte.specs.Performed.{last_after_all}
use Rattle.vte.proofs.PrintLemmas.{printed-all, last-read}
use Rattle.vte.proofs.performer.PerformerPerform.print_str.Goals as goal

pub returns-in-Some : goal.returns-in-Some
returns-in-Some g c =
    let scalar : IsScalar c.in-Some.last = search rules in
    printed-all g.H.Handler.step g.T.Timeout.ticking c.args.self.now (chars c.args.text.now) _ _ c.input_str.ensures
    (last-read c.args.self.now.state.now.preceding_char c.args.text.now c.next_back.new.self.rest.now c.in-Some.last
    c.utf8.text scalar
    (sym c.chars.ensures.rest ∙ c.in-Some.ensures.steps))

pub returns-in_default : goal.returns-in_default
returns-in_default g c =
    printed-all g.H.Handler.step g.T.Timeout.ticking c.args.self.now (chars c.args.text.now) _ _ c.input_str.ensures
    (ap (λ xs. last_after_all c.args.self.now.state.now.preceding_char (map Print xs))
    (sym (ap chars (nil_from_length c.args.text.now
    (sym (ap length c.chars.ensures.rest) ∙ c.in_default.ensures.steps.0)) ∙ chars-nil)))
