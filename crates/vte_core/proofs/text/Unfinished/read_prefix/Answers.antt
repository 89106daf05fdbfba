use Rattle.std.proofs.Common.{◌≡◌, ◌∙◌, sym, ap, [], length, refl}
use Rattle.vte_core.specs.Runs.{printed_len}
use Rattle.vte_core.proofs.Runs.{run-text, printed-text, all_printed-take, nil_of_len}
use Rattle.vte_core.proofs.text.Unfinished.read_prefix.Goals as goal

pub returns-then-not-is_empty-clause-reported : goal.returns-then-not-is_empty-clause-reported
returns-then-not-is_empty-clause-reported g c =
    let text = c.text_prefix-text.result.now in
    let prefix = c.text_prefix-text.ensures.prefix in
    let none : c.args.self.now ≡ [] = nil_of_len c.args.self.now (sym c.is_empty.ensures ∙ c.if-is_empty.true) in
    let printed : printed_len text ≡ length text =
    ap printed_len prefix ∙ (all_printed-take (length text) c.args.bytes.now c.requires.printed
    ∙ ap length (sym prefix))
    in
    rw (none, ← prefix, printed-text text c.text_prefix-text.ensures.text printed) c.print_str.ensures

pub returns-then-not-is_empty-clause-rest : goal.returns-then-not-is_empty-clause-rest
returns-then-not-is_empty-clause-rest g c =
    let text = c.text_prefix-text.result.now in
    let none : c.args.self.now ≡ [] = nil_of_len c.args.self.now (sym c.is_empty.ensures ∙ c.if-is_empty.true) in
    rw (none, ← c.text_prefix-text.ensures.prefix, (run-text text c.text_prefix-text.ensures.text).1) refl
