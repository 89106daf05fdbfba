use Rattle.std.proofs.Common.{◌≡◌, ◌∙◌, ◌++◌, sym, subst, List, ℕ, map-id}
use Rattle.std.specs.Prelude.{string_bytes}
use Rattle.std.proofs.lemmas.Iterator.{YieldsList-from_chars}
use Rattle.std.proofs.lemmas.Iterator.Consumers.{YieldsList-end}
use Rattle.screentext_command.specs.Listed.{name_text}
use Rattle.screentext_command.proofs.list.push_name.Goals as goal

pub returns : goal.returns
returns c =
    let end = YieldsList-end (YieldsList-from_chars c.args.name.now c.utf8.name cc) c.loop-c.yielded _
    c.loop-c.yielded_by _ _ c.in-None.is c.next.ensures.steps in
    subst (λ (cs : List ℕ). string_bytes c.loop-c.text ≡ string_bytes c.args.text.now ++ name_text cs)
    (sym (map-id c.loop-c.yielded) ∙ end.0) c.loop-c.invariant
