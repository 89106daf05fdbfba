use Rattle.std.proofs.Common.{◌≡◌, ◌++◌, OnOk, codes, subst}
use Rattle.std.specs.Prelude.{string_bytes}
use Rattle.screentext_command.proofs.ListLemmas.{kind_said}
use Rattle.screentext_command.proofs.list.push_kind.Goals as goal

pub returns : goal.returns
returns c =
    subst (λ w. OnOk c.writeln.result (string_bytes c.writeln.new.self ≡ string_bytes c.args.text.now ++ (codes "kind "
    ++ (w ++ codes "\n")))) (kind_said c.name-name.result.now c.args.kind c.name-name.ensures) c.writeln.ensures.bytes
