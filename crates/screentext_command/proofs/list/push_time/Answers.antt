use Rattle.std.proofs.Common.{◌≡◌, ◌∙◌, ◌++◌, ◌/◌, ◌%◌, OnOk, ap, codes, subst}
use Rattle.std.specs.Prelude.{string_bytes}
use Rattle.std.specs.Fmt.{decimal, styled_decimal}
use Rattle.screentext_command.proofs.ListLemmas.{padded_six}
use Rattle.screentext_command.proofs.list.push_time.Goals as goal

pub returns : goal.returns
returns c =
    subst (λ t. OnOk c.write.result (string_bytes c.write.new.self ≡ string_bytes c.args.text.now ++ (c.args.word.now
    ++ (codes " " ++ (decimal (c.args.time / 1000000) ++ (codes "." ++ t))))))
    (ap (λ s. styled_decimal s (c.args.time % 1000000)) c.laid_out.ensures
    ∙ padded_six (c.args.time % 1000000)) c.write.ensures.bytes
