use Rattle.std.proofs.Common.{◌≡◌, ◌++◌, arith, subst}
use Rattle.std.specs.Prelude.{string_bytes}
use Rattle.screentext_command.specs.Texts.{lines_text}
use Rattle.screentext_command.proofs.TextLemmas.{lines_more}
use Rattle.screentext_command.proofs.text.push_shown.Goals as goal

pub loop-row-preserved : goal.loop-row-preserved
loop-row-preserved c =
    lines_more _ _ _ c.args.look c.args.screen.now.state.shown c.loop-row.row c.loop-row.invariant
    c.in_ok-push_line.ensures

pub returns : goal.returns
returns c =
    let g = c.args.screen.now.state.shown in
    let end : c.loop-row.row ≡ c.args.screen.now.state.shown.height = omega arith in
    subst (λ n. string_bytes c.loop-row.out ≡ string_bytes c.args.out.now ++ lines_text c.args.look g n) end
    c.loop-row.invariant
