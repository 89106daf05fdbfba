use Rattle.std.proofs.Common.{◌≡◌, ◌∙◌, ◌++◌, arith, max, subst}
use Rattle.std.specs.Prelude.{string_bytes}
use Rattle.screentext_command.specs.Texts.{first_changes}
use Rattle.screentext_command.proofs.TextLemmas.{changes_more, pair_of}
use Rattle.screentext_command.proofs.changes.push_changes.Goals as goal

pub loop-row-preserved : goal.loop-row-preserved
loop-row-preserved c =
    changes_more _ _ _ c.args.look c.args.before.now.state.shown c.args.after.now.state.shown c.loop-row.row
    c.loop-row.invariant
    (pair_of _ _ c.loop-row.row _ _ _ _ (c.as_deref.ensures.value ∙ c.in_ok-old.ensures)
    (c.as_deref-in-loop-row.ensures.value ∙ c.in_ok-new.ensures) c.in_ok-push_pair.ensures)

pub returns : goal.returns
returns c =
    let g = c.args.before.now.state.shown in
    let h = c.args.after.now.state.shown in
    let end : c.loop-row.row ≡ max c.args.before.now.state.shown.height c.args.after.now.state.shown.height =
    omega arith in
    subst (λ n. string_bytes c.loop-row.out ≡ string_bytes c.args.out.now ++ first_changes c.args.look g h n) end
    c.loop-row.invariant
