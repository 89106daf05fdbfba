use Rattle.std.proofs.Common.{List, ℕ, ◌++◌, take, drop, codes, decimal, length, refl, ◌-◌, get_or}
use Rattle.std.specs.List.{flat_map}
use Rattle.vte_core.specs.ParamsText.{group_text}
use Rattle.c_objects.proofs.Drafts.{drafted_first, drafted_next}
use Rattle.c_objects.proofs.told.push_group.Goals as goal

abbrev left : List ℕ → List ℕ
left ns = flat_map (λ y. codes ":" ++ decimal y) ns

pub loop-number-init : goal.loop-number-init
loop-number-init c =
    drafted_first decimal left group_text c.args.group.now 0 c.args.draft.now c.push_number.new.draft
    c.in-len1-up.len_at_least (λ n ns. refl) c.push_number.ensures

pub loop-number-preserved : goal.loop-number-preserved
loop-number-preserved c =
    let rest = take (length c.args.group.now - 1) (drop 1 c.args.group.now) in
    drafted_next left rest c.loop-number.number-index 0 (codes ":") (decimal (get_or rest c.loop-number.number-index 0))
    c.loop-number.draft c.push.new.self c.push_number-in-loop-number.new.draft
    (c.args.draft.now ++ group_text c.args.group.now) c.loop-number-test.true refl
    c.push.ensures c.push_number-in-loop-number.ensures c.loop-number.invariant
