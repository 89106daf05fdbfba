use Rattle.std.proofs.Common.{List, ℕ, ◌++◌, [], take, drop, map, codes, length, refl, ◌-◌, Bor, get_or}
use Rattle.std.specs.List.{flat_map}
use Rattle.vte_core.specs.ParamsText.{group_text, groups_text}
use Rattle.c_objects.proofs.Drafts.{drafted_first, drafted_next}
use Rattle.c_objects.proofs.told.push_groups.Goals as goal

abbrev left : List (Bor (List ℕ)) → List ℕ
left gs = flat_map (λ y. codes ";" ++ group_text y) (map (λ g. g.now) gs)

abbrev whole : List (Bor (List ℕ)) → List ℕ
whole gs = groups_text (map (λ g. g.now) gs)

abbrev none : Bor (List ℕ)
none = record { ref_ptr = (0, 0); now = [] }

pub loop-group-init : goal.loop-group-init
loop-group-init c =
    drafted_first (λ g. group_text g.now) left whole c.args.groups.now none c.args.draft.now c.push_group.new.draft
    c.in-len1-up.len_at_least (λ g gs. refl) c.push_group.ensures

pub loop-group-preserved : goal.loop-group-preserved
loop-group-preserved c =
    let rest = take (length c.args.groups.now - 1) (drop 1 c.args.groups.now) in
    drafted_next left rest c.loop-group.group-index none (codes ";")
    (group_text (get_or rest c.loop-group.group-index none).now) c.loop-group.draft c.push.new.self
    c.push_group-in-loop-group.new.draft (c.args.draft.now ++ whole c.args.groups.now) c.loop-group-test.true refl
    c.push.ensures c.push_group-in-loop-group.ensures c.loop-group.invariant
