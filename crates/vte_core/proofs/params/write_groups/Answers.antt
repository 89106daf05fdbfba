use Rattle.std.proofs.Common.{rules, ◌≡◌, ℕ, List, ◌∷◌, ◌++◌, codes, refl, ◌∙◌, append_assoc}
use Rattle.std.proofs.Output.{has_written_append}
use Rattle.std.specs.List.{flat_map}
use Rattle.vte_core.specs.ParamsText.{group_text, groups_text}
use Rattle.vte_core.proofs.params.write_groups.Goals as goal

-- groups after another one
later : List (List ℕ) → List ℕ
later groups = flat_map (λ group. codes ";" ++ group_text group) groups

begins : (first : List ℕ) (rest left all : List (List ℕ)) → all ≡ first ∷ rest → left ≡ rest
    → group_text first ++ later left ≡ groups_text all
unfolding later
begins first rest left all e f = rw (e, f) refl

pub loop-group-init : goal.loop-group-init
unfolding later
loop-group-init g c = λ plain. (
  group_text c.in-Some.first.now,
  c.in_ok-write_group.ensures plain refl,
  begins c.in-Some.first.now c.next.new.self c.into_iter-group-iterator.result c.args.groups (search rules)
      c.into_iter-group-iterator.ensures.into_iter_gives,
)

one_more : (done group : List ℕ) (rest all : List (List ℕ)) → all ≡ group ∷ rest
    → (done ++ (codes ";" ++ group_text group)) ++ later rest ≡ done ++ later all
unfolding later
one_more done group rest all e = rw e (append_assoc done (codes ";" ++ group_text group) (later rest))

pub loop-group-preserved : goal.loop-group-preserved
unfolding later
loop-group-preserved g c = λ plain.
    let now = c.loop-group.invariant plain in
    let cut = c.in_ok-write_str.ensures.writes now.1.plain refl in
    let more = has_written_append _ _ _ _ _ _ cut (c.in_ok-write_group-2.ensures cut.plain refl) in (
      now.0 ++ (codes ";" ++ group_text c.in-Some-group.group.now),
      has_written_append _ _ _ _ _ _ now.1 more,
      one_more now.0 c.in-Some-group.group.now c.next-in-loop-group.new.self c.loop-group.group-iterator (search rules)
          ∙ now.2,
    )
