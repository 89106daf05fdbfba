use Rattle.std.proofs.Common.{◌≡◌, ◌∙◌, ◌+◌, ◌-◌, arith}
use Rattle.vte_core.proofs.Stores.{cut_by, lone_more, numbers_below, groups_below, pushed_one, store_at}
use Rattle.vte_core.proofs.params.Params.push.Goals as goal

pub bounds-self-inside-self-inside : goal.bounds-self-inside-self-inside
bounds-self-inside-self-inside c = numbers_below _ _ _ _ _ c.self.invariant.0 c.self.view_is c.requires

pub bounds-self-inside-self-inside-2 : goal.bounds-self-inside-self-inside-2
bounds-self-inside-self-inside-2 c = groups_below _ _ _ _ _ c.self.invariant.0 c.self.view_is c.requires

pub invariant_of-self : goal.invariant_of-self
invariant_of-self c =
    let len = c.self.inside.len in
    let subs = c.self.inside.subparameters in
    let same : len - subs + 1 ≡ len + 1 - subs = omega (arith, c.self.invariant.1) in
    let below = numbers_below _ _ _ _ _ c.self.invariant.0 c.self.view_is c.requires in (
      store_at _ _ _ same (pushed_one _ _ _ _ _ c.self.invariant.0 c.self.view_is c.args.number c.requires).1,
      omega (arith, c.self.invariant.1),
      λ none.
          let all : len - subs ≡ len = omega (arith, none) in
          rw all (lone_more c.self.inside.ends len (c.self.invariant.2 none) below ∙ c.self.invariant.2 none),
    )

pub returns : goal.returns
returns c =
    let len = c.self.inside.len in
    let subs = c.self.inside.subparameters in
    let same : len + 1 - subs ≡ len - subs + 1 = omega (arith, c.self.invariant.1) in
    cut_by _ _ _ same ∙ (pushed_one _ _ _ _ _ c.self.invariant.0 c.self.view_is c.args.number c.requires).0
