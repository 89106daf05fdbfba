use Rattle.std.proofs.Common.{◌≡◌, ◌∙◌, ◌+◌, ◌-◌, ap, arith}
use Rattle.vte_core.proofs.Headers.{onto_last, onto_last-last}
use Rattle.vte_core.proofs.Stores.{cut_by, extended, extended-length, numbers_below, store_at}
use Rattle.vte_core.proofs.params.Params.extend.Goals as goal

pub bounds-self-inside-self-inside : goal.bounds-self-inside-self-inside
bounds-self-inside-self-inside c = numbers_below _ _ _ _ _ c.self.invariant.0 c.self.view_is c.requires.room

pub invariant_of-self : goal.invariant_of-self
invariant_of-self c =
    let len = c.self.inside.len in
    let subs = c.self.inside.subparameters in
    let same : len - subs ≡ len + 1 - (subs + 1) = omega arith in
    let more = extended _ _ _ _ _ c.self.invariant.0 c.self.view_is c.args.number c.requires.room c.requires.some in
    (store_at _ _ _ same more.1, omega (arith, c.self.invariant.1), λ none. absurd (omega (arith, none)))

pub returns-clause-groups : goal.returns-clause-groups
returns-clause-groups c =
    let len = c.self.inside.len in
    let subs = c.self.inside.subparameters in
    let same : len + 1 - (subs + 1) ≡ len - subs = omega arith in
    let more = extended _ _ _ _ _ c.self.invariant.0 c.self.view_is c.args.number c.requires.room c.requires.some in
    extended-length c.args.number _ c.args.self.now (cut_by _ _ _ same ∙ more.0) c.requires.some

pub returns-clause-last : goal.returns-clause-last
returns-clause-last c = λ gs g e.
    let len = c.self.inside.len in
    let subs = c.self.inside.subparameters in
    let same : len + 1 - (subs + 1) ≡ len - subs = omega arith in
    let more = extended _ _ _ _ _ c.self.invariant.0 c.self.view_is c.args.number c.requires.room c.requires.some in
    cut_by _ _ _ same ∙ (more.0 ∙ (ap (onto_last c.args.number) e ∙ onto_last-last c.args.number gs g))
