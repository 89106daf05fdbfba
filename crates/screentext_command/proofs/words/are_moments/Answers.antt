use Rattle.std.proofs.Common.{◌∙◌, ◌&&◌, ap, ap₂, codes}
use Rattle.clap.specs.Words.{found_of}
use Rattle.clap.proofs.WalkLemmas.{first_value-rows}
use Rattle.screentext_command.specs.Words.{is_moment}
use Rattle.screentext_command.proofs.words.are_moments.Goals as goal

pub returns-clause-moments : goal.returns-clause-moments
returns-clause-moments c =
    let f = found_of c.args.matches.now in
    let moment = c.in_ok-moment.ensures.moment ∙ ap is_moment (c.get_str.ensures ∙ first_value-rows f (codes "at")) in
    let since = c.in_ok-since.ensures.moment ∙ ap is_moment (c.get_str-2.ensures ∙ first_value-rows f (codes "diff")) in
    let from = c.in_ok-from.ensures.moment ∙ ap is_moment (c.get_str-3.ensures ∙ first_value-rows f (codes "from")) in
    let poster = c.in_ok-poster.ensures.moment
    ∙ ap is_moment (c.get_str-4.ensures ∙ first_value-rows f (codes "poster")) in
    c.are_all.ensures ∙ ap₂ (λ a b. a && b) moment (ap₂ (λ a b. a && b) since (ap₂ (λ a b. a && b) from poster))
