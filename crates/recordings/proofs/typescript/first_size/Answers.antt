use Rattle.std.proofs.Common.{◌≡◌, ◌∙◌, ◌==◌, ℕ, List, ap, rules, tests}
use Rattle.std.proofs.lemmas.Iterator.Consumers.{map_from_collect}
use Rattle.std.proofs.lemmas.Iterator.Splits.{YieldsList-from_slice_split}
use Rattle.std.specs.List.{slice_split}
use Rattle.recordings.specs.Typescript.{size_in_words}
use Rattle.recordings.proofs.LineLemmas.{texts}
use Rattle.recordings.proofs.typescript.first_size.Goals as goal

pub returns : goal.returns
returns c =
    let parted = map_from_collect _ c.collect.ensures.ran
    (YieldsList-from_slice_split _ (λ b. b == 0x20) c.first_line.result.now c.split.ensures.rest c.split.ensures.done
    c.split.ensures.closure
    (λ x r q k. search (rules, tests))) in
    let words : texts c.in_ok-all.all.items ≡ slice_split (λ b. b == 0x20) c.first_line.result.now = rw c.in_ok-all.was at parted in
    c.quoted_size.ensures ∙ ap size_in_words (ap texts c.as_slice.ensures.value ∙ words)
    ∙ ap (λ (line : List ℕ). size_in_words (slice_split (λ b. b == 0x20) line)) c.first_line.ensures
