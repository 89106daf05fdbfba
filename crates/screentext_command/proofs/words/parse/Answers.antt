use Rattle.std.proofs.Common.{◌≡◌, ◌∙◌, ap, inl, inr, subst, sym, map, List, ℕ}
use Rattle.std.specs.Borrow.{Bor}
use Rattle.clap.specs.Words.{App, IsAmong, Text, app_of, fault_of, found_of, is_simple, is_simple_and_free, kind_of}
use Rattle.clap.specs.Words.{matches_of, rows_of}
use Rattle.screentext_command.specs.Words.{are_words, is_invocation, is_request, known}
use Rattle.screentext_command.proofs.KindLemmas.{one_kind}
use Rattle.screentext_command.proofs.WordsLemmas.{by_same_test, err_passes, known_is_free, known_is_simple}
use Rattle.screentext_command.proofs.WordsLemmas.{means, not_taken, ok_goes, requests, some_goes, taken}
use Rattle.screentext_command.proofs.words.parse.Goals as goal

pub returns-in-Ok-clause-invocation : goal.returns-in-Ok-clause-invocation
returns-in-Ok-clause-invocation c =
    let words : List Text = map {A = Bor (List ℕ)} {B = List ℕ} (λ w. w.now) c.args.words.now in
    let app : app_of c.in_ok-known_words.field-0 ≡ known = c.in_ok-known_words.ensures in
    let none = ap (λ (a : App). fault_of a words) (sym app) ∙ c.in-Ok.ensures.kinds (ap is_simple_and_free app
    ∙ known_is_free) in
    let rows = (c.in-Ok.ensures.matches (ap is_simple app ∙ known_is_simple)).0 ∙ ap (λ (a : App). matches_of a words)
    app in
    let values = taken (fault_of known words) (matches_of known words) (rows_of (found_of c.in-Ok.matches)) none rows in
    by_same_test c.invocation_of.result (are_words (rows_of (found_of c.in-Ok.matches))) (is_invocation words) values
    c.invocation_of.ensures.invocation

pub returns-in-Ok-clause-says : goal.returns-in-Ok-clause-says
returns-in-Ok-clause-says c =
    let words : List Text = map {A = Bor (List ℕ)} {B = List ℕ} (λ w. w.now) c.args.words.now in
    let app : app_of c.in_ok-known_words.field-0 ≡ known = c.in_ok-known_words.ensures in
    let none = ap (λ (a : App). fault_of a words) (sym app) ∙ c.in-Ok.ensures.kinds (ap is_simple_and_free app
    ∙ known_is_free) in
    let rows = (c.in-Ok.ensures.matches (ap is_simple app ∙ known_is_simple)).0 ∙ ap (λ (a : App). matches_of a words)
    app in
    ok_goes c.invocation_of.result c.invocation_of.ensures.says (λ o some. some_goes o some (λ i says. means words
    (rows_of (found_of c.in-Ok.matches)) i none rows says))

pub returns-in-Err-clause-says : goal.returns-in-Err-clause-says
returns-in-Err-clause-says c =
    let words : List Text = map {A = Bor (List ℕ)} {B = List ℕ} (λ w. w.now) c.args.words.now in
    let app : app_of c.in_ok-known_words.field-0 ≡ known = c.in_ok-known_words.ensures in
    let why = c.in-Err.ensures.kinds (ap is_simple_and_free app ∙ known_is_free) in
    elim why [
      | inl e ↦ err_passes c.asked.result _ _ (c.asked.ensures.memory e)
      | inr among ↦ let known_among : IsAmong (kind_of c.in-Err.error) (fault_of known words) =
          subst (IsAmong (kind_of c.in-Err.error)) (ap (λ (a : App). fault_of a words) app) among in
          ok_goes c.asked.result c.asked.ensures.told (λ o some. some_goes o some (λ i is. requests words
          (kind_of c.in-Err.error) i (one_kind words) known_among is))
    ]

pub returns-in-Err-clause-invocation : goal.returns-in-Err-clause-invocation
returns-in-Err-clause-invocation c =
    let words : List Text = map {A = Bor (List ℕ)} {B = List ℕ} (λ w. w.now) c.args.words.now in
    let app : app_of c.in_ok-known_words.field-0 ≡ known = c.in_ok-known_words.ensures in
    let why = c.in-Err.ensures.kinds (ap is_simple_and_free app ∙ known_is_free) in
    elim why [
      | inl e ↦ err_passes c.asked.result _ _ (c.asked.ensures.memory e)
      | inr among ↦ let kind = not_taken (kind_of c.in-Err.error) (fault_of known words)
          (fault_of (app_of c.in_ok-known_words.field-0) words) (matches_of known words)
          (ap (λ (a : App). fault_of a words) app) (one_kind words) among in
          by_same_test c.asked.result (is_request (kind_of c.in-Err.error)) (is_invocation words) kind
          c.asked.ensures.invocation
    ]
