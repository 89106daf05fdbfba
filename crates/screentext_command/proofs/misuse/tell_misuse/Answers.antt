use Rattle.std.proofs.Common.{◌≡◌, ◌∙◌, ap, map, List, ℕ}
use Rattle.std.specs.Borrow.{Bor}
use Rattle.std.proofs.lemmas.Result.{IfOk-weaker}
use Rattle.clap.specs.Words.{App, Text, app_of, found_of, is_simple, matches_of, rows_of}
use Rattle.screentext_command.specs.Command.{TellsInParts}
use Rattle.screentext_command.specs.Misuse.{TellsWrong}
use Rattle.screentext_command.specs.Words.{known}
use Rattle.screentext_command.specs.declared.help.TheConstants.{USAGE}
use Rattle.screentext_command.proofs.MisuseLemmas.{told_of_same, usage_told}
use Rattle.screentext_command.proofs.WordsLemmas.{known_is_simple}
use Rattle.screentext_command.proofs.misuse.tell_misuse.Goals as goal

pub returns-in-Ok-clause-told : goal.returns-in-Ok-clause-told
returns-in-Ok-clause-told g c =
    let words : List Text = map {A = Bor (List ℕ)} {B = List ℕ} (λ w. w.now) c.args.words.now in
    let app : app_of c.in_ok-known.known ≡ known = c.in_ok-known.ensures in
    let rows = (c.in-Ok.ensures.matches (ap is_simple app ∙ known_is_simple)).0
    ∙ ap (λ (a : App). matches_of a words) app in
    IfOk-weaker c.tell_wrong.result (λ u. TellsWrong g.V.ByteSink.takes (rows_of (found_of c.in-Ok.matches))
    c.args.errors.now c.tell_wrong.new.errors)
    (λ u. TellsWrong g.V.ByteSink.takes (matches_of known words) c.args.errors.now c.tell_wrong.new.errors)
    (λ u told. told_of_same g.V.ByteSink.takes (rows_of (found_of c.in-Ok.matches)) (matches_of known words)
    c.args.errors.now c.tell_wrong.new.errors rows told) c.tell_wrong.ensures.told

pub returns-in-Err-clause-told : goal.returns-in-Err-clause-told
returns-in-Err-clause-told g c =
    let words : List Text = map {A = Bor (List ℕ)} {B = List ℕ} (λ w. w.now) c.args.words.now in
    IfOk-weaker c.tell_usage.result (λ u. TellsInParts g.V.ByteSink.takes c.args.errors.now USAGE.now
    c.tell_usage.new.errors)
    (λ u. TellsWrong g.V.ByteSink.takes (matches_of known words) c.args.errors.now c.tell_usage.new.errors)
    (λ u told. usage_told g.V.ByteSink.takes (matches_of known words) c.args.errors.now c.tell_usage.new.errors told)
    c.tell_usage.ensures.told
