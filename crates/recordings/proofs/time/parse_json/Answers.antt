use Rattle.std.proofs.Common.{◌≡◌, ◌∙◌, ap, sym}
use Rattle.std.proofs.lemmas.Result.{IfOk-weaker}
use Rattle.std.specs.Option.{option_map}
use Rattle.serde_json.specs.Read.{read}
use Rattle.serde_json.specs.View.{view}
use Rattle.recordings.specs.Times.{json_in}
use Rattle.recordings.proofs.JsonLemmas.{json_is_read, no_json}
use Rattle.recordings.proofs.time.parse_json.Goals as goal

pub returns-in-Ok : goal.returns-in-Ok
returns-in-Ok c =
    IfOk-weaker c.parse_text.result (λ v. option_map view v ≡ read c.in-Ok.text.now)
    (λ v. option_map view v ≡ json_in c.args.text.now)
    (λ v is. is ∙ (ap read c.in-Ok.ensures.cases.0 ∙ sym (json_is_read c.args.text.now c.in-Ok.ensures.cases.1)))
    c.parse_text.ensures

pub returns-in-Err : goal.returns-in-Err
returns-in-Err c = sym (no_json c.args.text.now c.in-Err.ensures.cases.0)
