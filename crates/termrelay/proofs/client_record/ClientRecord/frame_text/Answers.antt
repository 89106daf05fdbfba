use Rattle.std.proofs.Common.{◌∙◌, ap}
use Rattle.std.specs.Prelude.{string_bytes}
use Rattle.vt100_forms.specs.Form.{bytes_of}
use Rattle.vt100_core.specs.Picture.{grid_size}
use Rattle.screen_model.specs.Shown.{shown_state}
use Rattle.termrelay.specs.Frame.{start_mark, end_mark, body_forms}
use Rattle.termrelay.specs.ClientRecord.{client_of}
use Rattle.termrelay.proofs.DueLemmas.{text-joined}
use Rattle.termrelay.proofs.client_record.ClientRecord.frame_text.Goals as goal

pub returns-clause-text : goal.returns-clause-text
returns-clause-text c =
    let now = c.args.now.now.state in
    let body = bytes_of (body_forms (grid_size now.shown) (client_of c.args.self.now).base (shown_state now)) in
    let text = text-joined (string_bytes c.new-text.result) (string_bytes c.push_str.new.self)
    (string_bytes c.push_body.new.text) (string_bytes c.push_str-2.new.self) start_mark body end_mark
    c.new-text.ensures.bytes c.in_ok-push_str.ensures.bytes c.in_ok-push_body.ensures.text
    c.in_ok-push_str-2.ensures.bytes in
    ap (λ v. v.items) c.into_bytes.ensures.value ∙ text
