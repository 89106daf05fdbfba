use Rattle.std.proofs.Common.{◌++◌, None, refl, ap, sym, ◌∙◌}
use Rattle.std.specs.Prelude.{string_bytes}
use Rattle.vt100_forms.specs.Form.{bytes_of}
use Rattle.vt100_core.specs.Picture.{grid_size}
use Rattle.screen_drawing.specs.Screen.{state_formatted}
use Rattle.screen_model.specs.Shown.{shown_state}
use Rattle.termrelay.specs.Frame.{start_mark, end_mark}
use Rattle.termrelay.proofs.DueLemmas.{text-joined, full-text}
use Rattle.termrelay.proofs.client_record.first_text.Goals as goal

pub returns-clause-text : goal.returns-clause-text
returns-clause-text c =
    let now = c.args.now.now.state in
    let z = grid_size now.shown in
    let body = bytes_of (state_formatted z (shown_state now)) in
    let text = text-joined (string_bytes c.new-text.result) (string_bytes c.push_str.new.self)
    (string_bytes c.push_state.new.text) (string_bytes c.push_str-2.new.self) start_mark body end_mark
    c.new-text.ensures.bytes c.in_ok-push_str.ensures.bytes c.in_ok-push_state.ensures.text
    c.in_ok-push_str-2.ensures.bytes in
    ap (λ v. v.items) c.into_bytes.ensures.value ∙ text
    ∙ ap (λ b. start_mark ++ (b ++ end_mark)) (sym (full-text z (shown_state now) {last = None} refl))
