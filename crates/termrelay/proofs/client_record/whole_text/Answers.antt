use Rattle.std.proofs.Common.{◌++◌, ap, sym, ◌∙◌}
use Rattle.std.specs.Prelude.{string_bytes}
use Rattle.vt100_forms.specs.Form.{bytes_of}
use Rattle.vt100_core.specs.Picture.{grid_size}
use Rattle.screen_drawing.specs.Screen.{state_formatted}
use Rattle.screen_model.specs.Shown.{shown_state}
use Rattle.termrelay.specs.Frame.{start_mark, end_mark}
use Rattle.termrelay.proofs.WholeLemmas.{off_bytes, whole-joined, whole-bytes}
use Rattle.termrelay.proofs.client_record.whole_text.Goals as goal

pub returns-clause-text : goal.returns-clause-text
returns-clause-text c =
    let now = c.args.now.now.state in
    let z = grid_size now.shown in
    let body = bytes_of (state_formatted z (shown_state now)) in
    let text = whole-joined (string_bytes c.new-text.result) (string_bytes c.push_str.new.self)
    (string_bytes c.push_str-2.new.self) (string_bytes c.push_state.new.text) (string_bytes c.push_str-3.new.self)
    start_mark off_bytes body end_mark c.new-text.ensures.bytes c.in_ok-push_str.ensures.bytes
    c.in_ok-push_str-2.ensures.bytes c.in_ok-push_state.ensures.text c.in_ok-push_str-3.ensures.bytes in
    ap (λ v. v.items) c.into_bytes.ensures.value ∙ text
    ∙ ap (λ b. start_mark ++ (b ++ end_mark)) (sym (whole-bytes z (shown_state now)))
