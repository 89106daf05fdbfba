use Rattle.std.proofs.Common.{ap, refl, ◌∙◌, ◌∷◌, ◌++◌, append-nil, subst, sym, length, [], ◌+◌, ◌<◌}
use Rattle.std.specs.Prelude.{string_bytes, encode_utf8_all, string_len, string_capacity}
use Rattle.vt100_forms.specs.Form.{Text, change, bytes_of}
use Rattle.screen_drawing.specs.Cursor.{printed_with}
use Rattle.vt100_core.proofs.WriterLemmas.{appended, appends_rest, none_appends}
use Rattle.vt100_core.proofs.grid.placing.print_with.Goals as goal

pub returns-in_err-write_escape_code_diff : goal.returns-in_err-write_escape_code_diff
returns-in_err-write_escape_code_diff c =
    let x = c.args.cell.now in
    let a = c.args.attrs in
    let full = subst (λ b. string_capacity c.args.contents.now
    < string_len c.args.contents.now + length (bytes_of (change a b))) c.attrs.ensures
    c.in_err-write_escape_code_diff.ensures.full in
    none_appends c.from_residual.result (change a x.attrs) (Text x.text ∷ change x.attrs a) (printed_with a x) _ _
    c.from_residual.ensures.0 refl c.in_err-write_escape_code_diff.ensures.bytes full

pub returns-in_err-push_str : goal.returns-in_err-push_str
returns-in_err-push_str c =
    let x = c.args.cell.now in
    let a = c.args.attrs in
    let rest = Text x.text ∷ change x.attrs a in
    let text = c.contents.ensures.bytes ∙ sym (append-nil (encode_utf8_all x.text)) in
    let full = subst (λ bs. string_capacity c.write_escape_code_diff.new.contents
    < string_len c.write_escape_code_diff.new.contents + length bs) text c.in_err-push_str.ensures.full in
    appends_rest (change a x.attrs) rest (printed_with a x) _ _ _ _ refl
    (appended c.write_escape_code_diff.new.contents (c.in_ok-write_escape_code_diff.ensures.bytes
    ∙ ap (λ b. string_bytes c.args.contents.now ++ bytes_of (change a b)) c.attrs.ensures)
    c.in_ok-write_escape_code_diff.ensures.capacity)
    (none_appends c.from_residual-in_err-push_str.result (Text x.text ∷ []) (change x.attrs a) rest _ _
    c.from_residual-in_err-push_str.ensures.0 refl c.in_err-push_str.ensures.bytes full)
