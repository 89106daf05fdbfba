use Rattle.std.proofs.Common.{ap, is_ok, refl, ◌∙◌, List, [], ◌∷◌, ◌++◌, ◌+◌, ◌<◌, length, subst}
use Rattle.std.specs.Prelude.{string_bytes, string_len, string_capacity}
use Rattle.vt100_forms.specs.declared.attrs.Attrs.{Attrs}
use Rattle.vt100_forms.specs.Form.{Form, Backspace, EraseChar, RestoreCursor, SaveCursor, change, bytes_of}
use Rattle.screen_drawing.specs.Cursor.{replaced}
use Rattle.vt100_core.proofs.WriterLemmas.{appends_rest, last_appends, begun_none, begun_rest, refused, appended}
use Rattle.vt100_core.proofs.grid.placing.replace_space.Goals as goal

-- the forms from each of the four on
abbrev from_restore : Attrs → Attrs → List Form
from_restore a b = RestoreCursor ∷ change b a

abbrev from_erase : Attrs → Attrs → List Form
from_erase a b = EraseChar 1 ∷ from_restore a b

abbrev from_backspace : Attrs → Attrs → List Form
from_backspace a b = Backspace ∷ from_erase a b

abbrev from_save : Attrs → Attrs → List Form
from_save a b = SaveCursor ∷ from_backspace a b

pub returns-in_err-write_escape_code_diff : goal.returns-in_err-write_escape_code_diff
returns-in_err-write_escape_code_diff c =
    let all = replaced c.args.attrs c.args.own in
    refused c.from_residual.result all _ _ c.from_residual.ensures.0
    (begun_none (change c.args.attrs c.args.own) (from_save c.args.attrs c.args.own) all _ _ refl
    c.in_err-write_escape_code_diff.ensures.bytes c.in_err-write_escape_code_diff.ensures.full)

pub returns-in_err-write_buf : goal.returns-in_err-write_buf
returns-in_err-write_buf c =
    let a = c.args.attrs in
    let b = c.args.own in
    refused c.from_residual-in_err-write_buf.result (replaced a b) _ _ c.from_residual-in_err-write_buf.ensures.0
    (begun_rest (change a b) (from_save a b) _ _ _ (appended c.write_escape_code_diff.new.contents
    c.in_ok-write_escape_code_diff.ensures.bytes c.in_ok-write_escape_code_diff.ensures.capacity)
    (begun_none (SaveCursor ∷ []) (from_backspace a b) (from_save a b) _ _ refl c.in_err-write_buf.ensures.bytes
    c.in_err-write_buf.ensures.full))

pub returns-in_err-write_buf-2 : goal.returns-in_err-write_buf-2
returns-in_err-write_buf-2 c =
    let a = c.args.attrs in
    let b = c.args.own in
    refused c.from_residual-in_err-write_buf-2.result (replaced a b) _ _ c.from_residual-in_err-write_buf-2.ensures.0
    (begun_rest (change a b) (from_save a b) _ _ _ (appended c.write_escape_code_diff.new.contents
    c.in_ok-write_escape_code_diff.ensures.bytes c.in_ok-write_escape_code_diff.ensures.capacity)
    (begun_rest (SaveCursor ∷ []) (from_backspace a b) _ _ _ (appended c.write_buf.new.buf
    c.in_ok-write_buf.ensures.bytes c.in_ok-write_buf.ensures.capacity)
    (begun_none (Backspace ∷ []) (from_erase a b) (from_backspace a b) _ _ refl c.in_err-write_buf-2.ensures.bytes
    c.in_err-write_buf-2.ensures.full)))

pub returns-in_err-write_buf-3 : goal.returns-in_err-write_buf-3
returns-in_err-write_buf-3 c =
    let a = c.args.attrs in
    let b = c.args.own in
    refused c.from_residual-in_err-write_buf-3.result (replaced a b) _ _ c.from_residual-in_err-write_buf-3.ensures.0
    (begun_rest (change a b) (from_save a b) _ _ _ (appended c.write_escape_code_diff.new.contents
    c.in_ok-write_escape_code_diff.ensures.bytes c.in_ok-write_escape_code_diff.ensures.capacity)
    (begun_rest (SaveCursor ∷ []) (from_backspace a b) _ _ _ (appended c.write_buf.new.buf
    c.in_ok-write_buf.ensures.bytes c.in_ok-write_buf.ensures.capacity)
    (begun_rest (Backspace ∷ []) (from_erase a b) _ _ _ (appended c.write_buf-2.new.buf
    c.in_ok-write_buf-2.ensures.bytes c.in_ok-write_buf-2.ensures.capacity)
    (begun_none (EraseChar 1 ∷ []) (from_restore a b) (from_erase a b) _ _ refl c.in_err-write_buf-3.ensures.bytes
    (subst (λ f. string_capacity c.write_buf-2.new.buf
    < string_len c.write_buf-2.new.buf + length (bytes_of (f ∷ []))) c.new.ensures
    c.in_err-write_buf-3.ensures.full)))))

pub returns-in_err-write_buf-4 : goal.returns-in_err-write_buf-4
returns-in_err-write_buf-4 c =
    let a = c.args.attrs in
    let b = c.args.own in
    refused c.from_residual-in_err-write_buf-4.result (replaced a b) _ _ c.from_residual-in_err-write_buf-4.ensures.0
    (begun_rest (change a b) (from_save a b) _ _ _ (appended c.write_escape_code_diff.new.contents
    c.in_ok-write_escape_code_diff.ensures.bytes c.in_ok-write_escape_code_diff.ensures.capacity)
    (begun_rest (SaveCursor ∷ []) (from_backspace a b) _ _ _ (appended c.write_buf.new.buf
    c.in_ok-write_buf.ensures.bytes c.in_ok-write_buf.ensures.capacity)
    (begun_rest (Backspace ∷ []) (from_erase a b) _ _ _ (appended c.write_buf-2.new.buf
    c.in_ok-write_buf-2.ensures.bytes c.in_ok-write_buf-2.ensures.capacity)
    (begun_rest (EraseChar 1 ∷ []) (from_restore a b) _ _ _
    (appended c.write_buf-3.new.buf (c.in_ok-write_buf-3.ensures.bytes ∙ ap (λ f. string_bytes c.write_buf-2.new.buf
    ++ bytes_of (f ∷ []))
    c.new.ensures) c.in_ok-write_buf-3.ensures.capacity)
    (begun_none (RestoreCursor ∷ []) (change b a) (from_restore a b) _ _ refl c.in_err-write_buf-4.ensures.bytes
    c.in_err-write_buf-4.ensures.full)))))

pub returns : goal.returns
returns c =
    let a = c.args.attrs in
    let b = c.args.own in
    let ok = is_ok c.write_escape_code_diff-2.result in
    appends_rest (change a b) (from_save a b) (replaced a b) _ _ ok _ refl
    (appended c.write_escape_code_diff.new.contents c.in_ok-write_escape_code_diff.ensures.bytes
    c.in_ok-write_escape_code_diff.ensures.capacity)
    (appends_rest (SaveCursor ∷ []) (from_backspace a b) (from_save a b) _ _ ok _ refl (appended c.write_buf.new.buf
    c.in_ok-write_buf.ensures.bytes c.in_ok-write_buf.ensures.capacity)
    (appends_rest (Backspace ∷ []) (from_erase a b) (from_backspace a b) _ _ ok _ refl
    (appended c.write_buf-2.new.buf c.in_ok-write_buf-2.ensures.bytes c.in_ok-write_buf-2.ensures.capacity)
    (appends_rest (EraseChar 1 ∷ []) (from_restore a b) (from_erase a b) _ _ ok _ refl
    (appended c.write_buf-3.new.buf (c.in_ok-write_buf-3.ensures.bytes ∙ ap (λ f. string_bytes c.write_buf-2.new.buf
    ++ bytes_of (f ∷ []))
    c.new.ensures) c.in_ok-write_buf-3.ensures.capacity)
    (appends_rest (RestoreCursor ∷ []) (change b a) (from_restore a b) _ _ ok _ refl
    (appended c.write_buf-4.new.buf c.in_ok-write_buf-4.ensures.bytes c.in_ok-write_buf-4.ensures.capacity)
    (last_appends c.write_escape_code_diff-2.result (change b a) _ _ c.write_escape_code_diff-2.ensures.bytes
    c.write_escape_code_diff-2.ensures.full c.write_escape_code_diff-2.ensures.capacity)))))
