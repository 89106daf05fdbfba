use Rattle.std.proofs.Common.{ap, append-nil, is_ok, refl, sym, ◌∙◌, ◌-◌, [], ◌∷◌, ◌++◌}
use Rattle.std.specs.Prelude.{encode_utf8, string_bytes}
use Rattle.vt100_forms.specs.Form.{Text}
use Rattle.screen_drawing.specs.Cursor.{arriving, place, replaced}
use Rattle.vt100_rows.specs.Picture.{lines_of}
use Rattle.vt100_core.specs.Grid.{GridView}
use Rattle.vt100_core.specs.Picture.{grid_size}
use Rattle.vt100_core.proofs.WriterLemmas.{appends_rest, form_appends, none_appends, refused_prefix, wait_on_empty-is}
use Rattle.vt100_core.proofs.grid.Grid.wait_on_empty.Goals as goal

pub returns-in_err-arrive : goal.returns-in_err-arrive
returns-in_err-arrive c =
    let g = c.args.self.now in
    let width = c.cols.ensures ∙ ap (λ (v : GridView). v.width) c.self.view_is in
    let x = lines_of g.rows g.row (g.width - 1) in
    refused_prefix c.from_residual.result (arriving c.args.prev_pos (place c.self.inside.pos.row (c.cols.result - 1)))
    (Text (32 ∷ []) ∷ replaced c.args.attrs x.attrs) _ _ _ c.from_residual.ensures.0
    (wait_on_empty-is (grid_size g) c.args.prev_pos c.args.attrs g.row x _ _ _
    (ap (λ (v : GridView). v.row) c.self.view_is) (ap (λ n. n - 1) width) refl) c.in_err-arrive.ensures

pub returns-in_err-push : goal.returns-in_err-push
unfolding lib.Utf8.encode
returns-in_err-push c =
    let g = c.args.self.now in
    let width = c.cols.ensures ∙ ap (λ (v : GridView). v.width) c.self.view_is in
    let x = lines_of g.rows g.row (g.width - 1) in
    let rest = Text (32 ∷ []) ∷ replaced c.args.attrs x.attrs in
    let r = c.from_residual-in_err-push.result in
    appends_rest (arriving c.args.prev_pos (place c.self.inside.pos.row (c.cols.result - 1))) rest _ _ _ (is_ok r) _
    (wait_on_empty-is (grid_size g) c.args.prev_pos c.args.attrs g.row x _ _ _
    (ap (λ (v : GridView). v.row) c.self.view_is) (ap (λ n. n - 1) width) refl) c.in_ok-arrive.ensures
    (none_appends r (Text (32 ∷ []) ∷ []) (replaced c.args.attrs x.attrs) rest _ _
    c.from_residual-in_err-push.ensures.0 refl c.in_err-push.ensures.bytes c.in_err-push.ensures.full)

pub returns : goal.returns
unfolding lib.Utf8.encode
returns c =
    let g = c.args.self.now in
    let width = c.cols.ensures ∙ ap (λ (v : GridView). v.width) c.self.view_is in
    let space = c.in_ok-push.ensures.bytes
    ∙ ap (λ bs. string_bytes c.arrive.new.contents ++ bs) (sym (append-nil (encode_utf8 32))) in
    let ok = is_ok c.replace_space.result in
    let own = replaced c.args.attrs c.end_attrs.result in
    appends_rest (arriving c.args.prev_pos (place c.self.inside.pos.row (c.cols.result - 1)))
    (Text (32 ∷ []) ∷ own) _ _ _ ok _
    (wait_on_empty-is (grid_size g) c.args.prev_pos c.args.attrs g.row (lines_of g.rows g.row (g.width - 1)) _ _ _
    (ap (λ (v : GridView). v.row) c.self.view_is) (ap (λ n. n - 1) width) c.end_attrs.ensures) c.in_ok-arrive.ensures
    (form_appends (Text (32 ∷ [])) own _ _ ok _ space c.in_ok-push.ensures.capacity c.replace_space.ensures)
