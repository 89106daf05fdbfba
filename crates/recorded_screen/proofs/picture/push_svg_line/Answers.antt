use Rattle.std.proofs.Common.{◌++◌, ◌∙◌, ◌*◌, ap, ap₂, ◌∷◌, [], subst, true, false, refl, OnOk}
use Rattle.picture_page.specs.Bytes.{numbers_bytes}
use Rattle.picture_page.specs.Page.{Adds, escaped}
use Rattle.picture_page.specs.Seen.{Draws}
use Rattle.picture_page.specs.declared.tag.Tag.TheVariants as tag
use Rattle.picture_page.proofs.PageLemmas.{after_markup, before_markup, if_both}
use Rattle.picture_page.proofs.SeenLemmas.{draws_after, draws_before, draws_numbers, draws_tag, if_more_text}
use Rattle.row_pictures.specs.Drawn.{font_texts}
use Rattle.row_pictures.specs.Text.{row_text}
use Rattle.row_pictures.specs.Unpadded.{unpadded}
use Rattle.recorded_screen.proofs.PlacedLemmas.{svg_line_added}
use Rattle.recorded_screen.proofs.picture.push_svg_line.Goals as goal

pub returns-clause-adds : goal.returns-clause-adds
returns-clause-adds c =
    subst (λ cells. OnOk c.end_row.result (Adds c.args.page.now c.end_row.new.self (row_text cells ++ 10 ∷ [])))
    (ap₂ unpadded c.cells_of.ensures c.cursor_in-cursor.ensures)
    (if_both _ _ _ _ _ _
    (after_markup _ _ _ _ c.in_ok-numbers.ensures.adds
    (after_markup _ _ _ _ c.in_ok-markup.ensures.adds
    (before_markup _ _ _ _ c.in_ok-push_svg_row.ensures.adds c.in_ok-markup-2.ensures.adds)))
    c.end_row.ensures.adds)

pub returns-clause-seen : goal.returns-clause-seen
returns-clause-seen c =
    subst (λ cells. OnOk c.end_row.result (Draws c.args.page.now c.end_row.new.self true true
    (escaped (font_texts cells ++ 10 ∷ [])))) (ap₂ unpadded c.cells_of.ensures c.cursor_in-cursor.ensures)
    (if_more_text _ _ _ _ (font_texts (unpadded c.cells_of.result.now c.cursor_in-cursor.result)) (10 ∷ [])
    (draws_after _ _ _ _ _ _ _ (draws_numbers _ _ true (tag.Row, _) [] refl refl c.in_ok-numbers.ensures.bytes)
    (draws_after _ _ _ _ _ _ _ (draws_tag _ _ tag.RowCells false true [] refl refl c.in_ok-markup.ensures.bytes)
    (draws_before _ _ _ _ _ _ _ c.in_ok-push_svg_row.ensures.seen
    (draws_tag _ _ tag.RowEnd true true [] refl refl c.in_ok-markup-2.ensures.bytes))))
    c.end_row.ensures.bytes)

pub returns-clause-line : goal.returns-clause-line
returns-clause-line c =
    svg_line_added _ _ _ _ _ _ _ c.args.look.now c.args.screen.now.state c.args.row c.args.place c.cells_of.result.now
    c.cursor_in-cursor.result c.cells_of.ensures c.cursor_in-cursor.ensures
    (c.in_ok-numbers.ensures.bytes ∙ ap (λ r. c.args.page.now ++ numbers_bytes ((tag.Row, r * 18) ∷ [])) c.from.ensures)
    c.in_ok-markup.ensures.bytes c.in_ok-push_svg_row.ensures.runs c.in_ok-markup-2.ensures.bytes
    c.end_row.ensures.bytes
