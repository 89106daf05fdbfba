use Rattle.std.proofs.Common.{List, ℕ, ◌++◌, ◌∷◌, ◌∙◌, true, false, [], ap, ap₂, length, refl}
use Rattle.picture_page.specs.Bytes.{numbers_bytes}
use Rattle.picture_page.specs.Page.{escaped}
use Rattle.picture_page.specs.Tags.{tag_bytes}
use Rattle.picture_page.specs.declared.tag.Tag.TheVariants as tag
use Rattle.picture_page.proofs.PageLemmas.{if_added, if_ended, if_joined}
use Rattle.picture_page.proofs.SeenLemmas.{draws_color, draws_numbers, draws_tag, draws_text, draws_wanted}
use Rattle.picture_page.proofs.SeenLemmas.{if_drawn_after, if_drawn_before, if_tag}
use Rattle.row_pictures.specs.Elements.{filled, tag_if}
use Rattle.row_pictures.specs.Runs.{is_wide_run}
use Rattle.row_pictures.specs.Svg.{pixels}
use Rattle.row_pictures.specs.Text.{row_text}
use Rattle.row_pictures.proofs.svg.push_text.Goals as goal

pub returns-clause-adds : goal.returns-clause-adds
returns-clause-adds c =
    if_added _ _ _ _ _ c.in_ok-numbers.ensures.adds (if_added _ _ _ _ _ c.in_ok-color.ensures.adds
    (if_added _ _ _ _ _ c.in_ok-markup_if.ensures.adds (if_added _ _ _ _ _ c.in_ok-markup_if-2.ensures.adds
    (if_added _ _ _ _ _ c.in_ok-markup_if-3.ensures.adds (if_added _ _ _ _ _ c.in_ok-markup_if-4.ensures.adds
    (if_added _ _ _ _ _ c.in_ok-markup.ensures.adds (if_ended _ _ _ _ _ c.in_ok-push_cells.ensures.adds
    c.markup-2.ensures.adds)))))))

pub returns-clause-seen : goal.returns-clause-seen
returns-clause-seen c =
    let style = c.args.style in
    if_drawn_after _ _ _ _ _ _ _ _
    (draws_numbers _ _ true (tag.Text, _) ((tag.Y, _) ∷ (tag.Length, _) ∷ []) refl refl c.in_ok-numbers.ensures.bytes)
    (if_drawn_after _ _ _ _ _ _ _ _ (draws_color _ _ false tag.Fill c.args.color refl c.in_ok-color.ensures.bytes)
    (if_drawn_after _ _ _ _ _ _ _ _ (draws_wanted _ _ style.bold tag.TextBold refl c.in_ok-markup_if.ensures.bytes)
    (if_drawn_after _ _ _ _ _ _ _ _
    (draws_wanted _ _ style.italic tag.TextItalic refl c.in_ok-markup_if-2.ensures.bytes)
    (if_drawn_after _ _ _ _ _ _ _ _
    (draws_wanted _ _ style.underline tag.TextUnderline refl c.in_ok-markup_if-3.ensures.bytes)
    (if_drawn_after _ _ _ _ _ _ _ _ (draws_wanted _ _ _ tag.Stretched refl c.in_ok-markup_if-4.ensures.bytes)
    (if_drawn_after _ _ _ _ _ _ _ _ (draws_tag _ _ tag.TextStart false true [] refl refl c.in_ok-markup.ensures.bytes)
    (if_drawn_before _ _ _ _ _ _ _ _ (draws_text _ _ (row_text c.args.run.now) c.in_ok-push_cells.ensures.bytes)
    (if_tag _ _ _ tag.TextEnd true true [] refl refl c.markup-2.ensures.bytes))))))))

pub returns-clause-bytes : goal.returns-clause-bytes
returns-clause-bytes c =
    let style = c.args.style in
    let run = c.args.run.now in
    let from : ℕ → ℕ → List ℕ = λ x width. numbers_bytes ((tag.Text, x) ∷ (tag.Y, 14) ∷ (tag.Length, width) ∷ []) in
    if_joined _ _ c.numbers.new.self _ (from (pixels c.args.col) (pixels (length run))) _
    (c.in_ok-numbers.ensures.bytes ∙ ap₂ (λ x width. c.args.page.now ++ from x width) c.pixels.ensures
    c.pixels-2.ensures)
    (if_joined _ _ c.color.new.self _ (filled tag.Fill c.args.color) _ c.in_ok-color.ensures.bytes
    (if_joined _ _ c.markup_if.new.self _ (tag_if style.bold tag.TextBold) _ c.in_ok-markup_if.ensures.bytes
    (if_joined _ _ c.markup_if-2.new.self _ (tag_if style.italic tag.TextItalic) _ c.in_ok-markup_if-2.ensures.bytes
    (if_joined _ _ c.markup_if-3.new.self _ (tag_if style.underline tag.TextUnderline) _
    c.in_ok-markup_if-3.ensures.bytes
    (if_joined _ _ c.markup_if-4.new.self _ (tag_if (is_wide_run run) tag.Stretched) _
    (c.in_ok-markup_if-4.ensures.bytes ∙ ap (λ v. c.markup_if-3.new.self ++ tag_if v tag.Stretched)
    c.is_wide_run.ensures)
    (if_joined _ _ c.markup.new.self _ (tag_bytes tag.TextStart) _ c.in_ok-markup.ensures.bytes
    (if_joined _ _ c.push_cells.new.page _ (escaped (row_text run)) (tag_bytes tag.TextEnd)
    c.in_ok-push_cells.ensures.bytes c.markup-2.ensures.bytes)))))))
