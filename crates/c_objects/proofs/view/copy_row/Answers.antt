use Rattle.std.proofs.Common.{◌≡◌, ◌∙◌, inl, inr, refl, encode_utf8_all}
use Rattle.termview.specs.Seen.{text_shown}
use Rattle.termview.specs.Standing.{view_size, shown_by}
use Rattle.c_objects.proofs.RowTexts.{row-text, some-text}
use Rattle.c_objects.proofs.view.copy_row.Goals as goal

pub returns-in-Ok-clause-text : goal.returns-in-Ok-clause-text
returns-in-Ok-clause-text c =
    let v = c.args.view.now in
    let is : c.deref.result.now ≡ encode_utf8_all (text_shown (view_size v) (shown_by v) c.args.row) =
    c.deref.ensures.value
    ∙ row-text c.new-text.result c.row_text.new.to _ c.in-Ok.field-0 c.in-Ok.ensures c.new-text.ensures.items in
    inl (refl, (rw is at c.copy_prefix.ensures.prefix, rw is at c.copy_prefix.ensures.count))

pub returns-clause-text : goal.returns-clause-text
returns-clause-text c =
    inr (some-text c.new-text.result c.row_text.new.to _ c.in-Err.field-0 c.in-Err.ensures, refl)
