use Rattle.std.proofs.Common.{refl}
use Rattle.picture_page.proofs.PageLemmas.{if_added}
use Rattle.picture_page.proofs.SeenLemmas.{if_drawn_after}
use Rattle.row_pictures.specs.declared.glyph.Ink.TheVariants.{Font, Shade, Solid}
use Rattle.row_pictures.proofs.DrawnLemmas.{in_a_font, not_in_a_font}
use Rattle.row_pictures.proofs.svg.push_run.Goals as goal

pub returns-in-Font-clause-adds : goal.returns-in-Font-clause-adds
returns-in-Font-clause-adds c = if_added _ _ _ _ _ c.in_ok-push_behind.ensures.adds c.push_text.ensures.adds

pub returns-in-Font-clause-seen : goal.returns-in-Font-clause-seen
returns-in-Font-clause-seen c =
    if_drawn_after _ _ _ _ _ _ _ _ c.in_ok-push_behind.ensures.seen
    (in_a_font _ _ _ c.args.run.now Font c.in-Font.ensures refl c.requires c.push_text.ensures.seen)

pub returns-in-Solid-clause-adds : goal.returns-in-Solid-clause-adds
returns-in-Solid-clause-adds c = if_added _ _ _ _ _ c.in_ok-push_behind.ensures.adds c.push_path.ensures.adds

pub returns-in-Solid-clause-seen : goal.returns-in-Solid-clause-seen
returns-in-Solid-clause-seen c =
    if_drawn_after _ _ _ _ _ _ _ _ c.in_ok-push_behind.ensures.seen
    (not_in_a_font _ _ _ c.args.run.now Solid c.in-Solid.ensures refl c.requires c.push_path.ensures.seen)

pub returns-in-Shade-clause-adds : goal.returns-in-Shade-clause-adds
returns-in-Shade-clause-adds c = if_added _ _ _ _ _ c.in_ok-push_behind.ensures.adds c.push_path-in-Shade.ensures.adds

pub returns-in-Shade-clause-seen : goal.returns-in-Shade-clause-seen
returns-in-Shade-clause-seen c =
    if_drawn_after _ _ _ _ _ _ _ _ c.in_ok-push_behind.ensures.seen
    (not_in_a_font _ _ _ c.args.run.now (Shade c.in-Shade.hundredths) c.in-Shade.ensures refl c.requires c.push_path-in-Shade.ensures.seen)
