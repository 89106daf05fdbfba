use Rattle.std.proofs.Common.{◌∙◌, ap, sym, refl}
use Rattle.vt100_core.specs.Grid.{new_grid}
use Rattle.vt100_core.specs.declared.scrollback.Scrollback.TheVariants.{Disabled}
use Rattle.screen_model.specs.Call.{ScreenView}
use Rattle.vt100.specs.ScreenFields.{screen_inside}
use Rattle.vt100.specs.Copies.{with_sheet}
use Rattle.vt100.proofs.CopyLemmas.{copied_screen, copied-parts}
use Rattle.vt100.proofs.screen.Screen.with_sheet.Goals as goal

pub invariant_of-result : goal.invariant_of-result
invariant_of-result c =
    copied_screen c.self.inside _ c.self.invariant c.requires.drawn c.requires.keeps
    (λ live. c.requires.proper (ap (λ (v : ScreenView). v.failed) (sym c.self.view_is) ∙ live))
    (c.new-other_grid.ensures ∙ (λ j. new_grid (c.size.ensures.rows j) (c.size.ensures.cols j) Disabled)) refl
    refl refl refl

pub returns : goal.returns
returns c =
    copied-parts (screen_inside c.self.inside) c.args.grid c.new-other_grid.result
    (c.new-other_grid.ensures ∙ (λ j. new_grid (c.size.ensures.rows j) (c.size.ensures.cols j) Disabled))
    ∙ ap (λ (v : ScreenView). record v { state = with_sheet v.state c.args.grid }) c.self.view_is
