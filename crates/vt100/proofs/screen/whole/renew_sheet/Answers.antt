use Rattle.std.proofs.Common.{◌∙◌, ap}
use Rattle.vt100_core.specs.Grid.{GridView}
use Rattle.vt100_core.specs.Scroll.{scrollback_erased}
use Rattle.vt100.proofs.RenewLemmas.{cleared-is_new}
use Rattle.vt100.proofs.screen.whole.renew_sheet.Goals as goal

pub returns-clause-sheet : goal.returns-clause-sheet
returns-clause-sheet c =
    c.erase_all_scrollback.ensures.grid ∙ ap (λ (g : GridView). scrollback_erased g) c.clear.ensures
    ∙ cleared-is_new c.args.grid.now c.is_allocated.ensures.valid c.requires.drawn c.requires.keeps
