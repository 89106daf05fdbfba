-- A screen that is reset and reuses its own rows.
use Rattle.std.proofs.Common.{◌≡◌, ◌∙◌, ℕ, true, false, [], length, replicate, refl, ap}
use Rattle.std.proofs.Common.{if◌then◌else◌}
use Rattle.vt100_rows.specs.Row.{blank_row}
use Rattle.vt100_core.specs.Grid.{GridView, IsGrid, IsAllocated, new_grid, allocated, cleared}
use Rattle.vt100_core.specs.declared.scrollback.Scrollback.TheVariants.{Disabled, Enabled}
use Rattle.vt100_core.specs.Scroll.{scrollback_erased}
use Rattle.screen_model.specs.State.{State}
use Rattle.screen_model.specs.Step.{main_shown}
use Rattle.screen_model.specs.Call.{ScreenView}
use Rattle.vt100.specs.ScreenFields.{screen_inside}
use Rattle.vt100.specs.declared.screen.Screen.TheInside.{Inside}

-- a sheet whose rows are blank and of which nothing is kept is a new one
pub cleared-is_new : (g : GridView) → IsGrid g → IsAllocated g → g.kept.keeps ≡ true
    → scrollback_erased (cleared g) ≡ allocated (new_grid g.height g.width (Enabled g.kept.capacity))
cleared-is_new g i some keeps =
    let count : length g.rows ≡ g.height = i.sheet.count some in
    λ j. record (new_grid g.height g.width Disabled) {
      rows = replicate (count j) (blank_row g.width);
      kept = record {
        keeps = keeps j;
        rows = [];
        capacity = g.kept.capacity;
        offset = 0;
        scrolled_off = 0;
      };
    }

shown-is_not_alternate : (s : State) → (main_shown s).alternate ≡ false
shown-is_not_alternate s = (elim s.alternate as (λ b. s.alternate ≡ b
    → (if b then record s { shown = s.other; other = s.shown; alternate = false } else s).alternate ≡ false) [
      | true ↦ λ e. refl
      | false ↦ λ e. e
    ]) refl

-- what a screen of these fields shows, once the main sheet is shown
abbrev ShowsMain : Inside → ScreenView → Type 0
ShowsMain s v = screen_inside s ≡ record v { state = main_shown v.state }

pub stays-main : (s : Inside) (v : ScreenView) → ShowsMain s v → s.alternate_screen ≡ false
stays-main s v shows = ap (λ (x : ScreenView). x.state.alternate) shows ∙ shown-is_not_alternate v.state

-- the other sheet is new, at the size of the renewed one
pub other-is_new : (g : GridView) (height width capacity rows cols : ℕ)
    → g ≡ allocated (new_grid height width (Enabled capacity)) → rows ≡ g.height → cols ≡ g.width
    → new_grid rows cols Disabled ≡ new_grid height width Disabled
other-is_new g height width capacity rows cols is row col =
    let high = row ∙ ap (λ (x : GridView). x.height) is in
    let wide = col ∙ ap (λ (x : GridView). x.width) is in
    λ j. new_grid (high j) (wide j) Disabled
