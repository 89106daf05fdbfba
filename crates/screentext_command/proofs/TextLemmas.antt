-- The rows of a screen, one more after others.
use Rattle.std.proofs.Common.{◌≡◌, ◌∙◌, ℕ, suc, ◌+◌, ◌-◌, Bool, false, List, ◌++◌, ap, ap₂, append_assoc, add-one}
use Rattle.std.proofs.Common.{Option}
use Rattle.screen_model.specs.Call.{ScreenView}
use Rattle.screen_model.specs.State.{State}
use Rattle.screen_model.specs.Step.{kept_shown}
use Rattle.vt100_core.specs.Grid.{GridView}
use Rattle.vt100.specs.Tries.{alive}
use Rattle.screentext_command.specs.declared.rows.Look.{Look}
use Rattle.screentext_command.specs.Texts.{change_text, first_changes, kept_text, line_at, lines_text, pair_text}
use Rattle.recorded_screen.specs.Picture.{scrolled}

-- a screen that hasn't failed
pub is_alive : (v : ScreenView) → v.failed ≡ false → v ≡ alive v.state
is_alive v live = let with : Bool → ScreenView = λ b. record { state = v.state; failed = b } in ap with live

pub lines_more : (old before after : List ℕ) (look : Look) (g : GridView) (row : ℕ)
    → before ≡ old ++ lines_text look g row → after ≡ before ++ line_at look g row
    → after ≡ old ++ lines_text look g (row + 1)
lines_more old before after look g row first adds =
    rw add-one (adds ∙ ap (λ t. t ++ line_at look g row) first
    ∙ append_assoc old (lines_text look g row) (line_at look g row))

pub changes_more : (old before after : List ℕ) (look : Look) (g h : GridView) (row : ℕ)
    → before ≡ old ++ first_changes look g h row → after ≡ before ++ change_text look g h row
    → after ≡ old ++ first_changes look g h (row + 1)
changes_more old before after look g h row first adds =
    rw add-one (adds ∙ ap (λ t. t ++ change_text look g h row) first
    ∙ append_assoc old (first_changes look g h row) (change_text look g h row))

pub scrolled_more : (s : State) (count above : ℕ) (now next : ScreenView) → now ≡ alive (scrolled s count above)
    → next ≡ alive (kept_shown (count - above) now.state) → next ≡ alive (scrolled s count (above + 1))
scrolled_more s count above now next first second =
    rw add-one (second ∙ ap (λ (v : ScreenView). alive (kept_shown (count - above) v.state)) first)

pub kept_more : (old before after : List ℕ) (look : Look) (s : State) (count above : ℕ) (next : ScreenView)
    → next ≡ alive (scrolled s count (above + 1)) → before ≡ old ++ kept_text look s count above
    → after ≡ before ++ line_at look next.state.shown 0 → after ≡ old ++ kept_text look s count (above + 1)
kept_more old before after look s count above next is first adds =
    let at : next ≡ alive (scrolled s count (suc above)) = rw add-one at is in
    let line : List ℕ = line_at look (scrolled s count (suc above)).shown 0 in
    rw add-one (adds ∙ ap (λ t. t ++ line_at look next.state.shown 0) first
    ∙ ap (λ (v : ScreenView). (old ++ kept_text look s count above) ++ line_at look v.state.shown 0) at
    ∙ append_assoc old (kept_text look s count above) line)

-- the two texts of a row, by what they are
pub pair_of : (before after : List ℕ) (row : ℕ) (a b old new : Option (List ℕ)) → a ≡ old → b ≡ new
    → after ≡ before ++ pair_text row a b → after ≡ before ++ pair_text row old new
pair_of before after row a b old new e f adds = adds ∙ ap₂ (λ x y. before ++ pair_text row x y) e f
