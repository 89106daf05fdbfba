-- What is due if there is a sure base, and if there isn't one.
use Rattle.std.proofs.Common.{◌≡◌, ◌∙◌, ℕ, List, Bool, true, false, Option, Some, None, refl, sym, ap, if◌then◌else◌}
use Rattle.std.proofs.Common.{arith}
use denote.Enum.Bare.{sameb}
use Rattle.std.specs.Option.{option_map, IfSome}
use Rattle.terminal_model.specs.Term.{Size, Shown, IsShown}
use Rattle.vt100_core.specs.Picture.{grid_size}
use Rattle.screen_model.specs.State.{State}
use Rattle.screen_model.specs.Call.{ScreenView}
use Rattle.screen_model.specs.Shown.{shown_state}
use Rattle.vt100.specs.WriterLaws.{IsUnscrolled}
use Rattle.vt100.proofs.ShownLemmas.{shown-is}
use Rattle.termrelay.specs.Frame.{is_unsure}
use Rattle.termrelay.specs.Answers.{due, same_shown, is_frame, wanted_to}
use Rattle.termrelay.specs.ClientRecord.{IsBaseOf, is_unsure_screen, sure_base}
use Rattle.termrelay.specs.contracts.answer.Answer.{the_type}
use Rattle.termrelay.specs.declared.answer.Answer.{Answer}
use Rattle.termrelay.specs.declared.answer.Answer.TheVariants.{Full, Difference, Unsure, Unchanged}
use Rattle.termrelay.proofs.SameLemmas.{same-one}

-- what is true of a sure base of one size, and whether the same is shown as there
sure-base : (now w v : ScreenView) (same : Bool) → IsBaseOf now w → Some v ≡ sure_base (Some w)
    → same_shown (grid_size v.state.shown) (shown_state v.state) (shown_state now.state) ≡ same
    → (is_unsure (grid_size now.state.shown) (shown_state w.state) ≡ false)
    × (same_shown (grid_size now.state.shown) (shown_state w.state) (shown_state now.state) ≡ same)
sure-base now w v same of e is =
    let sure : is_unsure_screen w ≡ false = grind arith in
    let one : v ≡ w = grind arith in (
      ap (λ z. is_unsure z (shown_state w.state)) (sym of.size) ∙ sure,
      ap (λ z. same_shown z (shown_state w.state) (shown_state now.state)) (sym of.size) ∙ rw one at is,
    )

-- the screen shows the same as a sure base, so it is sure too
pub same-due : (now : ScreenView) (base : Option ScreenView) (v : ScreenView) → IsUnscrolled now.state
    → IfSome base (IsBaseOf now) → Some v ≡ sure_base base
    → same_shown (grid_size v.state.shown) (shown_state v.state) (shown_state now.state) ≡ true
    → Unchanged ≡ due (grid_size now.state.shown) (shown_state now.state) (option_map (λ v. shown_state v.state) base)
same-due now None v u h e same = absurd cc
same-due now (Some w) v u h e same =
    let z = grid_size now.state.shown in
    let (sure, alike) = sure-base now w v true h e same in
    let base : IsShown z (shown_state w.state) = rw h.size at (shown-is w.state h.unscrolled) in
    let one = same-one z (shown_state w.state) (shown_state now.state) base (shown-is now.state u) alike in
    rw (rw one at sure, sure, alike)

-- a sure base fits this screen, and is sure
pub base-sure : (now : ScreenView) (base : Option ScreenView) (v : ScreenView) → IfSome base (IsBaseOf now)
    → Some v ≡ sure_base base
    → IsBaseOf now v × (is_unsure (grid_size now.state.shown) (shown_state v.state) ≡ false)
base-sure now None v h e = absurd cc
base-sure now (Some w) v h e =
    let sure : is_unsure_screen w ≡ false = grind arith in
    let one : v ≡ w = grind arith in
    rw one (h, ap (λ z. is_unsure z (shown_state w.state)) (sym h.size) ∙ sure)

-- the screen doesn't show the same as a sure base
pub other-due : (now : ScreenView) (base : Option ScreenView) (v : ScreenView) → IfSome base (IsBaseOf now)
    → Some v ≡ sure_base base
    → same_shown (grid_size v.state.shown) (shown_state v.state) (shown_state now.state) ≡ false
    → (if is_unsure_screen now then Unsure else Difference)
    ≡ due (grid_size now.state.shown) (shown_state now.state) (option_map (λ v. shown_state v.state) base)
other-due now None v h e other = absurd cc
other-due now (Some w) v h e other =
    let (sure, alike) = sure-base now w v false h e other in rw (sure, alike)

-- there is no base, or an unsure one
pub redraw-due : (now : ScreenView) (base : Option ScreenView) → IfSome base (IsBaseOf now) → None ≡ sure_base base
    → (if is_unsure_screen now then Unsure else Full)
    ≡ due (grid_size now.state.shown) (shown_state now.state) (option_map (λ v. shown_state v.state) base)
redraw-due now None h e = refl
redraw-due now (Some v) h e =
    let unsure : is_unsure_screen v ≡ true = grind arith in
    rw (rw h.size at unsure)
