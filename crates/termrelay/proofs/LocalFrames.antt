-- Which cells the forms of a difference touch, and how long a frame is that a hub makes.
use Rattle.std.proofs.Common.{◌≡◌, ℕ, false, List, Option, Some, None, refl, sym, subst, arith}
use Rattle.std.specs.Option.{option_map, IfSome}
use Rattle.terminal_model.specs.Term.{Shown, IsShown}
use Rattle.screen_drawing.specs.Local.{IsLocalList}
use Rattle.screen_drawing.proofs.LocalScreens.{difference-local}
use Rattle.vt100_core.specs.Picture.{grid_size}
use Rattle.screen_model.specs.Call.{ScreenView}
use Rattle.screen_model.specs.Shown.{shown_state}
use Rattle.vt100.specs.WriterLaws.{IsUnscrolled}
use Rattle.vt100.proofs.ShownLemmas.{shown-is, screen-drawable}
use Rattle.vt100.proofs.FormLists.{small-screen}
use Rattle.termrelay.specs.Frame.{is_unsure, frame_text, HasByteBase, IsShortFrame, IsLocalFrame}
use Rattle.termrelay.specs.Answers.{due}
use Rattle.termrelay.specs.ClientRecord.{RecordView, base_of, client_of, IsBaseOf, IsRecordOf}
use Rattle.termrelay.specs.declared.answer.Answer.TheVariants.{Difference}
use Rattle.termrelay.proofs.DueLemmas.{difference-body}
use Rattle.termrelay.proofs.HubLemmas.{served-base}
use Rattle.termrelay.proofs.SureLemmas.{sure-plain}
use Rattle.termrelay.proofs.FrameLengths.{frame-short}

-- ---- how long

byte-base : (now : ScreenView) (base : Option ScreenView) → IfSome base (IsBaseOf now)
    → HasByteBase (option_map (λ v. shown_state v.state) base)
byte-base now None h = tt
byte-base now (Some v) h = h.unscrolled.state.attrs.colors

-- the frame that is due
pub due-short : (now : ScreenView) (r : RecordView) (text : List ℕ) → IsUnscrolled now.state → IsRecordOf now r
    → text ≡ frame_text (grid_size now.state.shown) (client_of r).base (shown_state now.state)
    → IsShortFrame (grid_size now.state.shown) text
due-short now r text u h is =
    let bytes = byte-base now (base_of r.last) (served-base now r.last h.last) in
    rw is (frame-short (grid_size now.state.shown) _ (shown_state now.state) bytes (small-screen now.state u))

-- ---- which cells

-- if a difference is due, there is a base, and these cells are touched
pub record IsDifference (now : ScreenView) (base : Option Shown) (text : List ℕ) : Type 0 where
  pub shown : Shown
  pub is : base ≡ Some shown
  pub local : IsLocalFrame (grid_size now.state.shown) shown (shown_state now.state) text

pub due-local : (now : ScreenView) (base : Option ScreenView) (text : List ℕ) → IsUnscrolled now.state
    → IfSome base (IsBaseOf now)
    → due (grid_size now.state.shown) (shown_state now.state) (option_map (λ v. shown_state v.state) base) ≡ Difference
    → text ≡ frame_text (grid_size now.state.shown) (option_map (λ v. shown_state v.state) base) (shown_state now.state)
    → IsDifference now (option_map (λ v. shown_state v.state) base) text
due-local now None text u h e is = absurd (grind arith)
due-local now (Some v) text u h e is =
    let z = grid_size now.state.shown in
    let new = shown_state now.state in
    let old = shown_state v.state in
    let sure : is_unsure z new ≡ false = grind arith in
    let screen = screen-drawable now.state u (sure-plain z new (shown-is now.state u) sure) in
    let from : IsShown z old = rw h.size at (shown-is v.state h.unscrolled) in
    record {
      shown = old;
      is = refl;
      local = record {
        framed = is;
        touches = subst (IsLocalList z old new) (sym (difference-body z old new e))
            (difference-local z old new from h.unscrolled.state.attrs screen);
      };
    }
