-- Each screen after a program's bytes and resizes can be shown by frames.
use Rattle.std.proofs.Common.{◌≡◌, ℕ, false, List, subst, Option, Some, None}
use Rattle.vt100_forms.specs.Attrs.{IsProper}
use Rattle.terminal_model.specs.Term.{Size, Shown}
use Rattle.screen_drawing.specs.Laws.{IsDrawableScreen, IsKnown}
use Rattle.screen_drawing.specs.Length.{IsSmallScreen}
use Rattle.vt100_core.specs.Picture.{grid_size}
use Rattle.screen_model.specs.Shown.{shown_state}
use Rattle.screen_model.specs.Made.{Act, made}
use Rattle.screen_model.specs.Holds.{IsSide, AreActs}
use Rattle.screen_model.proofs.MadeLemmas.{makes-states, makes-no_offset}
use Rattle.vt100.specs.WriterLaws.{IsUnscrolled}
use Rattle.vt100.proofs.FormLists.{small-screen, made-known, shown-proper}
use Rattle.termrelay.specs.Frame.{is_unsure, IsBase}
use Rattle.termrelay.proofs.SureLemmas.{sure-plain}

-- ---- screens that frames can be made of

pub record IsShot (z : Size) (s : Shown) : Type 0 where
  pub small : IsSmallScreen z s
  pub known : IsKnown s
  pub proper : (r k : ℕ) → IsProper (s.cell r k).attrs
  pub attrs : IsProper s.attrs

pub shot-made : (rows cols : ℕ) (acts : List Act) (z : Size) → AreActs rows cols 0 acts → IsSide z.rows → IsSide z.cols
    → grid_size (made rows cols 0 acts).shown ≡ z → IsShot z (shown_state (made rows cols 0 acts))
shot-made rows cols acts z h height width size =
    let s = made rows cols 0 acts in
    let is : IsUnscrolled s = record {
      state = makes-states rows cols 0 acts h;
      offset = (makes-no_offset rows cols 0 acts h).shown;
    } in
    record {
      small = subst (λ k. IsSmallScreen k (shown_state s)) size (small-screen s is);
      known = made-known rows cols 0 acts h;
      proper = shown-proper s is;
      attrs = is.state.attrs;
    }

-- a screen without U+FE0F can be drawn
pub shot-screen : (z : Size) (s : Shown) → IsShot z s → is_unsure z s ≡ false → IsDrawableScreen z s
shot-screen z s h sure = record {
  drawable = record {
    shown = h.small.shown;
    cells = h.small.cells;
    plain = sure-plain z s h.small.shown sure;
    proper = h.proper;
  };
  attrs = h.attrs;
}

-- ---- what was shown at the last frame

abbrev pub IsShotBase : Size → Option Shown → Type 0
IsShotBase z None = Unit {0}
IsShotBase z (Some base) = IsShot z base

pub base-is : (z : Size) (base : Option Shown) → IsShotBase z base → IsBase z base
base-is z None h = tt
base-is z (Some base) h = (h.small.shown, h.attrs)
