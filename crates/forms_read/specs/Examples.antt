-- Examples: the events of the bytes of some forms.
use Rattle.std.specs.Prelude.{◌≡◌, true, false, List, [], ◌∷◌, Some}
use Rattle.vte_core.specs.Event.{Event, Print, Execute, Csi, Esc}
use Rattle.vte_core.specs.Shapes.{events}
use Rattle.vt100_forms.specs.declared.attrs.Color.TheVariants.{Idx, Rgb}
use Rattle.vt100_forms.specs.declared.modes.MouseProtocolMode.TheVariants as mouse
use Rattle.vt100_forms.specs.declared.modes.CursorStyle.TheVariants as style
use Rattle.vt100_forms.specs.Form.{Form, Text, MoveTo, MoveRight, EraseChar, ClearRowForward, ClearScreen, ClearAttrs}
use Rattle.vt100_forms.specs.Form.{Crlf, SaveCursor, RestoreCursor, HideCursor, Keypad, Mouse, Style, Sgr, no_change}
use Rattle.vt100_forms.specs.Form.{bytes_of}

-- the events that a parser makes of the bytes of these forms
abbrev pub reported : List Form → List Event
reported fs = events 1024 (bytes_of fs)

-- a red background and a foreground of three values
abbrev pub colors : Form
colors = Sgr (record no_change { fgcolor = Some (Rgb 1 20 255); bgcolor = Some (Idx 1) })

-- the events of the bytes of some forms
pub record EachExampleHolds : Type 0 where
  pub moved : reported (MoveTo 1 9 ∷ MoveTo 0 0 ∷ []) ≡ Csi ((2 ∷ []) ∷ (10 ∷ []) ∷ []) [] false 72
      ∷ Csi ((0 ∷ []) ∷ []) [] false 72 ∷ []
  -- the last row and column that there can be: a parser keeps 65,535 of 65,536
  pub moved_far : reported (MoveTo 65535 65534 ∷ []) ≡ Csi ((65535 ∷ []) ∷ (65535 ∷ []) ∷ []) [] false 72 ∷ []
  pub counted : reported (MoveRight 0 ∷ MoveRight 1 ∷ EraseChar 12 ∷ []) ≡ Csi ((0 ∷ []) ∷ []) [] false 67
      ∷ Csi ((12 ∷ []) ∷ []) [] false 88 ∷ []
  pub cleared : reported (ClearScreen ∷ ClearRowForward ∷ ClearAttrs ∷ []) ≡ Csi ((0 ∷ []) ∷ []) [] false 72
      ∷ Csi ((0 ∷ []) ∷ []) [] false 74 ∷ Csi ((0 ∷ []) ∷ []) [] false 75 ∷ Csi ((0 ∷ []) ∷ []) [] false 109 ∷ []
  pub written : reported (Text (97 ∷ 0x301 ∷ []) ∷ Crlf ∷ []) ≡ Print 97 ∷ Print 0x301 ∷ Execute 13 ∷ Execute 10 ∷ []
  pub saved : reported (SaveCursor ∷ RestoreCursor ∷ Keypad true ∷ []) ≡ Esc [] false 55 ∷ Esc [] false 56
      ∷ Esc [] false 61 ∷ []
  pub modes : reported (HideCursor true ∷ Mouse mouse.ButtonMotion mouse.None ∷ Mouse mouse.None mouse.Press ∷ [])
      ≡ Csi ((25 ∷ []) ∷ []) (63 ∷ []) false 108 ∷ Csi ((1002 ∷ []) ∷ []) (63 ∷ []) false 104
      ∷ Csi ((9 ∷ []) ∷ []) (63 ∷ []) false 108 ∷ []
  pub styled : reported (Style style.SteadyVerticalBar style.Default ∷ []) ≡ Csi ((6 ∷ []) ∷ []) (32 ∷ []) false 113
      ∷ []
  pub colored : reported (colors ∷ []) ≡ Csi ((38 ∷ []) ∷ (2 ∷ []) ∷ (1 ∷ []) ∷ (20 ∷ []) ∷ (255 ∷ []) ∷ (41 ∷ []) ∷ [])
      [] false 109 ∷ []
