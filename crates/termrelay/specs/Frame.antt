-- The parts of a frame: the marks of a synchronized update, and between them the body. The body takes a client from
-- what it shows to the present screen.
use Rattle.std.specs.Prelude.{◌≡◌, ℕ, zero, suc, ◌+◌, ◌*◌, ◌≤◌, ◌==◌, ◌||◌, length, Bool, true, false, List, [], ◌++◌}
use Rattle.std.specs.Prelude.{codes, Option, Some}
use Rattle.std.specs.Prelude.{None}
use Rattle.std.specs.Prelude.{if◌then◌else◌, Contains}
use Rattle.std.specs.List.{list_any}
use Rattle.vt100_forms.specs.Attrs.{IsProper, HasByteColors}
use Rattle.vt100_forms.specs.Form.{Form, bytes_of}
use Rattle.vt100_forms.specs.Mark.{mark_head}
use Rattle.vt100_cells.specs.Cell.{CellView}
use Rattle.terminal_model.specs.Term.{Size, Shown, Term, IsShown, blank_shown, shown_of}
use Rattle.terminal_model.specs.Apply.{run}
use Rattle.terminal_model.specs.Leads.{Leads}
use Rattle.terminal_model.specs.FormText.{AreForms, AreSentForms}
use Rattle.screen_drawing.specs.Modes.{input_mode_diff}
use Rattle.screen_drawing.specs.Screen.{contents_formatted, state_formatted, state_diff}
use Rattle.screen_drawing.specs.Laws.{IsDrawableScreen, IsKnown}
use Rattle.screen_drawing.specs.Length.{IsSmallScreen}
use Rattle.screen_drawing.specs.Local.{IsLocalList}

-- ---- the text

-- whether p holds of a number below n
abbrev pub any_below : ℕ → (ℕ → Bool) → Bool
any_below zero p = false
any_below (suc n) p = any_below n p || p n

-- the two marks: private mode 2026 set, and reset
abbrev pub start_mark : List ℕ
start_mark = mark_head ++ codes "h"

abbrev pub end_mark : List ℕ
end_mark = mark_head ++ codes "l"

-- whether the cell's text has U+FE0F, which asks for an emoji; a terminal may make such a cell wide
abbrev pub asks_for_emoji : CellView → Bool
asks_for_emoji x = list_any (λ c. c == 0xFE0F) x.text

-- a screen is unsure if one of its cells has U+FE0F: another terminal may show something else
unfoldable pub is_unsure : Size → Shown → Bool
is_unsure z s = any_below z.rows (λ r. any_below z.cols (λ k. asks_for_emoji (s.cell r k)))

-- the forms of the body: from the screen of the last frame, if there was a frame, to the present one
unfoldable pub body_forms : Size → Option Shown → Shown → List Form
body_forms z None now = state_formatted z now
body_forms z (Some base) now =
    if is_unsure z base || is_unsure z now
    then contents_formatted z now ++ input_mode_diff base now
    else state_diff z base now

-- a frame's bytes: the start mark, the bytes of the body, the end mark
abbrev pub frame_text : Size → Option Shown → Shown → List ℕ
frame_text z base now = start_mark ++ (bytes_of (body_forms z base now) ++ end_mark)

-- if a screen is sure, no cell's text has U+FE0F
abbrev pub EachSureIsPlain : Type 0
EachSureIsPlain = (z : Size) (s : Shown) → IsShown z s → is_unsure z s ≡ false → (r k : ℕ)
    → Contains (s.cell r k).text 0xFE0F → ⊥

-- ---- what it makes of a terminal

-- the text has the start mark only at its start, and the end mark only at its end
pub record IsMarked (text : List ℕ) : Type 0 where
  pub body : List ℕ
  pub parts : text ≡ start_mark ++ (body ++ end_mark)
  pub starts : (xs ys : List ℕ) → text ≡ xs ++ (start_mark ++ ys) → xs ≡ []
  pub ends : (xs ys : List ℕ) → text ≡ xs ++ (end_mark ++ ys) → ys ≡ []

-- each frame has the marks only at its start and its end, if no cell shows U+FFFD
abbrev pub EachFrameIsMarked : Type 0
EachFrameIsMarked = (z : Size) (base : Option Shown) (now : Shown) → IsKnown now → IsMarked (frame_text z base now)

-- t has the modes and the cursor's style of s
abbrev pub HasModesOf : Shown → Shown → Type 0
HasModesOf s t = (t.modes ≡ s.modes) × (t.style ≡ s.style)

-- t shows the same as s; if s is unsure, t has only its modes and style
abbrev pub ShowsUnless : Bool → Shown → Shown → Type 0
ShowsUnless true s t = HasModesOf s t
ShowsUnless false s t = t ≡ s

-- What a client that has had all frames shows. Before the first frame that is a blank screen, and later what was shown
-- at the last one. If that screen was unsure, only its modes and cursor style are certain.
abbrev pub Agrees : Size → Option Shown → Shown → Type 0
Agrees z None t = t ≡ blank_shown
Agrees z (Some base) t = ShowsUnless (is_unsure z base) base t

-- the last frame's screen, if there was a frame, is a well-formed screen of this size
abbrev pub IsBase : Size → Option Shown → Type 0
IsBase z None = Unit {0}
IsBase z (Some base) = IsShown z base × IsProper base.attrs

-- a frame makes a client that has had all frames before it show the present screen
abbrev pub EachFrameLeads : Type 0
EachFrameLeads = (z : Size) (base : Option Shown) (now from : Shown) → IsBase z base → IsDrawableScreen z now
    → Agrees z base from → Leads z (body_forms z base now) from now

-- also if the present screen is unsure, a frame sets its modes and cursor style
abbrev pub EachFrameSetsModes : Type 0
EachFrameSetsModes = (z : Size) (base : Option Shown) (now : Shown) (t : Term) → Agrees z base (shown_of t)
    → HasModesOf now (shown_of (run z (body_forms z base now) t))

-- ---- what it is made of

-- the colour values of the last frame's screen, if there was a frame, fit in bytes
abbrev pub HasByteBase : Option Shown → Type 0
HasByteBase None = Unit {0}
HasByteBase (Some base) = HasByteColors base.attrs

-- the body is a list of forms that writers send
abbrev pub EachBodyIsSent : Type 0
EachBodyIsSent = (z : Size) (base : Option Shown) (now : Shown) → HasByteBase base → IsSmallScreen z now → IsKnown now
    → AreSentForms (body_forms z base now)

-- if the present screen is sure, the body is a list of forms that a screen and a view read alike
abbrev pub EachBodyIsOfForms : Type 0
EachBodyIsOfForms = (z : Size) (base : Option Shown) (now : Shown) → HasByteBase base → IsSmallScreen z now
    → IsKnown now → is_unsure z now ≡ false → AreForms (body_forms z base now)

-- ---- how long it is

-- the text has at most 1,024 bytes for each cell, and 1,024 more
abbrev pub IsShortFrame : Size → List ℕ → Type 0
IsShortFrame z text = length text ≤ 1024 * (z.rows * z.cols) + 1024

-- each frame keeps the bound
abbrev pub EachFrameIsShort : Type 0
EachFrameIsShort = (z : Size) (base : Option Shown) (now : Shown) → HasByteBase base → IsSmallScreen z now
    → IsShortFrame z (frame_text z base now)

-- ---- which cells it touches

-- The text is the frame from `base` to `now`. If a client that shows `base` reads it, the forms of its body touch only
-- local cells of the two pictures. If the cursor of `now` waits to wrap, they may also touch the last cell of one row.
pub record IsLocalFrame (z : Size) (base now : Shown) (text : List ℕ) : Type 0 where
  pub framed : text ≡ frame_text z (Some base) now
  pub touches : IsLocalList z base now (body_forms z (Some base) now)
