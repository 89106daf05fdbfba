-- What a screen's calls write are lists of forms: what those of modes and attributes set, which forms they are, how
-- many bytes they take, and which cells those of differences touch.
use Rattle.std.specs.Prelude.{ℕ, ◌≡◌, ◌+◌, ◌*◌, ◌≤◌, List, length, Contains}
use Rattle.std.specs.List.{AllByRecursion}
use Rattle.vt100_forms.specs.Attrs.{HasByteColors}
use Rattle.vt100_forms.specs.Form.{Form, bytes_of}
use Rattle.vt100_forms.specs.declared.modes.MouseProtocolMode.TheVariants as mouse
use Rattle.vt100_forms.specs.declared.modes.MouseProtocolEncoding.TheVariants as encoding
use Rattle.vt100_forms.specs.declared.modes.CursorStyle.TheVariants as style
use Rattle.terminal_model.specs.FormText.{AreForms, AreSentForms}
use Rattle.terminal_model.specs.Term.{Size, Shown}
use Rattle.terminal_model.specs.Leads.{Leads}
use Rattle.screen_drawing.specs.Modes.{input_mode_formatted, input_mode_diff, attributes_formatted}
use Rattle.screen_drawing.specs.Laws.{IsKnown, with_modes}
use Rattle.screen_drawing.specs.Length.{IsSmallScreen, IsWithin}
use Rattle.screen_drawing.specs.Local.{IsLocalList}
use Rattle.vt100_core.specs.Picture.{grid_size}
use Rattle.screen_model.specs.State.{State, IsState}
use Rattle.screen_model.specs.Shown.{shown_state}
use Rattle.screen_model.specs.Made.{Act, made}
use Rattle.screen_model.specs.Holds.{AreActs}
use Rattle.vt100.specs.Writers.{contents_formatted, state_formatted, contents_diff, state_diff, cursor_state_formatted}
use Rattle.vt100.specs.Writers.{rows_formatted, rows_diff}
use Rattle.vt100.specs.WriterLaws.{IsUnscrolled, IsPlainlyShown}

-- ---- modes and attributes

-- from any picture, where the mouse and the cursor's style have their initial values, to the modes and the style of
-- s, and nothing else changes
abbrev pub EachModeLeads : Type 0
EachModeLeads = (s : State) (z : Size) (from : Shown) → from.modes.mouse ≡ mouse.None
    → from.modes.encoding ≡ encoding.Default → from.style ≡ style.Default
    → Leads z (input_mode_formatted (shown_state s)) from (with_modes s.modes s.style from)

-- from any picture with the modes and the style of an earlier screen to those of the new one
abbrev pub EachModeChangeLeads : Type 0
EachModeChangeLeads = (old new : State) (z : Size) (from : Shown) → from.modes ≡ old.modes → from.style ≡ old.style
    → Leads z (input_mode_diff (shown_state old) (shown_state new)) from (with_modes new.modes new.style from)

-- from any picture to the attributes
abbrev pub EachAttributeLeads : Type 0
EachAttributeLeads = (s : State) (z : Size) (from : Shown) → IsState s
    → Leads z (attributes_formatted (shown_state s)) from (record from { attrs = s.attrs })

-- ---- what is shown is known

-- of every live screen that shows no kept row, unless a cell has U+FFFD, which no bytes put there
abbrev pub EachScreenIsKnown : Type 0
EachScreenIsKnown = (s : State) → IsUnscrolled s
    → ((r k : ℕ) → Contains ((shown_state s).cell r k).text 0xFFFD → ⊥) → IsKnown (shown_state s)

-- and of every one that bytes and resizes have made
abbrev pub EachMadeScreenIsKnown : Type 0
EachMadeScreenIsKnown = (rows cols capacity : ℕ) (acts : List Act) → AreActs rows cols capacity acts
    → IsKnown (shown_state (made rows cols capacity acts))

-- its numbers are of the code's types
abbrev pub EachScreenIsSmall : Type 0
EachScreenIsSmall = (s : State) → IsUnscrolled s → IsSmallScreen (grid_size s.shown) (shown_state s)

-- ---- which forms they are

-- what is true of the list of each call that writes a screen, or what differs from an earlier one
pub record IsTrueOfLists (Q : List Form → Type 0) (old new : State) : Type 0 where
  pub state_formatted : Q (state_formatted new)
  pub contents_formatted : Q (contents_formatted new)
  pub state_diff : Q (state_diff old new)
  pub contents_diff : Q (contents_diff old new)
  pub cursor_state_formatted : Q (cursor_state_formatted new)
  pub input_mode_formatted : Q (input_mode_formatted (shown_state new))
  pub input_mode_diff : Q (input_mode_diff (shown_state old) (shown_state new))
  pub attributes_formatted : Q (attributes_formatted (shown_state new))

-- forms that writers send
abbrev pub EachListIsSent : Type 0
EachListIsSent = (old new : State) → IsUnscrolled old → IsUnscrolled new → grid_size old.shown ≡ grid_size new.shown
    → IsKnown (shown_state new) → IsTrueOfLists AreSentForms old new

-- where no cell shows U+FE0F, forms that a screen and a view read alike
abbrev pub EachListIsOfForms : Type 0
EachListIsOfForms = (old new : State) → IsUnscrolled old → IsUnscrolled new → grid_size old.shown ≡ grid_size new.shown
    → IsKnown (shown_state new) → IsPlainlyShown (shown_state new) → IsTrueOfLists AreForms old new

-- this text is that of such a list
abbrev pub IsWritten : (List Form → Type 0) → List ℕ → Type 0
IsWritten Q text = (forms : List Form) × Q forms × (text ≡ bytes_of forms)

-- the same of each text of a row, of whichever columns
pub record IsTrueOfRows (Q : List Form → Type 0) (old new : State) (start width : ℕ) : Type 0 where
  pub rows_formatted : AllByRecursion (IsWritten Q) (rows_formatted new.shown start width)
  pub rows_diff : AllByRecursion (IsWritten Q) (rows_diff old.shown new.shown start width)

-- whatever the earlier screen is
abbrev pub EachRowIsSent : Type 0
EachRowIsSent = (old new : State) (start width : ℕ) → IsUnscrolled new → IsKnown (shown_state new)
    → IsTrueOfRows AreSentForms old new start width

abbrev pub EachRowIsOfForms : Type 0
EachRowIsOfForms = (old new : State) (start width : ℕ) → IsUnscrolled new → IsKnown (shown_state new)
    → IsPlainlyShown (shown_state new) → IsTrueOfRows AreForms old new start width

-- ---- how long they are

-- at most 1,024 bytes a cell, and 512 or 1,008 more; 128 for the modes alone
pub record AreShort (old new : State) : Type 0 where
  pub contents_formatted : IsWithin (grid_size new.shown) 512 (contents_formatted new)
  pub contents_diff : IsWithin (grid_size new.shown) 512 (contents_diff old new)
  pub state_formatted : IsWithin (grid_size new.shown) 1008 (state_formatted new)
  pub state_diff : IsWithin (grid_size new.shown) 1008 (state_diff old new)
  pub input_mode_formatted : length (bytes_of (input_mode_formatted (shown_state new))) ≤ 128
  pub input_mode_diff : length (bytes_of (input_mode_diff (shown_state old) (shown_state new))) ≤ 128

-- whatever the earlier screen shows, and also where kept rows are shown
abbrev pub EachListIsShort : Type 0
EachListIsShort = (old new : State) → HasByteColors old.attrs → IsState new → AreShort old new

-- a text of at most 1,024 bytes a cell, and `more` bytes beyond these
abbrev pub IsShortText : Size → ℕ → List ℕ → Type 0
IsShortText z more text = length text ≤ 1024 * (z.rows * z.cols) + more

-- ---- which cells they touch

-- The text is that of these forms. Read by a terminal that shows `old`, they touch local cells of the two pictures
-- alone; but where the cursor of `new` waits, also the last cell of one row.
pub record IsLocalText (forms : List Form) (z : Size) (old new : Shown) (text : List ℕ) : Type 0 where
  pub written : text ≡ bytes_of forms
  pub touches : IsLocalList z old new forms
