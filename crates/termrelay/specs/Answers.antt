-- The answers to requests for a frame.
use Rattle.std.specs.Prelude.{◌≡◌, ◌≢◌, ℕ, zero, suc, ◌*◌, ◌≤◌, ◌==◌, ◌&&◌, Bool, true, false, List, [], ◌∷◌, ◌++◌}
use Rattle.std.specs.Prelude.{Option, Some, None, if◌then◌else◌, length, nat_lt}
use Rattle.vt100_forms.specs.Attrs.{attrs_eq}
use Rattle.vt100_forms.specs.Form.{mouse_number, encoding_number, style_number}
use Rattle.vt100_cells.specs.Cell.{bool_eq, cell_eq, default_cell}
use Rattle.terminal_model.specs.Term.{Size, Modes, Shown, IsShown, blank_shown}
use Rattle.screen_drawing.specs.Length.{IsSmallScreen}
use Rattle.vt100_core.specs.Picture.{grid_size}
use Rattle.screen_model.specs.State.{State}
use Rattle.screen_model.specs.Shown.{shown_state}
use Rattle.termrelay.specs.Frame.{is_unsure, frame_text, HasByteBase}
use Rattle.termrelay.specs.declared.answer.Answer.{Answer}
use Rattle.termrelay.specs.declared.answer.Answer.TheVariants.{Full, Difference, Unsure, Unchanged, Behind, Held}
use Rattle.termrelay.specs.declared.answer.Answer.TheVariants.{TooLong}

-- ---- two screens of one size that show the same

-- whether p holds of all numbers below n
abbrev pub all_below : ℕ → (ℕ → Bool) → Bool
all_below zero p = true
all_below (suc n) p = all_below n p && p n

abbrev pub modes_eq : Modes → Modes → Bool
modes_eq m n =
    bool_eq m.keypad n.keypad && (bool_eq m.cursor_keys n.cursor_keys && (bool_eq m.paste n.paste
    && ((mouse_number m.mouse == mouse_number n.mouse) && (encoding_number m.encoding == encoding_number n.encoding))))

-- whether two screens of this size show the same: cells, wrapped rows, cursor, attributes, modes and cursor style
unfoldable pub same_shown : Size → Shown → Shown → Bool
same_shown z s t =
    all_below z.rows (λ r. all_below z.cols (λ k. cell_eq (s.cell r k) (t.cell r k)))
    && (all_below z.rows (λ r. bool_eq (s.wrapped r) (t.wrapped r))
    && ((s.row == t.row) && ((s.col == t.col) && (bool_eq s.hidden t.hidden && (attrs_eq s.attrs t.attrs
    && (modes_eq s.modes t.modes && (style_number s.style == style_number t.style)))))))

-- if the comparison calls two screens of one size the same, they show the same
abbrev pub EachSameIsOne : Type 0
EachSameIsOne = (z : Size) (s t : Shown) → IsShown z s → IsShown z t → same_shown z s t ≡ true → s ≡ t

-- the comparison calls a screen the same as itself
abbrev pub EachOneIsSame : Type 0
EachOneIsSame = (z : Size) (s : Shown) → same_shown z s s ≡ true

-- ---- answers

-- a client: the bytes that wait for it, and what was shown at its last frame
pub record ClientState : Type 0 where
  pub owed : List ℕ
  pub base : Option Shown

-- whether the answer brings a frame
abbrev pub is_frame : Answer → Bool
is_frame Full = true
is_frame Difference = true
is_frame Unsure = true
is_frame Unchanged = false
is_frame Behind = false
is_frame Held = false
is_frame TooLong = false

-- the answer if no bytes are pending, the program is in no synchronized update and the present screen is sure
abbrev pub due_from : Size → Shown → Option Shown → Answer
due_from z now None = Full
due_from z now (Some base) =
    if is_unsure z base then Full
    else if same_shown z base now then Unchanged
    else Difference

-- the answer if no bytes are pending and the program is in no synchronized update
abbrev pub due : Size → Shown → Option Shown → Answer
due z now base = if is_unsure z now then Unsure else due_from z now base

-- the answer is `Held` while the program is in a synchronized update of its own
abbrev pub unless_updating : State → Answer → Answer
unless_updating now answer = if now.updating then Held else answer

-- the answer to a client for which these bytes wait, if a frame could have any length
abbrev pub wanted_to : State → Option Shown → List ℕ → Answer
wanted_to now base [] = unless_updating now (due (grid_size now.shown) (shown_state now) base)
wanted_to now base (b ∷ bs) = Behind

abbrev pub wanted_of : State → ClientState → Answer
wanted_of now c = wanted_to now c.base c.owed

-- the longest frame, in bytes: what a terminal buffers of a synchronized update, and then parses as a whole
abbrev pub longest_frame : ℕ
longest_frame = 2097150

-- whether a frame's text is longer than that
abbrev pub is_too_long : Size → Shown → Option Shown → Bool
is_too_long z now base = nat_lt longest_frame (length (frame_text z base now))

-- the answer is `TooLong` if it would bring a frame that is too long
abbrev pub unless_too_long : Size → Shown → Option Shown → Answer → Answer
unless_too_long z now base answer = if is_frame answer && is_too_long z now base then TooLong else answer

-- the answer to a client for which these bytes wait
abbrev pub answer_to : State → Option Shown → List ℕ → Answer
answer_to now base [] =
    unless_updating now (unless_too_long (grid_size now.shown) (shown_state now) base
    (due (grid_size now.shown) (shown_state now) base))
answer_to now base (b ∷ bs) = Behind

-- the answer to a client, if the program's screen is in this state
abbrev pub answer_for : State → ClientState → Answer
answer_for now c = answer_to now c.base c.owed

-- whether the request may allocate memory: it does for a frame's text, also if that turns out too long
abbrev pub may_allocate : Answer → Bool
may_allocate TooLong = true
may_allocate answer = is_frame answer

-- the client after that answer
abbrev pub after_answer : Size → Shown → ClientState → Answer → ClientState
after_answer z now c answer =
    if is_frame answer then record { owed = c.owed ++ frame_text z c.base now; base = Some now } else c

-- ---- examples, of one cell

abbrev pub one_cell : Size
one_cell = record { rows = 1; cols = 1 }

-- a cell that asks for an emoji
abbrev pub emoji : Shown
emoji = record blank_shown { cell = λ r k. record default_cell { text = 0x2764 ∷ 0xFE0F ∷ [] } }

-- a blank screen with its cursor moved by a column
abbrev pub moved : Shown
moved = record blank_shown { col = 1 }

abbrev pub answer_after : Option Shown → Shown → Answer
answer_after base now = due one_cell now base

-- the answers on screens of one cell, and the order of the tests on any screen
pub record EachExampleIsAnswered : Type 0 where
  pub first : answer_after None blank_shown ≡ Full
  pub same : answer_after (Some blank_shown) blank_shown ≡ Unchanged
  pub changed : answer_after (Some blank_shown) moved ≡ Difference
  pub unsure : answer_after (Some blank_shown) emoji ≡ Unsure
  pub again : answer_after (Some emoji) emoji ≡ Unsure
  pub sure_again : answer_after (Some emoji) moved ≡ Full
  -- pending bytes come first, then the program's update, then what is due, unless it is too long
  pub owed : (now : State) (base : Option Shown) → answer_for now (record { owed = 0 ∷ []; base = base }) ≡ Behind
  pub held : (now : State) (base : Option Shown) → now.updating ≡ true
      → answer_for now (record { owed = []; base = base }) ≡ Held
  pub none_owed : (now : State) (base : Option Shown) → now.updating ≡ false
      → is_too_long (grid_size now.shown) (shown_state now) base ≡ false
      → answer_for now (record { owed = []; base = base }) ≡ due (grid_size now.shown) (shown_state now) base
  pub none_due : (now : State) (base : Option Shown) → now.updating ≡ false
      → is_frame (due (grid_size now.shown) (shown_state now) base) ≡ false
      → answer_for now (record { owed = []; base = base }) ≡ due (grid_size now.shown) (shown_state now) base
  pub too_long : (now : State) (base : Option Shown) → now.updating ≡ false
      → is_frame (due (grid_size now.shown) (shown_state now) base) ≡ true
      → is_too_long (grid_size now.shown) (shown_state now) base ≡ true
      → answer_for now (record { owed = []; base = base }) ≡ TooLong
  pub held_takes_none : may_allocate Held ≡ false
  pub too_long_takes : may_allocate TooLong ≡ true

-- ---- small screens

-- no frame of a screen of at most 2,000 cells is too long
abbrev pub EachSmallScreenFits : Type 0
EachSmallScreenFits = (now : State) (c : ClientState) → HasByteBase c.base
    → IsSmallScreen (grid_size now.shown) (shown_state now)
    → (grid_size now.shown).rows * (grid_size now.shown).cols ≤ 2000 → answer_for now c ≢ TooLong
