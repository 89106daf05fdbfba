-- What each event of a byte stream does to a terminal.
use Rattle.std.specs.Prelude.{ℕ, ◌-◌, ◌==◌, Bool, true, false, ◌&&◌, ◌||◌, List, [], ◌∷◌, Option, Some, None, nat_eq}
use Rattle.std.specs.Prelude.{if◌then◌else◌, replicate, unwrap_or}
use Rattle.std.specs.Int.{is_in_range}
use Rattle.std.specs.List.{list_all}
use Rattle.std.specs.Option.{option_map}
use Rattle.vt100_forms.specs.declared.modes.CursorStyle.{CursorStyle}
use Rattle.vte_core.specs.Event.{Event, Print, Execute, Hook, Put, Unhook, Osc, Csi, Esc}
use Rattle.vt100_forms.specs.declared.modes.CursorStyle.TheVariants as style
use Rattle.screen_model.specs.Lookup.{lookup}
use Rattle.screen_model.specs.State.{State}
use Rattle.screen_model.specs.Call as call
use Rattle.screen_model.specs.Call.{Call}
use Rattle.screen_model.specs.Sgr.{sgr_read}
use Rattle.screen_model.specs.PrivateModes.{modes_set, modes_reset}
use Rattle.screen_model.specs.Step.{Report, Stepped, Partly, quietly, typed, repeated, moved_left, moved_right, tabbed}
use Rattle.screen_model.specs.Step.{at_column, at_row, at_place, cursor_up, cursor_down, line_above, line_below}
use Rattle.screen_model.specs.Step.{line_fed}
use Rattle.screen_model.specs.Step.{line_fed_back, in_region, saved, restored, erased_below, erased_above, erased_all}
use Rattle.screen_model.specs.Step.{erased_kept, erased_right, erased_left, erased_row, cells_erased, cells_added}
use Rattle.screen_model.specs.Step.{cells_taken, lines_added, lines_taken, region_up, region_down, with_keypad}
use Rattle.screen_model.specs.Step.{with_style, made_anew}

-- the state after an event, the rows that have left for good, and the calls that are then made
pub record Effect : Type 0 where
  pub state : State
  pub reports : List Report
  pub calls : List Call

abbrev pub changes : State → Effect
changes s = record { state = s; reports = []; calls = [] }

abbrev pub steps : Stepped → Effect
steps x = record { state = x.state; reports = x.reports; calls = [] }

abbrev pub calling : List Call → State → Effect
calling ks s = record { state = s; reports = []; calls = ks }

abbrev pub effect_or : Option (State → Effect) → Call → State → Effect
effect_or None k s = calling (k ∷ []) s
effect_or (Some f) k s = f s

-- ---- text and controls

-- the replacement character and the controls from U+0080 to U+009F aren't drawn
abbrev pub is_unhandled : ℕ → Bool
is_unhandled c = (c == 0xFFFD) || is_in_range 0x80 0x9F c

abbrev pub print_effect : ℕ → State → Effect
print_effect c s = if is_unhandled c then calling (call.unhandled_char c ∷ []) s else steps (typed c s)

-- BEL, BS, HT, LF, VT, FF, CR; SO and SI do nothing
abbrev pub control_rows : List (ℕ × (State → Effect))
control_rows =
    (7, calling (call.audible_bell ∷ [])) ∷ (8, λ s. changes (moved_left 1 s)) ∷ (9, λ s. changes (tabbed s))
    ∷ (10, λ s. steps (line_fed s)) ∷ (11, λ s. steps (line_fed s)) ∷ (12, λ s. steps (line_fed s))
    ∷ (13, λ s. changes (at_column 0 s))
    ∷ (14, changes) ∷ (15, changes) ∷ []

-- ---- escapes: 7 8 = > M c g

abbrev pub escape_rows : List (ℕ × (State → Effect))
escape_rows =
    (0x37, λ s. changes (saved s)) ∷ (0x38, λ s. changes (restored s)) ∷ (0x3D, λ s. changes (with_keypad true s))
    ∷ (0x3E, λ s. changes (with_keypad false s))
    ∷ (0x4D, λ s. changes (line_fed_back s)) ∷ (0x63, λ s. changes (made_anew s))
    ∷ (0x67, calling (call.visual_bell ∷ [])) ∷ []

abbrev pub first : List ℕ → Option ℕ
first [] = None
first (x ∷ xs) = Some x

abbrev pub second : List ℕ → Option ℕ
second [] = None
second (x ∷ xs) = first xs

abbrev pub escape_effect : List ℕ → ℕ → State → Effect
escape_effect [] b s = effect_or (lookup b escape_rows) (call.unhandled_escape None None b) s
escape_effect (i ∷ is) b s = calling (call.unhandled_escape (Some i) (first is) b ∷ []) s

-- ---- the numbers of a control sequence

-- the first number of the first parameter, if there is one
abbrev pub given : List (List ℕ) → Option ℕ
given [] = None
given (g ∷ gs) = first g

abbrev pub later : List (List ℕ) → List (List ℕ)
later [] = []
later (g ∷ gs) = gs

-- that number; a default if it is absent or 0
abbrev pub number_or : ℕ → List (List ℕ) → ℕ
number_or d gs = if nat_eq (unwrap_or (given gs) 0) 0 then d else unwrap_or (given gs) 0

-- a count or a position: 1 if it is absent or 0
abbrev pub count : List (List ℕ) → ℕ
count gs = number_or 1 gs

-- ---- control sequences

-- the call for an unhandled sequence: the first two intermediates, the parameters and the final byte
abbrev pub csi_call : List ℕ → List (List ℕ) → ℕ → Call
csi_call ms gs b = call.unhandled_csi (first ms) (second ms) gs b

-- ED, EL and DECSCUSR, by their number
abbrev pub display_rows : List (ℕ × (State → Stepped))
display_rows = (0, λ s. quietly (erased_below s)) ∷ (1, λ s. quietly (erased_above s))
    ∷ (2, λ s. quietly (erased_all s)) ∷ (3, erased_kept) ∷ []

abbrev pub line_rows : List (ℕ × (State → Stepped))
line_rows = (0, λ s. quietly (erased_right s)) ∷ (1, λ s. quietly (erased_left s)) ∷ (2, λ s. quietly (erased_row s))
    ∷ []

abbrev pub style_rows : List (ℕ × CursorStyle)
style_rows =
    (0, style.Default) ∷ (1, style.BlinkBlock) ∷ (2, style.SteadyBlock) ∷ (3, style.BlinkUnderline)
    ∷ (4, style.SteadyUnderline)
    ∷ (5, style.BlinkVerticalBar) ∷ (6, style.SteadyVerticalBar) ∷ []

-- the effect of a table's row; unhandled if there is no row
abbrev pub row_partly : Option (State → Stepped) → State → Partly
row_partly None s = record { state = s; reports = []; unhandled = 1 }
row_partly (Some f) s = record { state = (f s).state; reports = (f s).reports; unhandled = 0 }

abbrev pub display_erased : ℕ → State → Partly
display_erased n s = row_partly (lookup n display_rows) s

abbrev pub line_erased : ℕ → State → Partly
line_erased n s = row_partly (lookup n line_rows) s

abbrev pub styled : ℕ → State → Partly
styled n s = row_partly (option_map (λ x t. quietly (with_style x t)) (lookup n style_rows)) s

-- SGR
abbrev pub attributes_read : List (List ℕ) → State → Partly
attributes_read gs s = record {
  state = record s { attrs = (sgr_read gs s.attrs).attrs };
  reports = [];
  unhandled = (sgr_read gs s.attrs).unhandled;
}

-- the effect of a sequence, with the call made once for each part that is unhandled
abbrev pub partly : Partly → Call → Effect
partly x k = record { state = x.state; reports = x.reports; calls = replicate x.unhandled k }

-- window operation 8 asks for a size; an absent number is the screen's own
abbrev pub window_effect : List (List ℕ) → Call → State → Effect
window_effect gs k s =
    if nat_eq (unwrap_or (given gs) 0) 8
    then calling (call.resize (unwrap_or (given (later gs)) s.shown.height)
    (unwrap_or (given (later (later gs))) s.shown.width) ∷ []) s
    else calling (k ∷ []) s

-- final bytes that take a count or a position: @ A B C D E F G H L M P S T X ` b d f r
abbrev pub plain_rows : List (ℕ × (List (List ℕ) → State → Effect))
plain_rows =
    (0x40, λ gs s. changes (cells_added (count gs) s)) ∷ (0x41, λ gs s. changes (cursor_up (count gs) s))
    ∷ (0x42, λ gs s. changes (cursor_down (count gs) s))
    ∷ (0x43, λ gs s. changes (moved_right (count gs) s)) ∷ (0x44, λ gs s. changes (moved_left (count gs) s))
    ∷ (0x45, λ gs s. changes (line_below (count gs) s)) ∷ (0x46, λ gs s. changes (line_above (count gs) s))
    ∷ (0x47, λ gs s. changes (at_column (count gs - 1) s)) ∷ (0x60, λ gs s. changes (at_column (count gs - 1) s))
    ∷ (0x64, λ gs s. changes (at_row (count gs - 1) s))
    ∷ (0x48, λ gs s. changes (at_place (count gs - 1) (count (later gs) - 1) s))
    ∷ (0x66, λ gs s. changes (at_place (count gs - 1) (count (later gs) - 1) s))
    ∷ (0x4C, λ gs s. changes (lines_added (count gs) s)) ∷ (0x4D, λ gs s. changes (lines_taken (count gs) s))
    ∷ (0x50, λ gs s. changes (cells_taken (count gs) s))
    ∷ (0x53, λ gs s. steps (region_up (count gs) s)) ∷ (0x54, λ gs s. changes (region_down (count gs) s))
    ∷ (0x58, λ gs s. changes (cells_erased (count gs) s))
    ∷ (0x62, λ gs s. steps (repeated (count gs) s))
    ∷ (0x72, λ gs s. changes (in_region (count gs - 1) (number_or s.shown.height (later gs) - 1) s)) ∷ []

-- J K m t, which some numbers make unhandled
abbrev pub other_rows : List (ℕ × (List (List ℕ) → Call → State → Effect))
other_rows =
    (0x4A, λ gs k s. partly (display_erased (number_or 0 gs) s) k)
    ∷ (0x4B, λ gs k s. partly (line_erased (number_or 0 gs) s) k)
    ∷ (0x6D, λ gs k s. partly (attributes_read gs s) k) ∷ (0x74, window_effect) ∷ []

-- after `?`: J K h l
abbrev pub private_rows : List (ℕ × (List (List ℕ) → Call → State → Effect))
private_rows =
    (0x4A, λ gs k s. partly (display_erased (number_or 0 gs) s) k)
    ∷ (0x4B, λ gs k s. partly (line_erased (number_or 0 gs) s) k)
    ∷ (0x68, λ gs k s. partly (modes_set gs s) k) ∷ (0x6C, λ gs k s. partly (modes_reset gs s) k) ∷ []

abbrev pub row_effect : Option (List (List ℕ) → Call → State → Effect) → List (List ℕ) → Call → State → Effect
row_effect None gs k s = calling (k ∷ []) s
row_effect (Some f) gs k s = f gs k s

abbrev pub plain_effect : Option (List (List ℕ) → State → Effect) → List (List ℕ) → ℕ → State → Effect
plain_effect None gs b s = row_effect (lookup b other_rows) gs (csi_call [] gs b) s
plain_effect (Some f) gs b s = f gs s

-- Only the first intermediate chooses the table. After a space, the unhandled call leaves it out.
abbrev pub csi_effect : List (List ℕ) → List ℕ → ℕ → State → Effect
csi_effect gs [] b s = plain_effect (lookup b plain_rows) gs b s
csi_effect gs (m ∷ ms) b s =
    if nat_eq m 0x20 then (if nat_eq b 0x71 then partly (styled (number_or 0 gs) s) (csi_call (m ∷ ms) gs b)
    else calling (csi_call [] gs b ∷ []) s)
    else (if nat_eq m 0x3F then row_effect (lookup b private_rows) gs (csi_call (m ∷ ms) gs b) s
    else calling (csi_call (m ∷ ms) gs b ∷ []) s)

-- ---- operating system commands

-- OSC 0, 1 and 2, with one more piece
abbrev pub title_rows : List (ℕ × (List ℕ → List Call))
title_rows =
    (0x30, λ p. call.set_window_icon_name p ∷ call.set_window_title p ∷ [])
    ∷ (0x31, λ p. call.set_window_icon_name p ∷ [])
    ∷ (0x32, λ p. call.set_window_title p ∷ []) ∷ []

-- the letters of clipboards: c p q s, 0 to 7
abbrev pub is_selector : ℕ → Bool
is_selector b = (is_in_range 0x30 0x37 b || (nat_eq b 0x63 || nat_eq b 0x70)) || (nat_eq b 0x71 || nat_eq b 0x73)

-- the characters of base64: letters, digits, + / =
abbrev pub is_base64 : ℕ → Bool
is_base64 b =
    (is_in_range 0x41 0x5A b || (is_in_range 0x61 0x7A b || is_in_range 0x30 0x39 b))
    || (nat_eq b 0x2B || (nat_eq b 0x2F || nat_eq b 0x3D))

abbrev pub is_question : List ℕ → Bool
is_question (b ∷ []) = nat_eq b 0x3F
is_question bs = false

abbrev pub clipboard_calls : List ℕ → List ℕ → Call → List Call
clipboard_calls selectors data_bytes k =
    if list_all is_selector selectors
    then (if is_question data_bytes then call.paste_from_clipboard selectors ∷ []
    else (if list_all is_base64 data_bytes then call.copy_to_clipboard selectors data_bytes ∷ [] else k ∷ []))
    else k ∷ []

abbrev pub title_calls : Option (List ℕ → List Call) → List ℕ → Call → List Call
title_calls None p k = k ∷ []
title_calls (Some f) p k = f p

abbrev pub osc_calls : List (List ℕ) → List Call
osc_calls ((x ∷ []) ∷ p ∷ []) = title_calls (lookup x title_rows) p (call.unhandled_osc ((x ∷ []) ∷ p ∷ []))
osc_calls ((x ∷ y ∷ []) ∷ p ∷ q ∷ []) =
    if nat_eq x 0x35 && nat_eq y 0x32
    then clipboard_calls p q (call.unhandled_osc ((x ∷ y ∷ []) ∷ p ∷ q ∷ []))
    else call.unhandled_osc ((x ∷ y ∷ []) ∷ p ∷ q ∷ []) ∷ []
osc_calls ps = call.unhandled_osc ps ∷ []

-- ---- all events

abbrev pub effect : Event → State → Effect
effect (Print c) s = print_effect c s
effect (Execute b) s = effect_or (lookup b control_rows) (call.unhandled_control b) s
effect (Hook gs ms ignore b) s = changes s
effect (Put b) s = changes s
effect Unhook s = changes s
effect (Osc ps bell) s = calling (osc_calls ps) s
effect (Csi gs ms ignore b) s = csi_effect gs ms b s
effect (Esc ms ignore b) s = escape_effect ms b s
