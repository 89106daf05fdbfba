-- The calls of control sequences.
use Rattle.std.specs.Prelude.{ℕ, pos, ◌-◌, ◌%◌, Bool, true, false, ◌&&◌, List, [], ◌∷◌, Option, Some, None, nat_eq}
use Rattle.std.specs.Prelude.{if◌then◌else◌, map, replicate, unwrap_or}
use Rattle.vte_types.specs.Call as call
use Rattle.vte_types.specs.Call.{Call}
use Rattle.vte_types.specs.Lookup.{lookup}
use Rattle.vte_types.specs.Mode.{mode_of, private_mode_of}
use Rattle.vte_types.specs.declared.clear.ClearMode.TheVariants as screen
use Rattle.vte_types.specs.declared.clear.LineClearMode.TheVariants as line
use Rattle.vte_types.specs.declared.clear.TabulationClearMode.TheVariants as tabs
use Rattle.vte_types.specs.declared.cursor.CursorShape.{CursorShape}
use Rattle.vte_types.specs.declared.cursor.CursorShape.TheVariants as shape
use Rattle.vte_types.specs.declared.keyboard.KeyboardModes.{KeyboardModes}
use Rattle.vte_types.specs.declared.keyboard.KeyboardModesApplyBehavior.{KeyboardModesApplyBehavior}
use Rattle.vte_types.specs.declared.keyboard.KeyboardModesApplyBehavior.TheVariants as apply
use Rattle.vte_types.specs.declared.keyboard.ModifyOtherKeys.TheVariants as keys
use Rattle.vte_types.specs.declared.scp.ScpCharPath.{ScpCharPath}
use Rattle.vte_types.specs.declared.scp.ScpCharPath.TheVariants as path
use Rattle.vte_types.specs.declared.scp.ScpUpdateMode.{ScpUpdateMode}
use Rattle.vte_types.specs.declared.scp.ScpUpdateMode.TheVariants as update
use Rattle.vte.specs.Escape.{calls_at}
use Rattle.vte.specs.Sgr.{first, attributes, nothing}

-- the first number of the next group; the default if there is none, or it is 0
abbrev pub number_or : ℕ → List (List ℕ) → ℕ
number_or d [] = d
number_or d (g ∷ gs) = if nat_eq (first g) 0 then d else first g

-- the groups after the next one
abbrev pub rest : List (List ℕ) → List (List ℕ)
rest [] = []
rest (g ∷ gs) = gs

abbrev pub nonzero : ℕ → Option ℕ
nonzero n = if nat_eq n 0 then None else Some n

-- DA (c), which may have any intermediates: the first of them
abbrev pub first_mark : List ℕ → Option ℕ
first_mark [] = None
first_mark (x ∷ ms) = Some x

abbrev pub identify_calls : List (List ℕ) → List ℕ → List Call
identify_calls gs ms = if nat_eq (number_or 0 gs) 0 then call.identify_terminal (first_mark ms) ∷ [] else []

-- final bytes that take a count: @ P X A B e C a D E F L M S T I Z
abbrev pub counted_rows : List (ℕ × (ℕ → Call))
counted_rows =
    (64, call.insert_blank) ∷ (80, call.delete_chars) ∷ (88, call.erase_chars)
    ∷ (65, call.move_up) ∷ (66, call.move_down) ∷ (101, call.move_down) ∷ (67, call.move_forward)
    ∷ (97, call.move_forward) ∷ (68, call.move_backward)
    ∷ (69, call.move_down_and_cr) ∷ (70, call.move_up_and_cr) ∷ (76, call.insert_blank_lines) ∷ (77, call.delete_lines)
    ∷ (83, call.scroll_up) ∷ (84, call.scroll_down) ∷ (73, call.move_forward_tabs) ∷ (90, call.move_backward_tabs) ∷ []

-- ED (J)
abbrev pub clear_screen_rows : List (ℕ × List Call)
clear_screen_rows = (0, call.clear_screen screen.Below ∷ []) ∷ (1, call.clear_screen screen.Above ∷ [])
    ∷ (2, call.clear_screen screen.All ∷ []) ∷ (3, call.clear_screen screen.Saved ∷ []) ∷ []

-- EL (K)
abbrev pub clear_line_rows : List (ℕ × List Call)
clear_line_rows = (0, call.clear_line line.Right ∷ []) ∷ (1, call.clear_line line.Left ∷ [])
    ∷ (2, call.clear_line line.All ∷ []) ∷ []

-- TBC (g)
abbrev pub clear_tabs_rows : List (ℕ × List Call)
clear_tabs_rows = (0, call.clear_tabs tabs.Current ∷ []) ∷ (3, call.clear_tabs tabs.All ∷ []) ∷ []

-- window operations (t, xterm's)
abbrev pub window_rows : List (ℕ × List Call)
window_rows = (14, call.text_area_size_pixels ∷ []) ∷ (18, call.text_area_size_chars ∷ []) ∷ (22, call.push_title ∷ [])
    ∷ (23, call.pop_title ∷ []) ∷ []

-- REP (b), with the last printed character
abbrev pub repeat_calls : Option ℕ → ℕ → List Call
repeat_calls None n = []
repeat_calls (Some x) n = replicate n (call.input x)

-- final bytes that read their groups in ways of their own: J K g h l m n t b
abbrev pub uncounted_rows : List (ℕ × (Option ℕ → List (List ℕ) → List Call))
uncounted_rows =
    (74, λ last gs. calls_at (number_or 0 gs) clear_screen_rows)
    ∷ (75, λ last gs. calls_at (number_or 0 gs) clear_line_rows)
    ∷ (103, λ last gs. calls_at (number_or 0 gs) clear_tabs_rows)
    ∷ (104, λ last gs. map (λ g. call.set_mode (mode_of (first g))) gs)
    ∷ (108, λ last gs. map (λ g. call.unset_mode (mode_of (first g))) gs)
    ∷ (109, λ last gs. map call.terminal_attribute (attributes nothing gs))
    ∷ (110, λ last gs. call.device_status (number_or 0 gs) ∷ [])
    ∷ (116, λ last gs. calls_at (number_or 1 gs) window_rows)
    ∷ (98, λ last gs. repeat_calls last (number_or 1 gs)) ∷ []

-- final bytes that set the cursor's place, the scroll region or the saved cursor: G and backquote, d, H and f, r, s, u
abbrev pub placing_rows : List (ℕ × (List (List ℕ) → Call))
placing_rows =
    (71, λ gs. call.goto_col (number_or 1 gs - 1)) ∷ (96, λ gs. call.goto_col (number_or 1 gs - 1))
    ∷ (100, λ gs. call.goto_line (pos (number_or 1 gs - 1)))
    ∷ (72, λ gs. call.goto (pos (number_or 1 gs - 1)) (number_or 1 (rest gs) - 1))
    ∷ (102, λ gs. call.goto (pos (number_or 1 gs - 1)) (number_or 1 (rest gs) - 1))
    ∷ (114, λ gs. call.set_scrolling_region (number_or 1 gs) (nonzero (number_or 0 (rest gs))))
    ∷ (115, λ gs. call.save_cursor_position) ∷ (117, λ gs. call.restore_cursor_position) ∷ []

abbrev pub placing_calls : Option (List (List ℕ) → Call) → List (List ℕ) → List Call
placing_calls None gs = []
placing_calls (Some placing) gs = placing gs ∷ []

abbrev pub uncounted_calls : Option (Option ℕ → List (List ℕ) → List Call) → Option ℕ → List (List ℕ) → ℕ → List Call
uncounted_calls None last gs f = placing_calls (lookup f placing_rows) gs
uncounted_calls (Some uncounted) last gs f = uncounted last gs

abbrev pub counted_calls : Option (ℕ → Call) → Option ℕ → List (List ℕ) → ℕ → List Call
counted_calls None last gs f = uncounted_calls (lookup f uncounted_rows) last gs f
counted_calls (Some counted) last gs f = counted (number_or 1 gs) ∷ []

-- without intermediates
abbrev pub unmarked_calls : Option ℕ → List (List ℕ) → ℕ → List Call
unmarked_calls last gs f = counted_calls (lookup f counted_rows) last gs f

-- the keyboard modes of a number's low 8 bits; bits without a mode are dropped
abbrev pub keyboard_modes : ℕ → KeyboardModes
keyboard_modes n = record { 0 = n % 32 }

abbrev pub behaviour_of : ℕ → KeyboardModesApplyBehavior
behaviour_of n = unwrap_or (lookup n ((2, apply.Union) ∷ (3, apply.Difference) ∷ [])) apply.Replace

-- the first group is the number 4 only
abbrev pub asks_four : List (List ℕ) → Bool
asks_four [] = false
asks_four ([] ∷ gs) = false
asks_four ((n ∷ []) ∷ gs) = nat_eq n 4
asks_four ((n ∷ m ∷ ns) ∷ gs) = false

-- after ?: h l W m u
abbrev pub question_rows : List (ℕ × (List (List ℕ) → List Call))
question_rows =
    (104, λ gs. map (λ g. call.set_private_mode (private_mode_of (first g))) gs)
    ∷ (108, λ gs. map (λ g. call.unset_private_mode (private_mode_of (first g))) gs)
    ∷ (87, λ gs. if nat_eq (number_or 0 gs) 5 then call.set_tabs 8 ∷ [] else [])
    ∷ (109, λ gs. if asks_four gs then call.report_modify_other_keys ∷ [] else [])
    ∷ (117, λ gs. call.report_keyboard_mode ∷ []) ∷ []

-- after >: m u
abbrev pub other_keys_rows : List (ℕ × List Call)
other_keys_rows =
    (0, call.set_modify_other_keys keys.Reset ∷ []) ∷ (1, call.set_modify_other_keys keys.EnableExceptWellDefined ∷ [])
    ∷ (2, call.set_modify_other_keys keys.EnableAll ∷ []) ∷ []

abbrev pub greater_rows : List (ℕ × (List (List ℕ) → List Call))
greater_rows =
    (109, λ gs. if nat_eq (number_or 0 gs) 4 then calls_at (number_or 0 (rest gs)) other_keys_rows else [])
    ∷ (117, λ gs. call.push_keyboard_mode (keyboard_modes (number_or 0 gs)) ∷ []) ∷ []

-- after =: u
abbrev pub equals_rows : List (ℕ × (List (List ℕ) → List Call))
equals_rows = (
  117,
  λ gs. call.set_keyboard_mode (keyboard_modes (number_or 0 gs))
      (behaviour_of (number_or 0 (rest gs))) ∷ [],
) ∷ []

-- after <: u
abbrev pub less_rows : List (ℕ × (List (List ℕ) → List Call))
less_rows = (117, λ gs. call.pop_keyboard_modes (number_or 1 gs) ∷ []) ∷ []

-- after a space: k q
abbrev pub char_path : ℕ → Option ScpCharPath
char_path n = lookup n ((0, path.Default) ∷ (1, path.LTR) ∷ (2, path.RTL) ∷ [])

abbrev pub update_mode : ℕ → Option ScpUpdateMode
update_mode n = lookup n ((0, update.ImplementationDependant) ∷ (1, update.DataToPresentation)
    ∷ (2, update.PresentationToData) ∷ [])

abbrev pub scp_calls : Option ScpCharPath → Option ScpUpdateMode → List Call
scp_calls None u = []
scp_calls (Some p) None = []
scp_calls (Some p) (Some u) = call.set_scp p u ∷ []

abbrev pub styled : CursorShape → Bool → List Call
styled s blinks = call.set_cursor_style (Some (record { shape = s; blinking = blinks })) ∷ []

abbrev pub style_rows : List (ℕ × List Call)
style_rows =
    (0, call.set_cursor_style None ∷ []) ∷ (1, styled shape.Block true) ∷ (2, styled shape.Block false)
    ∷ (3, styled shape.Underline true)
    ∷ (4, styled shape.Underline false) ∷ (5, styled shape.Beam true) ∷ (6, styled shape.Beam false) ∷ []

abbrev pub space_rows : List (ℕ × (List (List ℕ) → List Call))
space_rows =
    (107, λ gs. scp_calls (char_path (number_or 0 gs)) (update_mode (number_or 0 (rest gs))))
    ∷ (113, λ gs. calls_at (number_or 0 gs) style_rows) ∷ []

-- after $: p
abbrev pub dollar_rows : List (ℕ × (List (List ℕ) → List Call))
dollar_rows = (112, λ gs. call.report_mode (mode_of (number_or 0 gs)) ∷ []) ∷ []

-- after ? and $: p
abbrev pub question_dollar_rows : List (ℕ × (List (List ℕ) → List Call))
question_dollar_rows = (112, λ gs. call.report_private_mode (private_mode_of (number_or 0 gs)) ∷ []) ∷ []

-- the calls of a final byte's row; none if it has no row
abbrev pub calls_by : ℕ → List (ℕ × (List (List ℕ) → List Call)) → List (List ℕ) → List Call
calls_by f rows gs = unwrap_or (lookup f rows) (λ gs. []) gs

-- after one intermediate: ? > = < space $
abbrev pub marked_rows : List (ℕ × List (ℕ × (List (List ℕ) → List Call)))
marked_rows =
    (63, question_rows) ∷ (62, greater_rows) ∷ (61, equals_rows) ∷ (60, less_rows) ∷ (32, space_rows)
    ∷ (36, dollar_rows) ∷ []

abbrev pub marked_calls : Option ℕ → List (List ℕ) → List ℕ → ℕ → List Call
marked_calls last gs [] f = unmarked_calls last gs f
marked_calls last gs (x ∷ []) f = calls_by f (unwrap_or (lookup x marked_rows) []) gs
marked_calls last gs (x ∷ y ∷ []) f = if nat_eq x 63 && nat_eq y 36 then calls_by f question_dollar_rows gs else []
marked_calls last gs (x ∷ y ∷ z ∷ ms) f = []

-- the calls of a control sequence: last printed character, groups, intermediates, final byte
abbrev pub csi_calls : Option ℕ → List (List ℕ) → List ℕ → ℕ → List Call
csi_calls last gs ms f = if nat_eq f 99 then identify_calls gs ms else marked_calls last gs ms f

-- a group that opens an update
abbrev pub opens_group : List ℕ → Bool
opens_group g = nat_eq (first g) 2026

-- the groups of DECSET (?h); those that begin with 2026 open an update
abbrev pub opening_groups : List (List ℕ) → List ℕ → ℕ → List (List ℕ)
opening_groups gs [] f = []
opening_groups gs (x ∷ []) f = if nat_eq x 63 && nat_eq f 104 then gs else []
opening_groups gs (x ∷ y ∷ ms) f = []
