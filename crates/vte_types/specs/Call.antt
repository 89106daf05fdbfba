-- The calls of a handler, without references.
use Rattle.std.specs.Prelude.{ℕ, ℤ, List, [], ◌∷◌, Option, ◌≡◌}
use Rattle.std.specs.Option.{option_map}
use Rattle.vte_types.specs.declared.attr.Attr.{Attr}
use Rattle.vte_types.specs.declared.charset.CharsetIndex.{CharsetIndex}
use Rattle.vte_types.specs.declared.charset.StandardCharset.{StandardCharset}
use Rattle.vte_types.specs.declared.clear.ClearMode.{ClearMode}
use Rattle.vte_types.specs.declared.clear.LineClearMode.{LineClearMode}
use Rattle.vte_types.specs.declared.clear.TabulationClearMode.{TabulationClearMode}
use Rattle.vte_types.specs.declared.cursor.CursorShape.{CursorShape}
use Rattle.vte_types.specs.declared.cursor.CursorStyle.{CursorStyle}
use Rattle.vte_types.specs.declared.cursor_icon.CursorIcon.{CursorIcon}
use Rattle.vte_types.specs.declared.hyperlink.Hyperlink.{Hyperlink}
use Rattle.vte_types.specs.declared.keyboard.KeyboardModes.{KeyboardModes}
use Rattle.vte_types.specs.declared.keyboard.KeyboardModesApplyBehavior.{KeyboardModesApplyBehavior}
use Rattle.vte_types.specs.declared.keyboard.ModifyOtherKeys.{ModifyOtherKeys}
use Rattle.vte_types.specs.declared.mode.Mode.{Mode}
use Rattle.vte_types.specs.declared.mode.PrivateMode.{PrivateMode}
use Rattle.vte_types.specs.declared.rgb.Rgb.{Rgb}
use Rattle.vte_types.specs.declared.scp.ScpCharPath.{ScpCharPath}
use Rattle.vte_types.specs.declared.scp.ScpUpdateMode.{ScpUpdateMode}

-- a hyperlink's texts
pub record Link : Type 0 where
  pub id : Option (List ℕ)
  pub uri : List ℕ

abbrev pub link_of : Hyperlink → Link
link_of h = record { id = option_map (λ t. t.now) h.id; uri = h.uri.now }

-- a call: the method's name, and its arguments in order
pub data Call : Type 0 where
  set_title : (Option (List ℕ)) → Call
  set_cursor_style : (Option CursorStyle) → Call
  set_cursor_shape : CursorShape → Call
  input : ℕ → Call
  goto : ℤ → ℕ → Call
  goto_line : ℤ → Call
  goto_col : ℕ → Call
  insert_blank : ℕ → Call
  move_up : ℕ → Call
  move_down : ℕ → Call
  identify_terminal : (Option ℕ) → Call
  device_status : ℕ → Call
  move_forward : ℕ → Call
  move_backward : ℕ → Call
  move_down_and_cr : ℕ → Call
  move_up_and_cr : ℕ → Call
  put_tab : ℕ → Call
  backspace : Call
  carriage_return : Call
  linefeed : Call
  bell : Call
  substitute : Call
  newline : Call
  set_horizontal_tabstop : Call
  scroll_up : ℕ → Call
  scroll_down : ℕ → Call
  insert_blank_lines : ℕ → Call
  delete_lines : ℕ → Call
  erase_chars : ℕ → Call
  delete_chars : ℕ → Call
  move_backward_tabs : ℕ → Call
  move_forward_tabs : ℕ → Call
  save_cursor_position : Call
  restore_cursor_position : Call
  clear_line : LineClearMode → Call
  clear_screen : ClearMode → Call
  clear_tabs : TabulationClearMode → Call
  set_tabs : ℕ → Call
  reset_state : Call
  reverse_index : Call
  terminal_attribute : Attr → Call
  set_mode : Mode → Call
  unset_mode : Mode → Call
  report_mode : Mode → Call
  set_private_mode : PrivateMode → Call
  unset_private_mode : PrivateMode → Call
  report_private_mode : PrivateMode → Call
  set_scrolling_region : ℕ → (Option ℕ) → Call
  set_keypad_application_mode : Call
  unset_keypad_application_mode : Call
  set_active_charset : CharsetIndex → Call
  configure_charset : CharsetIndex → StandardCharset → Call
  set_color : ℕ → Rgb → Call
  dynamic_color_sequence : (List ℕ) → ℕ → (List ℕ) → Call
  reset_color : ℕ → Call
  clipboard_store : ℕ → (List ℕ) → Call
  clipboard_load : ℕ → (List ℕ) → Call
  decaln : Call
  push_title : Call
  pop_title : Call
  text_area_size_pixels : Call
  text_area_size_chars : Call
  set_hyperlink : (Option Link) → Call
  set_mouse_cursor_icon : CursorIcon → Call
  report_keyboard_mode : Call
  push_keyboard_mode : KeyboardModes → Call
  pop_keyboard_modes : ℕ → Call
  set_keyboard_mode : KeyboardModes → KeyboardModesApplyBehavior → Call
  set_modify_other_keys : ModifyOtherKeys → Call
  report_modify_other_keys : Call
  set_scp : ScpCharPath → ScpUpdateMode → Call

-- a handler with this `step` has received the calls, in order, each once
abbrev pub Calls : {S : Type 0} → (S → Call → S → Type 0) → S → List Call → S → Type 0
Calls step old [] new = new ≡ old
Calls {S} step old (c ∷ cs) new = (mid : S) × step old c mid × Calls step mid cs new
