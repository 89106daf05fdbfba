-- The definition's call for each value of the code's `Call`.
use Rattle.std.specs.Option.{option_map}
use Rattle.vte_types.specs.Call as said
use Rattle.vte_types.specs.Call.{link_of}
use Rattle.vte_types.specs.declared.call.Call.{Call}
use Rattle.vte_types.specs.declared.call.Call.TheVariants as v

abbrev pub call_of : Call → said.Call
call_of (v.SetTitle title) = said.set_title (option_map (λ t. t.now) title)
call_of (v.SetCursorStyle style) = said.set_cursor_style style
call_of (v.SetCursorShape shape) = said.set_cursor_shape shape
call_of (v.Input c) = said.input c
call_of (v.Goto line col) = said.goto line col
call_of (v.GotoLine line) = said.goto_line line
call_of (v.GotoCol col) = said.goto_col col
call_of (v.InsertBlank count) = said.insert_blank count
call_of (v.MoveUp rows) = said.move_up rows
call_of (v.MoveDown rows) = said.move_down rows
call_of (v.IdentifyTerminal intermediate) = said.identify_terminal intermediate
call_of (v.DeviceStatus code) = said.device_status code
call_of (v.MoveForward cols) = said.move_forward cols
call_of (v.MoveBackward cols) = said.move_backward cols
call_of (v.MoveDownAndCr rows) = said.move_down_and_cr rows
call_of (v.MoveUpAndCr rows) = said.move_up_and_cr rows
call_of (v.PutTab count) = said.put_tab count
call_of v.Backspace = said.backspace
call_of v.CarriageReturn = said.carriage_return
call_of v.Linefeed = said.linefeed
call_of v.Bell = said.bell
call_of v.Substitute = said.substitute
call_of v.Newline = said.newline
call_of v.SetHorizontalTabstop = said.set_horizontal_tabstop
call_of (v.ScrollUp rows) = said.scroll_up rows
call_of (v.ScrollDown rows) = said.scroll_down rows
call_of (v.InsertBlankLines count) = said.insert_blank_lines count
call_of (v.DeleteLines count) = said.delete_lines count
call_of (v.EraseChars count) = said.erase_chars count
call_of (v.DeleteChars count) = said.delete_chars count
call_of (v.MoveBackwardTabs count) = said.move_backward_tabs count
call_of (v.MoveForwardTabs count) = said.move_forward_tabs count
call_of v.SaveCursorPosition = said.save_cursor_position
call_of v.RestoreCursorPosition = said.restore_cursor_position
call_of (v.ClearLine mode) = said.clear_line mode
call_of (v.ClearScreen mode) = said.clear_screen mode
call_of (v.ClearTabs mode) = said.clear_tabs mode
call_of (v.SetTabs interval) = said.set_tabs interval
call_of v.ResetState = said.reset_state
call_of v.ReverseIndex = said.reverse_index
call_of (v.TerminalAttribute attr) = said.terminal_attribute attr
call_of (v.SetMode mode) = said.set_mode mode
call_of (v.UnsetMode mode) = said.unset_mode mode
call_of (v.ReportMode mode) = said.report_mode mode
call_of (v.SetPrivateMode mode) = said.set_private_mode mode
call_of (v.UnsetPrivateMode mode) = said.unset_private_mode mode
call_of (v.ReportPrivateMode mode) = said.report_private_mode mode
call_of (v.SetScrollingRegion top bottom) = said.set_scrolling_region top bottom
call_of v.SetKeypadApplicationMode = said.set_keypad_application_mode
call_of v.UnsetKeypadApplicationMode = said.unset_keypad_application_mode
call_of (v.SetActiveCharset index) = said.set_active_charset index
call_of (v.ConfigureCharset index charset) = said.configure_charset index charset
call_of (v.SetColor index color) = said.set_color index color
call_of (v.DynamicColorSequence prefix index terminator) = said.dynamic_color_sequence prefix.now index terminator.now
call_of (v.ResetColor index) = said.reset_color index
call_of (v.ClipboardStore clipboard base64) = said.clipboard_store clipboard base64.now
call_of (v.ClipboardLoad clipboard terminator) = said.clipboard_load clipboard terminator.now
call_of v.Decaln = said.decaln
call_of v.PushTitle = said.push_title
call_of v.PopTitle = said.pop_title
call_of v.TextAreaSizePixels = said.text_area_size_pixels
call_of v.TextAreaSizeChars = said.text_area_size_chars
call_of (v.SetHyperlink link) = said.set_hyperlink (option_map link_of link)
call_of (v.SetMouseCursorIcon icon) = said.set_mouse_cursor_icon icon
call_of v.ReportKeyboardMode = said.report_keyboard_mode
call_of (v.PushKeyboardMode mode) = said.push_keyboard_mode mode
call_of (v.PopKeyboardModes count) = said.pop_keyboard_modes count
call_of (v.SetKeyboardMode mode behavior) = said.set_keyboard_mode mode behavior
call_of (v.SetModifyOtherKeys mode) = said.set_modify_other_keys mode
call_of v.ReportModifyOtherKeys = said.report_modify_other_keys
call_of (v.SetScp char_path update_mode) = said.set_scp char_path update_mode
