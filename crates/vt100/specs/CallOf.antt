-- What a call says.
use Rattle.std.specs.Prelude.{map}
use Rattle.screen_model.specs.Call as said
use Rattle.vt100.specs.declared.callbacks.Call.{Call}
use Rattle.vt100.specs.declared.callbacks.Call.TheVariants as v

abbrev pub call_of : Call → said.Call
call_of v.AudibleBell = said.audible_bell
call_of v.VisualBell = said.visual_bell
call_of (v.Resize rows cols) = said.resize rows cols
call_of (v.SetWindowIconName name) = said.set_window_icon_name name.now
call_of (v.SetWindowTitle title) = said.set_window_title title.now
call_of (v.CopyToClipboard ty bytes) = said.copy_to_clipboard ty.now bytes.now
call_of (v.PasteFromClipboard ty) = said.paste_from_clipboard ty.now
call_of (v.UnhandledChar c) = said.unhandled_char c
call_of (v.UnhandledControl b) = said.unhandled_control b
call_of (v.UnhandledEscape i1 i2 b) = said.unhandled_escape i1 i2 b
call_of (v.UnhandledCsi i1 i2 params c) = said.unhandled_csi i1 i2 (map (λ g. g.now) params.now) c
call_of (v.UnhandledOsc params) = said.unhandled_osc (map (λ p. p.now) params.now)
