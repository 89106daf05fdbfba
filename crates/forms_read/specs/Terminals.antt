-- Terminals that carry out the calls of a handler.
use Rattle.std.specs.Prelude.{ℕ, pos, ◌+◌, ◌-◌, ◌^◌, ◌<◌, ◌≡◌, true, false, min, List, [], ◌∷◌, Option}
use Rattle.std.specs.List.{AllByRecursion}
use Rattle.vte_core.specs.Added.{added}
use Rattle.vte_core.specs.Ground.{AtGround}
use Rattle.vte_types.specs.Call as call
use Rattle.vte_types.specs.Call.{Call}
use Rattle.vte_types.specs.declared.attr.Attr.{Attr}
use Rattle.vte_types.specs.declared.attr.Attr.TheVariants as a
use Rattle.vte_types.specs.declared.clear.ClearMode.TheVariants as screen
use Rattle.vte_types.specs.declared.clear.LineClearMode.TheVariants as line
use Rattle.vte_types.specs.declared.color.NamedColor.TheVariants as n
use Rattle.vte.specs.Performed.{calls_of_all}
use Rattle.vt100_forms.specs.declared.attrs.Attrs.{Attrs}
use Rattle.vt100_forms.specs.declared.attrs.Color.{Color}
use Rattle.vt100_forms.specs.declared.modes.CursorStyle.{CursorStyle}
use Rattle.vt100_forms.specs.declared.modes.MouseProtocolEncoding.{MouseProtocolEncoding}
use Rattle.vt100_forms.specs.declared.modes.MouseProtocolEncoding.TheVariants as encoding
use Rattle.vt100_forms.specs.declared.modes.MouseProtocolMode.{MouseProtocolMode}
use Rattle.vt100_forms.specs.declared.modes.MouseProtocolMode.TheVariants as mouse
use Rattle.vt100_forms.specs.Attrs.{default_attrs, with_bold, with_dim, with_normal_intensity, with_italic, IsByteColor}
use Rattle.vt100_forms.specs.Attrs.{with_underline, with_inverse}
use Rattle.vt100_forms.specs.Form.{Form, ClearScreen, mouse_number, encoding_number, bytes_of}
use Rattle.terminal_model.specs.Term.{Size, Term, IsTerm}
use Rattle.terminal_model.specs.Apply.{erase, input, down, switched, apply, run}
use Rattle.terminal_model.specs.FormText.{IsSentForm}
use Rattle.forms_read.specs.Calls.{color_reported, style_reported, set_call, reset_call, form_calls, form_calls_all}

-- the terminal after some calls, one after another
abbrev pub stepped : (Size → Call → Term → Term) → Size → List Call → Term → Term
stepped step z [] t = t
stepped step z (c ∷ cs) t = stepped step z cs (step z c t)

-- the effect that each attribute must have on the drawing attributes
pub record ReadsAttributes (attribute : Attr → Attrs → Attrs) : Type 0 where
  pub reset : (x : Attrs) → attribute a.Reset x ≡ default_attrs
  pub bold : (x : Attrs) → attribute a.Bold x ≡ with_bold x
  pub dim : (x : Attrs) → attribute a.Dim x ≡ with_dim x
  pub normal : (x : Attrs) → attribute a.CancelBoldDim x ≡ with_normal_intensity x
  pub italic : (x : Attrs) → attribute a.Italic x ≡ with_italic true x
  pub upright : (x : Attrs) → attribute a.CancelItalic x ≡ with_italic false x
  pub underline : (x : Attrs) → attribute a.Underline x ≡ with_underline true x
  pub no_line : (x : Attrs) → attribute a.CancelUnderline x ≡ with_underline false x
  pub inverse : (x : Attrs) → attribute a.Reverse x ≡ with_inverse true x
  pub positive : (x : Attrs) → attribute a.CancelReverse x ≡ with_inverse false x
  pub foreground : (c : Color) (x : Attrs) → IsByteColor c
      → attribute (a.Foreground (color_reported n.Foreground c)) x ≡ record x { fgcolor = c }
  pub background : (c : Color) (x : Attrs) → IsByteColor c
      → attribute (a.Background (color_reported n.Background c)) x ≡ record x { bgcolor = c }

-- the effect that each call of a form must have on a terminal of this size
pub record ReadsCalls (step : Size → Call → Term → Term) (attribute : Attr → Attrs → Attrs) (z : Size) : Type 0 where
  pub prints : (c : ℕ) (t : Term) → (c ≡ 0xFFFD → ⊥) → step z (call.input c) t ≡ input z c t
  pub goto : (r k : ℕ) (t : Term) → step z (call.goto (pos r) k) t ≡ record t {
    row = min r (z.rows - 1);
    col = min k (z.cols - 1);
  }
  pub forward : (k : ℕ) (t : Term) → step z (call.move_forward k) t ≡ record t { col = min (t.col + k) (z.cols - 1) }
  pub backspace : (t : Term) → step z call.backspace t ≡ record t { col = t.col - 1 }
  pub carriage_return : (t : Term) → step z call.carriage_return t ≡ record t { col = 0 }
  pub linefeed : (t : Term) → step z call.linefeed t ≡ down z t
  pub erase_chars : (k : ℕ) (t : Term) → step z (call.erase_chars k) t ≡ erase z (min (t.col + k) z.cols) t
  pub clear_line : (t : Term) → step z (call.clear_line line.Right) t ≡ erase z z.cols t
  -- with the cursor in the first cell, all below it is the whole screen
  pub clear_screen : (t : Term) → IsTerm z t → t.row ≡ 0 → t.col ≡ 0
      → step z (call.clear_screen screen.Below) t ≡ apply z ClearScreen t
  pub saves : (t : Term) → step z call.save_cursor_position t ≡ record t {
    saved_row = t.row;
    saved_col = t.col;
    saved_attrs = t.attrs;
  }
  pub restores : (t : Term) → step z call.restore_cursor_position t ≡ record t {
    row = t.saved_row;
    col = t.saved_col;
    attrs = t.saved_attrs;
  }
  pub attributes : (x : Attr) (t : Term) → step z (call.terminal_attribute x) t ≡ record t {
    attrs = attribute x t.attrs;
  }
  pub style : (s : CursorStyle) (t : Term) → step z (call.set_cursor_style (style_reported s)) t
      ≡ record t { style = s }
  pub keypad : (t : Term) → step z call.set_keypad_application_mode t ≡ record t {
    modes = record (t.modes) { keypad = true };
  }
  pub no_keypad : (t : Term) → step z call.unset_keypad_application_mode t ≡ record t {
    modes = record (t.modes) { keypad = false };
  }
  pub keys : (t : Term) → step z (set_call 1) t ≡ record t { modes = record (t.modes) { cursor_keys = true } }
  pub no_keys : (t : Term) → step z (reset_call 1) t ≡ record t { modes = record (t.modes) { cursor_keys = false } }
  pub hides : (t : Term) → step z (reset_call 25) t ≡ record t { hidden = true }
  pub reveals : (t : Term) → step z (set_call 25) t ≡ record t { hidden = false }
  pub paste : (t : Term) → step z (set_call 2004) t ≡ record t { modes = record (t.modes) { paste = true } }
  pub no_paste : (t : Term) → step z (reset_call 2004) t ≡ record t { modes = record (t.modes) { paste = false } }
  pub mouse_set : (m : MouseProtocolMode) (t : Term) → (m ≡ mouse.None → ⊥)
      → step z (set_call (mouse_number m)) t ≡ record t { modes = record (t.modes) { mouse = m } }
  pub mouse_reset : (m : MouseProtocolMode) (t : Term) → (m ≡ mouse.None → ⊥)
      → step z (reset_call (mouse_number m)) t ≡ record t {
        modes = record (t.modes) { mouse = switched mouse_number mouse.None m t.modes.mouse };
      }
  pub encoding_set : (m : MouseProtocolEncoding) (t : Term) → (m ≡ encoding.Default → ⊥)
      → step z (set_call (encoding_number m)) t ≡ record t { modes = record (t.modes) { encoding = m } }
  pub encoding_reset : (m : MouseProtocolEncoding) (t : Term) → (m ≡ encoding.Default → ⊥)
      → step z (reset_call (encoding_number m)) t ≡ record t {
        modes = record (t.modes) { encoding = switched encoding_number encoding.Default m t.modes.encoding };
      }

-- the size has fewer than 65,536 rows and columns, so that each can be sent
abbrev pub IsSmall : Size → Type 0
IsSmall z = (z.rows < 2 ^ 16) × (z.cols < 2 ^ 16)

-- such a terminal gives each form its effect, also if its text has U+FE0F
abbrev pub EachFormIsStepped : Type 0
EachFormIsStepped = (step : Size → Call → Term → Term) (attribute : Attr → Attrs → Attrs) (z : Size)
    → ReadsCalls step attribute z → ReadsAttributes attribute → IsSmall z → (f : Form) (t : Term) → IsTerm z t
    → IsSentForm f → stepped step z (form_calls f) t ≡ apply z f t

-- such a terminal gives lists of forms their effect
abbrev pub EachListIsStepped : Type 0
EachListIsStepped = (step : Size → Call → Term → Term) (attribute : Attr → Attrs → Attrs) (z : Size)
    → ReadsCalls step attribute z → ReadsAttributes attribute → IsSmall z → (fs : List Form) (t : Term) → IsTerm z t
    → AllByRecursion IsSentForm fs → stepped step z (form_calls_all fs) t ≡ run z fs t

-- such a terminal gives the bytes of forms their effect, after any past that leaves the parser at ground
abbrev pub EachWrittenFormIsStepped : Type 0
EachWrittenFormIsStepped = (step : Size → Call → Term → Term) (attribute : Attr → Attrs → Attrs) (z : Size)
    → ReadsCalls step attribute z → ReadsAttributes attribute → IsSmall z → (k : ℕ) (past : List ℕ) (last : Option ℕ)
    (fs : List Form) (t : Term) → AtGround k past → IsTerm z t → AllByRecursion IsSentForm fs
    → stepped step z (calls_of_all last (added k past (bytes_of fs))) t ≡ run z fs t
