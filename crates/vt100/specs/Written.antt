-- What calls return that write what a screen shows as forms.
use Rattle.std.specs.Prelude.{◌≡◌, ◌≤◌, ◌++◌, ℕ, List, [], length, Result, IfOk, OnOk, OnErr, IsOk, Err}
use Rattle.std.specs.Prelude.{String, string_bytes}
use Rattle.vt100_forms.specs.Form.{Form, bytes_of}
use Rattle.terminal_model.specs.Term.{Size, Shown}
use Rattle.vt100_core.specs.Picture.{grid_size}
use Rattle.vt100_core.specs.Writers.{RefusedForms}
use Rattle.screen_model.specs.State.{State, IsState}
use Rattle.screen_model.specs.Shown.{shown_state}
use Rattle.vt100.specs.WriterLaws.{IsUnscrolled, IsPlainlyShown}
use Rattle.vt100.specs.FormLists.{IsShortText, IsLocalText}
use Rattle.vt100.specs.declared.error.ScreenError.{ScreenError}
use Rattle.vt100.specs.declared.error.ScreenError.TheVariants.{Memory}

-- the text of a screen's forms, as `GivesRedraw` has it
pub record IsRedraw (forms : State → List Form) (pictured : Size → Shown → List Form) (more : ℕ) (s : State)
    (text : List ℕ) : Type 0 where
  pub written : text ≡ bytes_of (forms s)
  pub shown : IsUnscrolled s → text ≡ bytes_of (pictured (grid_size s.shown) (shown_state s))
  pub short : IsState s → IsShortText (grid_size s.shown) more text

-- the text of what differs from an earlier screen, as `GivesDifference` has it
pub record IsDifference (forms : State → State → List Form) (pictured : Size → Shown → Shown → List Form)
    (more : ℕ) (old new : State) (text : List ℕ) : Type 0 where
  pub written : text ≡ bytes_of (forms old new)
  pub shown : IsUnscrolled old → IsUnscrolled new → grid_size old.shown ≡ grid_size new.shown
      → text ≡ bytes_of (pictured (grid_size new.shown) (shown_state old) (shown_state new))
  pub short : IsState new → IsShortText (grid_size new.shown) more text
  pub local : IsUnscrolled old → IsUnscrolled new → grid_size old.shown ≡ grid_size new.shown
      → IsPlainlyShown (shown_state new)
      → IsLocalText (forms old new) (grid_size new.shown) (shown_state old) (shown_state new) text

module _ {Z : Type 0} where
  -- forms are appended to a text, unless there is no memory for them
  abbrev pub Writes : {A E : Type 0} → List Form → String Z → Result A E → String Z → Type 0
  Writes forms old result new = OnOk result (string_bytes new ≡ string_bytes old ++ bytes_of forms)

  -- the text of forms, of at most `most` bytes; an empty one takes no memory
  pub record GivesModes (forms : List Form) (most : ℕ) (result : Result (String Z) ScreenError) : Type 0 where
    pub text : IfOk result (λ string. string_bytes string ≡ bytes_of forms)
    pub short : IfOk result (λ string. length (string_bytes string) ≤ most)
    pub memory : OnErr result (result ≡ Err Memory)
    pub empty : bytes_of forms ≡ [] → IsOk result

  -- the text of a screen's forms, with at most `more` bytes beyond 1,024 a cell: where no kept row is shown, the
  -- forms of its picture
  pub record GivesRedraw (forms : State → List Form) (pictured : Size → Shown → List Form) (more : ℕ) (s : State)
      (result : Result (String Z) ScreenError) : Type 0 where
    pub text : IfOk result (λ string. string_bytes string ≡ bytes_of (forms s))
    pub shown : IsUnscrolled s
        → IfOk result (λ string. string_bytes string ≡ bytes_of (pictured (grid_size s.shown) (shown_state s)))
    pub short : IsState s → IfOk result (λ string. IsShortText (grid_size s.shown) more (string_bytes string))
    pub memory : OnErr result (result ≡ Err Memory)

  -- the same for what differs from an earlier screen: where both have one size and show no kept row, the forms are
  -- those of their pictures, and where no cell shows U+FE0F, they touch local cells; an empty text takes no memory
  pub record GivesDifference (forms : State → State → List Form) (pictured : Size → Shown → Shown → List Form)
      (more : ℕ) (old new : State) (result : Result (String Z) ScreenError) : Type 0 where
    pub text : IfOk result (λ string. string_bytes string ≡ bytes_of (forms old new))
    pub shown : IsUnscrolled old → IsUnscrolled new → grid_size old.shown ≡ grid_size new.shown
        → IfOk result (λ string. string_bytes string
        ≡ bytes_of (pictured (grid_size new.shown) (shown_state old) (shown_state new)))
    pub short : IsState new → IfOk result (λ string. IsShortText (grid_size new.shown) more (string_bytes string))
    pub local : IsUnscrolled old → IsUnscrolled new → grid_size old.shown ≡ grid_size new.shown
        → IsPlainlyShown (shown_state new)
        → IfOk result (λ string. IsLocalText (forms old new) (grid_size new.shown) (shown_state old) (shown_state new)
        (string_bytes string))
    pub memory : OnErr result (result ≡ Err Memory)
    pub empty : bytes_of (forms old new) ≡ [] → IsOk result

  -- ---- texts that are appended

  -- it is appended to a text, unless it doesn't fit in the text's capacity and there is no memory for more
  pub record AppendsRedraw (forms : State → List Form) (pictured : Size → Shown → List Form) (more : ℕ) (s : State)
      (before : String Z) (result : Result (Unit {0}) ScreenError) (after : String Z) : Type 0 where
    pub text : OnOk result (string_bytes after ≡ string_bytes before ++ bytes_of (forms s))
    pub redraw : IsRedraw forms pictured more s (bytes_of (forms s))
    pub memory : OnErr result (result ≡ Err Memory)
    pub refused : OnErr result (RefusedForms (forms s) before after)

  -- it is appended to a text, unless it doesn't fit in the text's capacity and there is no memory for more
  pub record AppendsDifference (forms : State → State → List Form) (pictured : Size → Shown → Shown → List Form)
      (more : ℕ) (old new : State) (before : String Z) (result : Result (Unit {0}) ScreenError) (after : String Z)
      : Type 0 where
    pub text : OnOk result (string_bytes after ≡ string_bytes before ++ bytes_of (forms old new))
    pub difference : IsDifference forms pictured more old new (bytes_of (forms old new))
    pub memory : OnErr result (result ≡ Err Memory)
    pub refused : OnErr result (RefusedForms (forms old new) before after)
    pub empty : bytes_of (forms old new) ≡ [] → IsOk result
