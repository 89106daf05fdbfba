-- What a parser is, and its state after some bytes.
use Rattle.std.specs.Prelude.{◌≡◌, ℕ, List}
use Rattle.vte_core.specs.declared.parser.Parser.{Parser}
use Rattle.vte_core.specs.Standing.{IsAfter}
use Rattle.screen_model.specs.Call.{Call, ScreenView}
use Rattle.screen_model.specs.Made.{Act, bytes_fed, made}
use Rattle.vt100.specs.Tries.{alive}

-- what reads the bytes, the screen, and the callbacks
pub record ParserView (C : Type 0) : Type 0 where
  pub reader : Parser 1024
  pub screen : ScreenView
  pub callbacks : C

-- these bytes have been read
abbrev pub HasRead : {C : Type 0} → ParserView C → List ℕ → Type 0
HasRead p past = IsAfter 1024 p.reader past

-- these acts have been done to a new parser of this size, which keeps at most `capacity` rows
pub record ParserIsAfter {C : Type 0} (p : ParserView C) (rows cols capacity : ℕ) (acts : List Act) : Type 0 where
  pub has_read : HasRead p (bytes_fed acts)
  pub screen : p.screen ≡ alive (made rows cols capacity acts)

-- calls leave the screen as it is
abbrev pub KeepsScreens : {C : Type 0} → (C → ScreenView → Call → C → ScreenView → Type 0) → Type 0
KeepsScreens {C} step = (c : C) (v : ScreenView) (k : Call) (d : C) (w : ScreenView) → step c v k d w → w ≡ v
