-- Characters that are printed one after another.
use Rattle.std.specs.Prelude.{◌≡◌, ℕ, Bool, false, List, [], ◌∷◌, ◌++◌, map, Option, Some}
use Rattle.std.specs.Str.{chars}
use Rattle.vte_core.specs.Event.{Print}
use Rattle.vt100_rows.specs.Row.{RowView}
use Rattle.screen_model.specs.State.{State}
use Rattle.screen_model.specs.Step.{Stepped, quietly, typed}
use Rattle.screen_model.specs.Call.{Call, ScreenView}
use Rattle.screen_model.specs.Effect.{is_unhandled}
use Rattle.vt100.specs.Goes.{GoesThrough}

-- characters, one after another
abbrev pub typed_all : List ℕ → State → Stepped
typed_all [] s = quietly s
typed_all (c ∷ cs) s =
    let first = typed c s in
    let others = typed_all cs first.state in
    record { state = others.state; reports = first.reports ++ others.reports }

-- the last of the characters, or this one if there are no characters
abbrev pub last_of : List ℕ → Option ℕ → Option ℕ
last_of [] last = last
last_of (c ∷ cs) last = last_of cs (Some c)

-- a character that is printed, and not reported as unhandled
abbrev pub IsHandled : ℕ → Type 0
IsHandled c = is_unhandled c ≡ false

-- callbacks c and a screen v have gone through the printing of the characters at the start of a text, of which these
-- bytes are left, and are d and w
abbrev pub PrintsPrefix : {C : Type 0} → (C → ScreenView → Call → C → ScreenView → Type 0)
    → (C → RowView → Bool → C → Type 0) → List ℕ → List ℕ → C → ScreenView → C → ScreenView → Type 0
PrintsPrefix step scrolls text left c v d w =
    (prefix : List ℕ) × (chars text ≡ prefix ++ chars left) × GoesThrough step scrolls (map Print prefix) c v d w
