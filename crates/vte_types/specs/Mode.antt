-- Modes, and the parameters that name them.
use Rattle.std.specs.Prelude.{◌≡◌, ℕ, List, [], ◌∷◌, unwrap_or}
use Rattle.vte_types.specs.Lookup.{lookup}
use Rattle.vte_types.specs.declared.mode.Mode.{Mode}
use Rattle.vte_types.specs.declared.mode.Mode.TheVariants as m
use Rattle.vte_types.specs.declared.mode.NamedMode.{NamedMode}
use Rattle.vte_types.specs.declared.mode.NamedMode.TheVariants as n
use Rattle.vte_types.specs.declared.mode.PrivateMode.{PrivateMode}
use Rattle.vte_types.specs.declared.mode.PrivateMode.TheVariants as p
use Rattle.vte_types.specs.declared.mode.NamedPrivateMode.{NamedPrivateMode}
use Rattle.vte_types.specs.declared.mode.NamedPrivateMode.TheVariants as q

-- the modes with names
abbrev pub mode_rows : List (ℕ × Mode)
mode_rows = (4, m.Named n.Insert) ∷ (20, m.Named n.LineFeedNewLine) ∷ []

abbrev pub private_mode_rows : List (ℕ × PrivateMode)
private_mode_rows =
    (1, p.Named q.CursorKeys) ∷ (3, p.Named q.ColumnMode) ∷ (6, p.Named q.Origin) ∷ (7, p.Named q.LineWrap)
    ∷ (12, p.Named q.BlinkingCursor)
    ∷ (25, p.Named q.ShowCursor) ∷ (1000, p.Named q.ReportMouseClicks) ∷ (1002, p.Named q.ReportCellMouseMotion)
    ∷ (1003, p.Named q.ReportAllMouseMotion)
    ∷ (1004, p.Named q.ReportFocusInOut) ∷ (1005, p.Named q.Utf8Mouse) ∷ (1006, p.Named q.SgrMouse)
    ∷ (1007, p.Named q.AlternateScroll)
    ∷ (1042, p.Named q.UrgencyHints) ∷ (1049, p.Named q.SwapScreenAndSetRestoreCursor)
    ∷ (2004, p.Named q.BracketedPaste)
    ∷ (2026, p.Named q.SyncUpdate) ∷ []

-- the mode that a parameter names
abbrev pub mode_of : ℕ → Mode
mode_of k = unwrap_or (lookup k mode_rows) (m.Unknown k)

abbrev pub private_mode_of : ℕ → PrivateMode
private_mode_of k = unwrap_or (lookup k private_mode_rows) (p.Unknown k)

-- the parameter that names a mode
abbrev pub mode_number : NamedMode → ℕ
mode_number n.Insert = 4
mode_number n.LineFeedNewLine = 20

abbrev pub raw_of : Mode → ℕ
raw_of (m.Named x) = mode_number x
raw_of (m.Unknown k) = k

abbrev pub private_mode_number : NamedPrivateMode → ℕ
private_mode_number q.CursorKeys = 1
private_mode_number q.ColumnMode = 3
private_mode_number q.Origin = 6
private_mode_number q.LineWrap = 7
private_mode_number q.BlinkingCursor = 12
private_mode_number q.ShowCursor = 25
private_mode_number q.ReportMouseClicks = 1000
private_mode_number q.ReportCellMouseMotion = 1002
private_mode_number q.ReportAllMouseMotion = 1003
private_mode_number q.ReportFocusInOut = 1004
private_mode_number q.Utf8Mouse = 1005
private_mode_number q.SgrMouse = 1006
private_mode_number q.AlternateScroll = 1007
private_mode_number q.UrgencyHints = 1042
private_mode_number q.SwapScreenAndSetRestoreCursor = 1049
private_mode_number q.BracketedPaste = 2004
private_mode_number q.SyncUpdate = 2026

abbrev pub private_raw_of : PrivateMode → ℕ
private_raw_of (p.Named x) = private_mode_number x
private_raw_of (p.Unknown k) = k

-- a mode made from a parameter has that parameter
abbrev pub RawIsTheNumber : Type 0
RawIsTheNumber = ((k : ℕ) → raw_of (mode_of k) ≡ k) × ((k : ℕ) → private_raw_of (private_mode_of k) ≡ k)
