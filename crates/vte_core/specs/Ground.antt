-- Where a parser that keeps n bytes of an operating system command has nothing unfinished.
use Rattle.std.specs.Prelude.{◌≡◌, ◌≢◌, ℕ, Bool, true, false, ◌||◌, List, [], ◌∷◌, ◌++◌, map, take, length, nat_lt}
use Rattle.std.specs.Prelude.{◌==◌, if◌then◌else◌}
use Rattle.std.specs.Int.{is_in_range}
use Rattle.std.specs.List.{AllByRecursion}
use Rattle.std.specs.Str.{IsUtf8, chars}
use Rattle.vte_core.specs.Event.{Event, Csi, Esc}
use Rattle.vte_core.specs.Bytes.{is_intermediate, is_header}
use Rattle.vte_core.specs.Text.{char_event}
use Rattle.vte_core.specs.Header.{is_well_formed, kept_groups, kept_intermediates, overflows}
use Rattle.vte_core.specs.Shapes.{events}
use Rattle.vte_core.specs.Added.{added}
use Rattle.vte_core.specs.Pending.{pending, InText}

-- at ground: whatever follows these bytes has the events that it has alone
abbrev pub AtGround : ℕ → List ℕ → Type 0
AtGround n past = (bytes : List ℕ) → events n (past ++ bytes) ≡ events n past ++ events n bytes

-- so the bytes add those events
abbrev pub AddsAsAlone : Type 0
AddsAsAlone = (n : ℕ) (past bytes : List ℕ) → AtGround n past → added n past bytes ≡ events n bytes

abbrev pub NothingIsAtGround : Type 0
NothingIsAtGround = (n : ℕ) → AtGround n []

-- bytes that end at ground, after bytes that do
abbrev pub GroundJoins : Type 0
GroundJoins = (n : ℕ) (past bytes : List ℕ) → AtGround n past → AtGround n bytes → AtGround n (past ++ bytes)

-- bytes that begin with ESC and end at ground do so after any others
abbrev pub EscLeavesGround : Type 0
EscLeavesGround = (n : ℕ) (past bytes : List ℕ) → AtGround n (0x1B ∷ bytes) → AtGround n (past ++ 0x1B ∷ bytes)

-- this byte ends at ground after any others
abbrev pub LeadsToGround : ℕ → Type 0
LeadsToGround b = (n : ℕ) (past : List ℕ) → AtGround n (past ++ b ∷ [])

-- `[`, `]`, `P`, `X`, `^` or `_`: directly after ESC it begins a longer sequence
abbrev pub is_introducer : ℕ → Bool
is_introducer b = b == 0x5B || (b == 0x5D || (b == 0x50 || (b == 0x58 || (b == 0x5E || b == 0x5F))))

-- ESC, intermediates and a final byte
abbrev pub IsEscape : List ℕ → ℕ → Type 0
IsEscape between final =
    AllByRecursion (λ b. is_intermediate b ≡ true) between × (is_in_range 0x30 0x7E final ≡ true)
    × (between ≡ [] → is_introducer final ≡ false)

abbrev pub EscapesEndAtGround : Type 0
EscapesEndAtGround = (n : ℕ) (between : List ℕ) (final : ℕ) → IsEscape between final
    → AtGround n (0x1B ∷ (between ++ final ∷ []))

-- ESC [, a header and a final byte
abbrev pub IsSequence : List ℕ → ℕ → Type 0
IsSequence header final = AllByRecursion (λ b. is_header b ≡ true) header × (is_in_range 0x40 0x7E final ≡ true)

abbrev pub ControlSequencesEndAtGround : Type 0
ControlSequencesEndAtGround = (n : ℕ) (header : List ℕ) (final : ℕ) → IsSequence header final
    → AtGround n (0x1B ∷ 0x5B ∷ (header ++ final ∷ []))

-- whole characters, controls among them, without ESC
abbrev pub IsText : List ℕ → Type 0
IsText text = IsUtf8 text × AllByRecursion (λ b. b ≢ 0x1B) text

abbrev pub TextsEndAtGround : Type 0
TextsEndAtGround = (n : ℕ) (text : List ℕ) → IsText text → AtGround n text

-- nothing is pending
abbrev pub NothingPendingIsGround : Type 0
NothingPendingIsGround = (n : ℕ) (past : List ℕ) → pending past ≡ InText [] → AtGround n past

-- the event of such a sequence, and those of such a text: each character printed, or executed
abbrev pub EscapesAreEvents : Type 0
EscapesAreEvents = (n : ℕ) (between : List ℕ) (final : ℕ) → IsEscape between final
    → events n (0x1B ∷ (between ++ final ∷ [])) ≡ Esc (take 2 between) (nat_lt 2 (length between)) final ∷ []

-- none where the header is malformed
abbrev pub header_event : List ℕ → ℕ → List Event
header_event header final =
    if is_well_formed header then Csi (kept_groups header) (kept_intermediates header) (overflows header) final ∷ []
    else []

abbrev pub ControlSequencesAreEvents : Type 0
ControlSequencesAreEvents = (n : ℕ) (header : List ℕ) (final : ℕ) → IsSequence header final
    → events n (0x1B ∷ 0x5B ∷ (header ++ final ∷ [])) ≡ header_event header final

abbrev pub TextsAreEvents : Type 0
TextsAreEvents = (n : ℕ) (text : List ℕ) → IsText text → events n text ≡ map char_event (chars text)
