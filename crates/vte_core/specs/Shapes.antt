-- The events of a list of bytes, for a parser that keeps n bytes of an OSC. Nothing here has states: the list is
-- cut before each ESC, and each segment is read by its written shape. The flag cut says that ESC ends the segment.
use Rattle.std.specs.Prelude.{ℕ, ◌-◌, Bool, true, false, not, ◌&&◌, ◌||◌, List, [], ◌∷◌, ◌++◌, map, length, take}
use Rattle.std.specs.Prelude.{nat_lt, ◌==◌, if◌then◌else◌}
use Rattle.std.specs.List.{filter, slice_split}
use Rattle.vte_core.specs.Event.{Event, Execute, Hook, Put, Unhook, Osc, Csi, Esc}
use Rattle.vte_core.specs.Bytes.{is_esc, is_abort, is_control, is_intermediate, is_header, ends_header, ends_escape}
use Rattle.vte_core.specs.Bytes.{ends_osc, ends_device, is_put}
use Rattle.vte_core.specs.Text.{text}
use Rattle.vte_core.specs.Header.{is_well_formed, kept_groups, kept_intermediates, overflows}

-- the bytes before the first one that passes the test, and those from it on
abbrev pub before : (ℕ → Bool) → List ℕ → List ℕ
before p [] = []
before p (b ∷ bs) = if p b then [] else b ∷ before p bs

abbrev pub from : (ℕ → Bool) → List ℕ → List ℕ
from p [] = []
from p (b ∷ bs) = if p b then b ∷ bs else from p bs

-- the controls, each executed
abbrev pub executed : List ℕ → List Event
executed s = map Execute (filter is_control s)

-- CAN or SUB, and the text after it
abbrev pub aborted : Bool → ℕ → List ℕ → List Event
aborted cut b rest = Execute b ∷ text cut rest

-- a swallowed string: all up to CAN or SUB
abbrev pub swallowed_end : Bool → List ℕ → List Event
swallowed_end cut [] = []
swallowed_end cut (b ∷ rest) = aborted cut b rest

abbrev pub swallowed : Bool → List ℕ → List Event
swallowed cut s = swallowed_end cut (from is_abort s)

-- the data of a device string
abbrev pub device_end : Bool → List ℕ → List Event
device_end cut [] = if cut then Unhook ∷ [] else []
device_end cut (b ∷ rest) = Unhook ∷ (if is_abort b then aborted cut b rest else text cut rest)

abbrev pub device : Bool → List ℕ → List Event
device cut s = map Put (filter is_put (before ends_device s)) ++ device_end cut (from ends_device s)

-- The header h of a sequence, and what ends it: one that is well formed is reported, and goes on so; else the rest is
-- ignored.
abbrev pub header_end : (List (List ℕ) → List ℕ → Bool → ℕ → Event) → (Bool → List ℕ → List Event)
    → (Bool → List ℕ → List Event) → Bool → List ℕ → List ℕ → List Event
header_end reported after ignored cut h [] = []
header_end reported after ignored cut h (b ∷ rest) =
    if is_abort b then aborted cut b rest
    else (if is_well_formed h then reported (kept_groups h) (kept_intermediates h) (overflows h) b ∷ after cut rest
    else ignored cut rest)

-- a device string's
abbrev pub hook_end : Bool → List ℕ → List ℕ → List Event
hook_end = header_end Hook device swallowed

abbrev pub hook : Bool → List ℕ → List Event
hook cut s = hook_end cut (filter is_header (before ends_header s)) (from ends_header s)

-- a CSI's
abbrev pub csi_end : Bool → List ℕ → List ℕ → List Event
csi_end = header_end Csi text text

abbrev pub csi : Bool → List ℕ → List Event
csi cut s = executed (before ends_header s) ++ csi_end cut (filter is_header (before ends_header s))
    (from ends_header s)

-- the first n data bytes, in their pieces
abbrev pub first_bytes : ℕ → List (List ℕ) → List (List ℕ)
first_bytes n [] = []
first_bytes n (p ∷ ps) = take n p ∷ first_bytes (n - length p) ps

-- the first 16 pieces
abbrev pub osc_pieces : ℕ → List ℕ → List (List ℕ)
osc_pieces n s = take 16 (first_bytes n (slice_split (λ b. b == 0x3B) s))

-- the data s of an OSC, and what ends it
abbrev pub osc_end : ℕ → Bool → List ℕ → List ℕ → List Event
osc_end n cut s [] = if cut then Osc (osc_pieces n s) false ∷ [] else []
osc_end n cut s (b ∷ rest) = Osc (osc_pieces n s) (b == 0x07)
    ∷ (if is_abort b then aborted cut b rest else text cut rest)

abbrev pub osc : ℕ → Bool → List ℕ → List Event
osc n cut s = osc_end n cut (filter (λ b. not (is_control b)) (before ends_osc s)) (from ends_osc s)

-- what the final byte of an escape with these intermediates begins, or does
abbrev pub introduced : ℕ → Bool → List ℕ → ℕ → List ℕ → List Event
introduced n cut is b rest =
    if length is == 0 && b == 0x5B then csi cut rest
    else (if length is == 0 && b == 0x5D then osc n cut rest
    else (if length is == 0 && b == 0x50 then hook cut rest
    else (if length is == 0 && (b == 0x58 || (b == 0x5E || b == 0x5F)) then swallowed cut rest
    else Esc (take 2 is) (nat_lt 2 (length is)) b ∷ text cut rest)))

abbrev pub escape_end : ℕ → Bool → List ℕ → List ℕ → List Event
escape_end n cut is [] = []
escape_end n cut is (b ∷ rest) = if is_abort b then aborted cut b rest else introduced n cut is b rest

-- what follows an ESC
abbrev pub escape : ℕ → Bool → List ℕ → List Event
escape n cut s = executed (before ends_escape s) ++ escape_end n cut (filter is_intermediate (before ends_escape s))
    (from ends_escape s)

-- the part before the first ESC, and the segments after each ESC
abbrev pub cut_at_esc : List ℕ → List ℕ × List (List ℕ)
cut_at_esc [] = ([], [])
cut_at_esc (b ∷ bs) = if is_esc b then ([], (cut_at_esc bs).0 ∷ (cut_at_esc bs).1)
    else (b ∷ (cut_at_esc bs).0, (cut_at_esc bs).1)

-- s is read by f, and each other segment as what follows an ESC
abbrev pub segments : ℕ → (Bool → List ℕ → List Event) → List ℕ → List (List ℕ) → List Event
segments n f s [] = f false s
segments n f s (t ∷ ts) = f true s ++ segments n (escape n) t ts

-- the events of the bytes
abbrev pub events : ℕ → List ℕ → List Event
events n bs = segments n text (cut_at_esc bs).0 (cut_at_esc bs).1
