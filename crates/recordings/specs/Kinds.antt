-- The kinds of recordings, their names, and what a file of each kind says.
use Rattle.std.specs.Prelude.{◌≡◌, ℕ, List, [], ◌∷◌, take, Option, Some, None, if◌then◌else◌, codes, IsSomeAnd}
use Rattle.std.specs.Str.{bytes_eq}
use Rattle.recordings.specs.Asciicast.{IsAsciicast, IsFault, IsReadCast, IsUnreadCast, is_header}
use Rattle.recordings.specs.Details.{details_of, no_details}
use Rattle.recordings.specs.Recorded.{said, writes}
use Rattle.recordings.specs.Ttyrec.{IsCut, IsReadTtyrec, IsTtyrec, begins_with_frame}
use Rattle.recordings.specs.Typescript.{IsFaultOfStep, IsReadScript, IsTypescript}
use Rattle.recordings.specs.declared.error.Packer.{Packer}
use Rattle.recordings.specs.declared.error.Packer.TheVariants.{Bzip2, Gzip, Xz, Zstd}
use Rattle.recordings.specs.declared.error.RecordingError.{RecordingError}
use Rattle.recordings.specs.declared.error.RecordingError.TheVariants as error
use Rattle.recordings.specs.declared.recording.Kind.{Kind}
use Rattle.recordings.specs.declared.recording.Kind.TheVariants.{Asciicast, Raw, Script, Ttyrec}
use Rattle.recordings.specs.declared.recording.Recording.{Recording}

abbrev pub kind_named : List ℕ → Option Kind
kind_named word =
    if bytes_eq word (codes "asciicast") then Some Asciicast
    else (if bytes_eq word (codes "script") then Some Script
    else (if bytes_eq word (codes "ttyrec") then Some Ttyrec
    else (if bytes_eq word (codes "raw") then Some Raw else None)))

-- by the first bytes; a typescript can't be recognized by its output alone
abbrev pub kind_guessed : List ℕ → Kind
kind_guessed bytes =
    if is_header bytes then Asciicast
    else (if begins_with_frame bytes then Ttyrec else Raw)

-- the first bytes of files that were compressed
abbrev pub packer_in : List ℕ → Option Packer
packer_in bytes =
    if bytes_eq (take 2 bytes) (0x1F ∷ 0x8B ∷ []) then Some Gzip
    else (if bytes_eq (take 3 bytes) (codes "BZh") then Some Bzip2
    else (if bytes_eq (take 6 bytes) (0xFD ∷ 0x37 ∷ 0x7A ∷ 0x58 ∷ 0x5A ∷ 0x00 ∷ []) then Some Xz
    else (if bytes_eq (take 4 bytes) (0x28 ∷ 0xB5 ∷ 0x2F ∷ 0xFD ∷ []) then Some Zstd else None)))

-- where the kind is guessed, no compressed file is read
abbrev pub packer_met : Option Kind → Option (List ℕ) → List ℕ → Option Packer
packer_met None None bytes = packer_in bytes
packer_met _ _ bytes = None

-- the kind that is asked for, or else that of a typescript where there is a timing file
abbrev pub kind_taken : Option Kind → Option (List ℕ) → List ℕ → Kind
kind_taken (Some kind) timing bytes = kind
kind_taken None (Some timing) bytes = Script
kind_taken None None bytes = kind_guessed bytes

-- one output at the time 0
pub record IsRaw (bytes : List ℕ) (r : Recording) : Type 0 where
  pub kind : r.kind ≡ Raw
  pub size : r.size ≡ None
  pub own : details_of r ≡ no_details
  pub moments : said r.events.items ≡ (0, writes bytes) ∷ []
  pub length : r.length ≡ 0

-- what a file of this kind says
abbrev pub IsOfKind : Kind → List ℕ → Option (List ℕ) → Recording → Type 0
IsOfKind Asciicast bytes timing r = IsAsciicast bytes r
IsOfKind Script bytes timing r = IsSomeAnd timing (λ steps. IsTypescript bytes steps r)
IsOfKind Ttyrec bytes timing r = IsTtyrec bytes r
IsOfKind Raw bytes timing r = IsRaw bytes r

-- why a file of this kind isn't read, but for memory
abbrev pub IsFaultOfKind : Kind → List ℕ → Option (List ℕ) → RecordingError → Type 0
IsFaultOfKind Asciicast bytes timing e = IsFault bytes e
IsFaultOfKind Script bytes None e = e ≡ error.NoTiming
IsFaultOfKind Script bytes (Some timing) e = IsFaultOfStep bytes timing e
IsFaultOfKind Ttyrec bytes timing e = IsCut bytes e
IsFaultOfKind Raw bytes timing e = ⊥

-- what is read of a file of this kind up to a fault
abbrev pub IsReadOfKind : Kind → List ℕ → Option (List ℕ) → Recording → Option RecordingError → Type 0
IsReadOfKind Asciicast bytes timing r fault = IsReadCast bytes r fault
IsReadOfKind Script bytes timing r fault = IsSomeAnd timing (λ steps. IsReadScript bytes steps r fault)
IsReadOfKind Ttyrec bytes timing r fault = IsReadTtyrec bytes r fault
IsReadOfKind Raw bytes timing r fault = IsRaw bytes r × (fault ≡ None)

-- why nothing of it is read, but for memory
abbrev pub IsUnreadOfKind : Kind → List ℕ → Option (List ℕ) → RecordingError → Type 0
IsUnreadOfKind Asciicast bytes timing e = IsUnreadCast bytes e
IsUnreadOfKind Script bytes None e = e ≡ error.NoTiming
IsUnreadOfKind _ bytes timing e = ⊥

-- a file that was compressed
abbrev pub IsPacked : Option Packer → RecordingError → Type 0
IsPacked packer (error.Packed p) = packer ≡ Some p
IsPacked packer _ = ⊥
