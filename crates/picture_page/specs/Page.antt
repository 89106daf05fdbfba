-- What a picture is made of: markup of the program's own, digits, and texts that are escaped.
use Rattle.std.specs.Prelude.{◌≡◌, ◌≢◌, ◌⊎◌, ℕ, ◌+◌, Bool, true, List, [], ◌∷◌, ◌++◌, Option, Some, None, codes, nat_eq}
use Rattle.std.specs.Prelude.{nat_le}
use Rattle.std.specs.List.{All, concat, list_any, starts_with}
use Rattle.std.specs.Prelude.{if◌then◌else◌, unwrap_or}
use Rattle.picture_page.specs.declared.tag.Tag.{Tag}
use Rattle.picture_page.specs.Tags.{tag_bytes}

-- what is written for a byte of a text that isn't written as it is: & < > " '
abbrev pub reference : ℕ → Option (List ℕ)
reference b =
    if nat_eq b 38 then Some (codes "&amp;") else (if nat_eq b 60 then Some (codes "&lt;")
    else (if nat_eq b 62 then Some (codes "&gt;") else (if nat_eq b 34 then Some (codes "&quot;")
    else (if nat_eq b 39 then Some (codes "&#39;") else None))))

abbrev pub escaped : List ℕ → List ℕ
escaped [] = []
escaped (b ∷ bs) = unwrap_or (reference b) (b ∷ []) ++ escaped bs

-- a digit of a number or a colour
abbrev pub digit_byte : ℕ → ℕ
digit_byte d = if nat_le d 9 then 48 + d else 87 + d

-- markup; a digit; the end of a row; a name that isn't of the screen; a text of the screen
pub data Part : Type 0 where
  Markup : Tag → Part
  Digit : ℕ → Part
  RowEnd : Part
  Name : List ℕ → Part
  Text : List ℕ → Part

abbrev pub part_bytes : Part → List ℕ
part_bytes (Markup t) = tag_bytes t
part_bytes (Digit d) = digit_byte d ∷ []
part_bytes RowEnd = 10 ∷ []
part_bytes (Name bs) = escaped bs
part_bytes (Text bs) = escaped bs

abbrev pub parts_bytes : List Part → List ℕ
parts_bytes [] = []
parts_bytes (p ∷ ps) = part_bytes p ++ parts_bytes ps

-- these bytes are such parts, one after another
pub record IsPage (bytes : List ℕ) : Type 0 where
  pub parts : List Part
  pub joined : bytes ≡ parts_bytes parts

-- what is shown of the screen: the texts in their order, and a newline at the end of each row
abbrev pub part_text : Part → List ℕ
part_text RowEnd = 10 ∷ []
part_text (Text bs) = bs
part_text _ = []

abbrev pub parts_text : List Part → List ℕ
parts_text [] = []
parts_text (p ∷ ps) = part_text p ++ parts_text ps

-- these bytes are such parts, and this text of the screen is in them
pub record Shows (bytes text : List ℕ) : Type 0 where
  pub parts : List Part
  pub joined : bytes ≡ parts_bytes parts
  pub text_is : parts_text parts ≡ text

-- the new bytes are the old ones and then parts, which contain this text of the screen
pub record Adds (old new text : List ℕ) : Type 0 where
  pub parts : List Part
  pub joined : new ≡ old ++ parts_bytes parts
  pub text_is : parts_text parts ≡ text

abbrev pub references : List (List ℕ)
references = codes "&amp;" ∷ codes "&lt;" ∷ codes "&gt;" ∷ codes "&quot;" ∷ codes "&#39;" ∷ []

abbrev pub begins_reference : List ℕ → Bool
begins_reference text = list_any (starts_with nat_eq text) references

-- no byte of a text is < > " or ', and each & in it begins a reference
abbrev pub IsHarmless : List ℕ → Type 0
IsHarmless text = (before after : List ℕ) (b : ℕ) → text ≡ before ++ b ∷ after
    → (b ≢ 60) × (b ≢ 62) × (b ≢ 34) × (b ≢ 39) × (b ≡ 38 → begins_reference (b ∷ after) ≡ true)

-- markup of the program's own, or harmless bytes
abbrev pub IsPiece : List ℕ → Type 0
IsPiece piece = ((t : Tag) × (piece ≡ tag_bytes t)) ⊎ IsHarmless piece

-- these bytes are such pieces, one after another
pub record IsSafe (bytes : List ℕ) : Type 0 where
  pub pieces : List (List ℕ)
  pub joined : bytes ≡ concat pieces
  pub harmless : All IsPiece pieces
