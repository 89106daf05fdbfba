-- What is seen of a picture: what is outside of its tags.
use Rattle.std.specs.Prelude.{◌≡◌, ℕ, Bool, true, false, not, ◌&&◌, List, [], ◌∷◌, ◌++◌, nat_eq, if◌then◌else◌}

-- the bytes that are outside of tags, where the first of them is outside (true) or within a tag (false): a tag begins
-- with < and ends with >
abbrev pub seen_from : Bool → List ℕ → List ℕ
seen_from out [] = []
seen_from true (b ∷ bs) = if nat_eq b 60 then seen_from false bs else b ∷ seen_from true bs
seen_from false (b ∷ bs) = seen_from (nat_eq b 62) bs

-- the bytes of a picture that are outside of its tags
abbrev pub seen : List ℕ → List ℕ
seen bytes = seen_from true bytes

-- whether what comes after these bytes is outside of tags
abbrev pub ends_outside : Bool → List ℕ → Bool
ends_outside out [] = out
ends_outside true (b ∷ bs) = ends_outside (not (nat_eq b 60)) bs
ends_outside false (b ∷ bs) = ends_outside (nat_eq b 62) bs

-- no byte is < or >
abbrev pub is_plain : List ℕ → Bool
is_plain [] = true
is_plain (b ∷ bs) = not (nat_eq b 60) && (not (nat_eq b 62) && is_plain bs)

-- Bytes are appended that begin and end outside of tags or within one, as the flags say. This text of them is seen.
pub record Draws (old new : List ℕ) (begins ends : Bool) (text : List ℕ) : Type 0 where
  pub more : List ℕ
  pub joined : new ≡ old ++ more
  pub ends_so : ends_outside begins more ≡ ends
  pub seen_is : seen_from begins more ≡ text
