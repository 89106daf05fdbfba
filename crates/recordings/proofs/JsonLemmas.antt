-- Values in JSON.
use Rattle.std.proofs.Common.{◌≡◌, ◌<◌, ℕ, Bool, true, false, List, [], ◌∷◌, None, length, refl, ap, arith}
use Rattle.std.specs.Prelude.{if◌then◌else◌}
use Rattle.std.specs.Str.{IsUtf8, is_utf8}
use Rattle.std.proofs.lemmas.Str.{IsUtf8-from_is_utf8, is_utf8-from_IsUtf8}
use Rattle.serde_json.specs.Read.{read}
use Rattle.serde_json.specs.View.{items_view}
use Rattle.serde_json.specs.declared.value.Value.{Value}
use Rattle.recordings.specs.Asciicast.{row_of_items}
use Rattle.recordings.specs.Times.{json_in}

pub json_is_read : (bs : List ℕ) → IsUtf8 bs → json_in bs ≡ read bs
json_is_read bs h = ap (λ b. if b then read bs else None) (is_utf8-from_IsUtf8 bs h)

pub no_json : (bs : List ℕ) → ¬ (IsUtf8 bs) → json_in bs ≡ None
no_json bs h = go (is_utf8 bs) refl
  where
    go : (b : Bool) → is_utf8 bs ≡ b → (if b then read bs else None) ≡ None
    go true e = absurd (h (IsUtf8-from_is_utf8 bs e))
    go false e = refl

-- an event has two parts at least
pub too_few : (vs : List Value) → length vs < 2 → row_of_items (items_view vs) ≡ None
too_few [] h = refl
too_few (a ∷ []) h = refl
too_few (a ∷ b ∷ vs) h = absurd (omega (arith, h))
