-- The last of some characters.
use Rattle.std.proofs.Common.{◌≡◌, ◌∙◌, ◌-◌, ◌<◌, ℕ, suc, List, [], ◌∷◌, ap, sym}
use Rattle.std.proofs.Common.{refl, Option, Some, length, map, get_or, arith}
use Rattle.std.proofs.lemmas.List.{get_or-map, length-map}
use Rattle.vt100.specs.Runs.{last_of}

last_of-at : (xs : List ℕ) (last : Option ℕ) (d : ℕ) → 0 < length xs
    → last_of xs last ≡ Some (get_or xs (length xs - 1) d)
last_of-at [] last d some = absurd (omega arith)
last_of-at (x ∷ []) last d some = refl
last_of-at (x ∷ y ∷ ys) last d some =
    let e : length (y ∷ ys) - 1 ≡ length ys = omega arith in
    let f : length (x ∷ y ∷ ys) - 1 ≡ suc (length ys) = omega arith in
    last_of-at (y ∷ ys) (Some x) d (omega arith) ∙ ap (λ n. Some (get_or (y ∷ ys) n d)) e
    ∙ sym (ap (λ n. Some (get_or (x ∷ y ∷ ys) n d)) f)

pub last_of-map : {X : Type 0} (code : X → ℕ) (xs : List X) (last : Option ℕ) (x : X) → 0 < length xs
    → x ≡ get_or xs (length xs - 1) x → last_of (map code xs) last ≡ Some (code x)
last_of-map code xs last x some e =
    let many = length-map xs code in
    last_of-at (map code xs) last (code x) (omega (arith, many, some))
    ∙ ap (λ n. Some (get_or (map code xs) (n - 1) (code x))) many
    ∙ ap Some (get_or-map code xs (length xs - 1) x (code x) (omega (arith, some)) ∙ ap code (sym e))
