-- The theme of some colours.
use Rattle.std.proofs.Common.{◌≡◌, ◌<◌, ◌≤◌, ◌+◌, ◌-◌, ℕ, List, false, inl, inr, sym, ap, ◌∙◌, arith, drop, get_or, length}
use Rattle.std.specs.Prelude.{map}
use Rattle.std.proofs.Math.ListN.{get_or-map, set}
use Rattle.std.proofs.Math.Nat.{eq-or-lt_of_le}
use Rattle.std.proofs.lemmas.List.{ext_get_or, get_or-drop, get_or-set_other, get_or-set_same, length-drop, length-map}
use Rattle.picture_page.specs.declared.page.Rgb.{Rgb}
use Rattle.row_pictures.specs.Themes.{rgb_of, theme_of}
use Rattle.row_pictures.specs.declared.theme.Theme.{Theme}

abbrev theme_with : Rgb → Rgb → List Rgb → Theme
theme_with front back first = record { fgcolor = front; bgcolor = back; colors = first; bold_is_bright = false }

-- the first sixteen colours come after two others
pub theme_is : (colors : List ℕ) (first : List Rgb) (front back : Rgb) → length colors ≡ 18 → length first ≡ 16
    → front ≡ rgb_of (get_or colors 0 0) → back ≡ rgb_of (get_or colors 1 0)
    → ((k : ℕ) → k < 16 → get_or first k (rgb_of 0) ≡ rgb_of (get_or colors (k + 2) 0))
    → theme_with front back first ≡ theme_of colors
unfolding theme_of
theme_is colors first front back all sixteen front_is back_is each =
    let few : length (map rgb_of (drop 2 colors)) ≡ length colors - 2 =
    length-map (drop 2 colors) rgb_of ∙ length-drop 2 colors in
    let same : length first ≡ length (map rgb_of (drop 2 colors)) = omega arith in
    let first_is : first ≡ map rgb_of (drop 2 colors) =
    ext_get_or (rgb_of 0) first (map rgb_of (drop 2 colors)) same (λ i lt.
    let below : i < 16 = omega arith in
    let moved : i + 2 ≡ 2 + i = omega arith in
    each i below ∙ ap (λ n. rgb_of (get_or colors n 0)) moved
    ∙ sym (get_or-map rgb_of (drop 2 colors) i 0 ∙ ap rgb_of (get_or-drop 2 colors i 0))) in
    ap (λ f. theme_with f back first) front_is
    ∙ ap (λ b. theme_with (rgb_of (get_or colors 0 0)) b first) back_is
    ∙ ap (λ c. theme_with (rgb_of (get_or colors 0 0)) (rgb_of (get_or colors 1 0)) c) first_is

-- one more of them
pub first_more : (colors : List ℕ) (first : List Rgb) (i x : ℕ) (v : Rgb) → i < length first → v ≡ rgb_of x
    → x ≡ get_or colors (i + 2) 0
    → ((k : ℕ) → k < i → get_or first k (rgb_of 0) ≡ rgb_of (get_or colors (k + 2) 0)) → (k : ℕ) → k < i + 1
    → get_or (set first i v) k (rgb_of 0) ≡ rgb_of (get_or colors (k + 2) 0)
first_more colors first i x v within v_is x_is each k below =
    let at_most : k ≤ i = omega arith in
    elim (eq-or-lt_of_le at_most) [
      | inl is ↦ ap (λ n. get_or (set first i v) n (rgb_of 0)) is ∙ get_or-set_same first i v (rgb_of 0) within ∙ v_is
          ∙ ap rgb_of (x_is ∙ ap (λ n. get_or colors (n + 2) 0) (sym is))
      | inr lt ↦ get_or-set_other first i k v (rgb_of 0) (λ e. absurd (omega arith)) ∙ each k lt
    ]
