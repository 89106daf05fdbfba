-- Elements that are copied one by one.
use Rattle.std.proofs.Common.{◌≡◌, ◌∙◌, ℕ, ◌+◌, ◌<◌, ◌≤◌, List, ◌++◌, ◌∷◌, [], length, take, drop, map, get_or, set}
use Rattle.std.proofs.Common.{min}
use Rattle.std.proofs.Common.{ap, sym, arith}
use Rattle.std.specs.List.{range_with_len}
use Rattle.std.proofs.lemmas.List.{take_more, set-append_right, drop-set, drop-set-add, length-take-le, length-map}
use Rattle.std.proofs.lemmas.List.{get_or-map, append_assoc}
use Rattle.std.proofs.lemmas.List.FromFn.{get_or-map-range_with_len, length-map-range_with_len}
use Rattle.std.proofs.lemmas.Grind.{common_steps}
use Rattle.c_objects.specs.Texts.{with_prefix}

-- the element at i is copied, and those before it were
pub copied-more : {Y : Type 0} (ys old : List Y) (i : ℕ) (y : Y) → i < length ys → i < length old → y ≡ get_or ys i y
    → set (take i ys ++ drop i old) i y ≡ take (i + 1) ys ++ drop (i + 1) old
copied-more ys old i y in_ys in_old is =
    let n : length (take i ys) ≡ i = length-take-le i ys (omega arith) in
    grind (
      arith,
      common_steps,
      set-append_right (take i ys) (drop i old) i i y n,
      drop-set old i y in_old,
      drop-set-add i old 0 y,
      take_more ys i y in_ys,
      append_assoc (take i ys) (y ∷ []) (drop (i + 1) old),
    )

-- all that fit are copied
pub copied-all : {Y : Type 0} (ys old now : List Y) (i n : ℕ) → n ≡ min (length ys) (length old) → n ≤ i → i ≤ n
    → now ≡ take i ys ++ drop i old → now ≡ with_prefix ys old
copied-all ys old now i n is least most copied = grind (arith, common_steps)

-- what f makes of the element at i is copied
pub mapped-more : {X Y : Type 0} (f : X → Y) (xs : List X) (old now : List Y) (i : ℕ) (x : X) (y : Y) → i < length xs
    → i < length old → x ≡ get_or xs i x → y ≡ f x → now ≡ take i (map f xs) ++ drop i old
    → set now i y ≡ take (i + 1) (map f xs) ++ drop (i + 1) old
mapped-more f xs old now i x y in_xs in_old is made copied =
    let in_ys : i < length (map f xs) = grind (arith, length-map xs f) in
    let e : y ≡ get_or (map f xs) i y = made ∙ ap f is ∙ sym (get_or-map f xs i x y in_xs) in
    rw copied (copied-more (map f xs) old i y in_ys in_old e)

-- n elements, where the one at each i is f i
abbrev positioned : {X : Type 0} → (ℕ → X) → ℕ → List X
positioned f n = map f (range_with_len 0 n)

-- what g makes of the element at i is copied
pub positioned-more : {X Y : Type 0} (g : X → Y) (f : ℕ → X) (n : ℕ) (old now : List Y) (i : ℕ) (y : Y) → i < n
    → i < length old → y ≡ g (f i) → now ≡ take i (map g (positioned f n)) ++ drop i old
    → set now i y ≡ take (i + 1) (map g (positioned f n)) ++ drop (i + 1) old
positioned-more g f n old now i y below in_old made copied =
    let in_xs : i < length (positioned f n) = rw (length-map-range_with_len f 0 n) below in
    let is : f i ≡ get_or (positioned f n) i (f i) = sym (get_or-map-range_with_len f 0 n i i (f i) below (omega arith)) in
    mapped-more g (positioned f n) old now i (f i) y in_xs in_old is made copied

pub positioned-all : {X Y : Type 0} (g : X → Y) (f : ℕ → X) (m : ℕ) (old now : List Y) (i n : ℕ)
    → n ≡ min m (length old) → n ≤ i → i ≤ n → now ≡ take i (map g (positioned f m)) ++ drop i old
    → now ≡ with_prefix (map g (positioned f m)) old
positioned-all g f m old now i n is least most copied =
    let long : length (map g (positioned f m)) ≡ m = length-map (positioned f m) g ∙ length-map-range_with_len f 0 m in
    copied-all (map g (positioned f m)) old now i n (rw long is) least most copied
