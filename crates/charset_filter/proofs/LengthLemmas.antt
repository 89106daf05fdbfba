-- How many bytes are behind an event.
use Rattle.std.proofs.Common.{◌≡◌, ℕ, suc, ◌+◌, ◌*◌, ◌<◌, ◌≤◌, min, max, Bool, true, false, ◌&&◌, ◌==◌}
use Rattle.std.proofs.Common.{List, [], ◌∷◌, ◌++◌, length, length-append, if◌then◌else◌}
use Rattle.std.proofs.Common.{inl, inr, arith, codes, decimal}
use Rattle.std.proofs.lemmas.Fmt.{length-decimal-le}
use Rattle.std.specs.Int.{is_in_range}
use Rattle.std.specs.List.{flat_map, list_all, concat}
use Rattle.vte_core.specs.Header.{kept_groups, kept_intermediates}
use Rattle.vte_core.specs.ParamsText.{group_text}
use Rattle.vte_core.specs.Store.{total}
use Rattle.vte_core.proofs.Characters.{bool_cases, if_holds}
use Rattle.charset_filter.specs.Sets.{after_mode, is_bare}
use Rattle.charset_filter.specs.Behind.{are_parts, as_known, csi_behind, escape_behind, is_color, is_known, mode_behind}
use Rattle.charset_filter.specs.Behind.{marked_behind, modes_behind, plain_behind, replaced, sgr}
use Rattle.charset_filter.specs.declared.sets.CharacterSets.{CharacterSets}
use Rattle.charset_filter.proofs.NumberLemmas.{AreSmall, IsSmall, kept-few, kept-small}

-- at most this many bytes
abbrev pub AtMost : ℕ → List ℕ → Type 0
AtMost k bs = length bs ≤ k

either : (k : ℕ) (v : Bool) (x y : List ℕ) → AtMost k x → AtMost k y → AtMost k (if v then x else y)
either k v x y h l = if_holds (AtMost k) v x y h l

-- ---- SGR

-- groups with `;` before each
abbrev later : List (List ℕ) → List ℕ
later gs = flat_map (λ y. codes ";" ++ group_text y) gs

later-append : (xs ys : List (List ℕ)) → length (later (xs ++ ys)) ≡ length (later xs) + length (later ys)
later-append [] ys = omega arith
later-append (x ∷ xs) ys =
    omega (
      arith,
      length-append (codes ";" ++ group_text x) (later (xs ++ ys)),
      later-append xs ys,
      length-append (codes ";" ++ group_text x) (later xs),
    )

decimal-few : (n : ℕ) → n < 65536 → length (decimal n) ≤ 5
decimal-few n h = length-decimal-le 5 n (omega arith) (omega (arith, h)) (omega (arith, h))

further-few : (ns : List ℕ) → IsSmall ns → length (flat_map (λ y. codes ":" ++ decimal y) ns) ≤ 6 * length ns
further-few [] h = omega arith
further-few (n ∷ ns) h =
    omega (
      arith,
      length-append (codes ":" ++ decimal n) (flat_map (λ y. codes ":" ++ decimal y) ns),
      decimal-few n h.0,
      further-few ns h.1,
    )

one-few : (n : ℕ) (ns : List ℕ) → IsSmall (n ∷ ns) → length (later ((n ∷ ns) ∷ [])) ≤ 6 * length (n ∷ ns)
one-few n ns h =
    let rest = flat_map (λ y. codes ":" ++ decimal y) ns in
    omega (
      arith,
      length-append (codes ";" ++ group_text (n ∷ ns)) [],
      length-append (decimal n) rest,
      decimal-few n h.0,
      further-few ns h.1,
    )

abbrev Few : ℕ → List (List ℕ) → Type 0
Few k gs = length (later gs) ≤ 6 * k

fewer : (j k : ℕ) (gs : List (List ℕ)) → j ≤ k → Few j gs → Few k gs
fewer j k gs h few = omega (arith, h, few)

replaced-few : (g : List ℕ) → IsSmall g → Few (length g) (replaced g)
replaced-few [] h = omega arith
replaced-few (n ∷ []) h = omega arith
replaced-few (n ∷ k ∷ []) h = if_holds (Few 2) (n == 4 && k == 0) _ _
    (fewer 1 2 ((24 ∷ []) ∷ []) (omega arith) (one-few 24 [] (omega arith, tt)))
    (if_holds (Few 2) (n == 4 && is_in_range 1 5 k) _ _
    (fewer 1 2 ((4 ∷ []) ∷ []) (omega arith) (one-few 4 [] (omega arith, tt))) (omega arith))
replaced-few (n ∷ k ∷ a ∷ []) h = omega arith
replaced-few (n ∷ k ∷ a ∷ b ∷ []) h = omega arith
replaced-few (n ∷ k ∷ a ∷ b ∷ c ∷ []) h = omega arith
replaced-few (n ∷ k ∷ a ∷ r ∷ g ∷ b ∷ []) h = if_holds (Few 6) (is_color n && (k == 2 && are_parts r g b)) _ _
    (fewer 5 6 ((n ∷ k ∷ r ∷ g ∷ b ∷ []) ∷ []) (omega arith)
    (one-few n (k ∷ r ∷ g ∷ b ∷ []) (h.0, (h.1.0, h.1.1.1)))) (omega arith)
replaced-few (n ∷ k ∷ a ∷ b ∷ c ∷ d ∷ e ∷ gs) h = omega arith

known-few : (g : List ℕ) → IsSmall g → Few (length g) (as_known g)
known-few [] h = omega arith
known-few (n ∷ ns) h = if_holds (Few (length (n ∷ ns))) (is_known (n ∷ ns)) ((n ∷ ns) ∷ []) (replaced (n ∷ ns))
    (one-few n ns h) (replaced-few (n ∷ ns) h)

all-few : (gs : List (List ℕ)) → AreSmall gs → Few (total gs) (flat_map as_known gs)
all-few [] h = omega arith
all-few (g ∷ gs) h =
    omega (
      arith,
      later-append (as_known g) (flat_map as_known gs),
      known-few g h.0,
      all-few gs h.1,
      length-append g (concat gs),
    )

sgr-few : (gs : List (List ℕ)) → length (sgr gs) ≤ length (later gs) + 2
sgr-few [] = omega arith
sgr-few (g ∷ gs) =
    omega (
      arith,
      length-append (group_text g ++ later gs) (codes "m"),
      length-append (group_text g) (later gs),
      length-append (codes ";" ++ group_text g) (later gs),
    )

-- ---- private modes

-- what leaving the alternate screen takes
abbrev room : CharacterSets → ℕ
room s = if s.alternate then 16 else 0

room-few : (s : CharacterSets) → room s ≤ 16
room-few s = if_holds (λ (k : ℕ). k ≤ 16) s.alternate 16 0 (omega arith) (omega arith)

mode-set : (s : CharacterSets) (g : List ℕ) → length (mode_behind true s g) ≤ 6 * length g
mode-set s [] = omega arith
mode-set s (m ∷ []) = either 6 (m == 1047) _ _ (omega arith) (either 6 (m == 1048) _ _ (omega arith) (omega arith))
mode-set s (m ∷ k ∷ g) = omega arith

modes-set : (s : CharacterSets) (gs : List (List ℕ)) → length (modes_behind true s gs) ≤ 6 * total gs
modes-set s [] = omega arith
modes-set s (g ∷ gs) =
    let t = after_mode true s g in
    omega (
      arith,
      length-append (mode_behind true s g) (modes_behind true t gs),
      mode-set s g,
      modes-set t gs,
      length-append g (concat gs),
    )

-- mode 1047 is reset
left : (s : CharacterSets) → length (mode_behind false s (1047 ∷ [])) + 0 ≤ room s + 2
left s = elim (bool_cases s.alternate) [ inl e ↦ rw e (omega arith) | inr e ↦ rw e (omega arith) ]

mode-reset : (s : CharacterSets) (g : List ℕ)
    → length (mode_behind false s g) + room (after_mode false s g) ≤ room s + 2 * length g
mode-reset s [] = omega arith
mode-reset s (m ∷ []) = elim (bool_cases (m == 1047)) [
  | inl e ↦ elim (bool_cases (m == 47)) [
    | inl f ↦ rw (e, f) (left s)
    | inr f ↦ rw (e, f) (left s)
  ]
  | inr e ↦ elim (bool_cases (m == 1048)) [
    | inl g ↦ elim (bool_cases (m == 47)) [
      | inl f ↦ rw (e, f, g) (omega arith)
      | inr f ↦ rw (e, f, g) (omega arith)
    ]
    | inr g ↦ elim (bool_cases (m == 47)) [
      | inl f ↦ rw (e, f, g) (omega arith)
      | inr f ↦ elim (bool_cases (m == 1049)) [
        | inl i ↦ rw (e, f, g, i) (omega arith)
        | inr i ↦ rw (e, f, g, i) (omega arith)
      ]
    ]
  ]
]
mode-reset s (m ∷ k ∷ g) = omega arith

modes-reset : (s : CharacterSets) (gs : List (List ℕ)) → length (modes_behind false s gs) ≤ room s + 2 * total gs
modes-reset s [] = omega arith
modes-reset s (g ∷ gs) =
    let t = after_mode false s g in
    omega (
      arith,
      length-append (mode_behind false s g) (modes_behind false t gs),
      mode-reset s g,
      modes-reset t gs,
      length-append g (concat gs),
    )

-- ---- control sequences

plain-len : (gs : List (List ℕ)) (many : Bool) (f : ℕ) → AreSmall gs
    → length (plain_behind gs many f) ≤ 6 * total gs + 3
plain-len gs many f h =
    let k = 6 * total gs + 3 in
    let all : AtMost k (sgr (flat_map as_known gs)) =
    omega (arith, sgr-few (flat_map as_known gs), all-few gs h) in
    either k (f == 0x6D) _ _
    (either k many _ _ (omega arith) (either k (list_all is_known gs) _ _ (omega arith) all))
    (either k (f == 0x72) _ _ (omega arith)
    (either k (is_bare gs && f == 0x73) _ _ (omega arith)
    (either k (is_bare gs && f == 0x75) _ _ (omega arith) (omega arith))))

abbrev bound : List (List ℕ) → ℕ
bound gs = max 23 (max (6 * total gs) (16 + 2 * total gs))

marked-len : (s : CharacterSets) (gs : List (List ℕ)) (i f : ℕ) → length (marked_behind s gs i f) ≤ bound gs
marked-len s gs i f =
    either (bound gs) (i == 0x21 && f == 0x70) _ _ (omega arith)
    (either (bound gs) (i == 0x3F && f == 0x68) _ _ (omega (arith, modes-set s gs))
    (either (bound gs) (i == 0x3F && f == 0x6C) _ _ (omega (arith, modes-reset s gs, room-few s)) (omega arith)))

csi-of : (s : CharacterSets) (gs : List (List ℕ)) (is : List ℕ) (many : Bool) (f k : ℕ) → AreSmall gs → total gs ≤ 32
    → total gs ≤ suc k → (0 < length is → 0 < k)
    → (length (csi_behind s gs is many f) ≤ 252) × (suc (length (csi_behind s gs is many f)) ≤ 7 * min (2 + k) 32 + 8)
csi-of s gs [] many f k small few less some =
    let len = plain-len gs many f small in
    (omega (arith, len, few), omega (arith, len, few, less))
csi-of s gs (i ∷ []) many f k small few less some =
    let len = marked-len s gs i f in
    let header : 0 < k = some (omega arith) in
    (omega (arith, len, few), omega (arith, len, few, less, header))
csi-of s gs (i ∷ j ∷ is) many f k small few less some = (omega arith, omega arith)

some-header : (h : List ℕ) → 0 < length (kept_intermediates h) → 0 < length h
some-header [] some = absurd (omega (arith, some))
some-header (b ∷ h) some = omega arith

-- at most 252, and not many more than the header has
pub csi-len : (s : CharacterSets) (h : List ℕ) (many : Bool) (f : ℕ)
    → (length (csi_behind s (kept_groups h) (kept_intermediates h) many f) ≤ 252)
    × (suc (length (csi_behind s (kept_groups h) (kept_intermediates h) many f)) ≤ 7 * min (2 + length h) 32 + 8)
csi-len s h many f =
    let few = kept-few h in
    csi-of s (kept_groups h) (kept_intermediates h) many f (length h) (kept-small h) few.0 few.1 (some-header h)

pub escape-len : (is : List ℕ) (f : ℕ) → length (escape_behind is f) ≤ 2
escape-len [] f = either 2 (f == 0x44) _ _ (omega arith) (either 2 (f == 0x45) _ _ (omega arith) (omega arith))
escape-len (i ∷ is) f = omega arith
