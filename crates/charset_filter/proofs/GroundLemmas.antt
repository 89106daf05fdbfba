-- The bytes behind an event begin and end in ground text.
use Rattle.std.proofs.Common.{◌≡◌, ℕ, ◌<◌, ◌≤◌, Bool, true, false, ◌&&◌, ◌==◌, List, [], ◌∷◌, ◌++◌}
use Rattle.std.proofs.Common.{if◌then◌else◌, refl, sym, ◌∙◌, ap, arith, append-nil, append_assoc, codes, decimal}
use Rattle.std.proofs.lemmas.Bool.Decides.{nat_tests}
use Rattle.std.proofs.lemmas.Fmt.{decimal_is_IsNumeral}
use Rattle.std.proofs.lemmas.Str.Parse.{digit_from_value}
use Rattle.std.specs.Str.Parse.{AllDigits}
use Rattle.std.specs.List.{AllByRecursion, flat_map, list_all}
use Rattle.vte_core.specs.Event.{Event}
use Rattle.vte_core.specs.Bytes.{is_control, is_esc, is_header, ends_header}
use Rattle.vte_core.specs.ParamsText.{group_text, groups_text}
use Rattle.vte_core.specs.Pending.{Pending, InText, InCsi, events_of_byte, after_byte, events_from, after_bytes}
use Rattle.vte_core.specs.Shapes.{events}
use Rattle.vte_core.proofs.Characters.{if_holds}
use Rattle.vte_core.proofs.Machine.{events-reported, events_from-append, after_bytes-append}
use Rattle.charset_filter.specs.Sets.{after_mode, is_bare}
use Rattle.charset_filter.specs.Behind.{as_known, csi_behind, escape_behind, is_known}
use Rattle.charset_filter.specs.Behind.{mode_behind, modes_behind, sgr}
use Rattle.charset_filter.specs.declared.sets.CharacterSets.{CharacterSets}
use Rattle.charset_filter.proofs.NumberLemmas.{AreSmall, IsSmall, known-small}

-- such bytes, read in ground text, have these events, and leave ground text
abbrev pub Grounded : List ℕ → Type 0
Grounded bs = (n : ℕ) → (events_from n (InText []) bs ≡ events 0 bs) × (after_bytes (InText []) bs ≡ InText [])

abbrev Alike : List ℕ → Type 0
Alike bs = (n : ℕ) → (events_from n (InText []) bs ≡ events_from 0 (InText []) bs)
    × (after_bytes (InText []) bs ≡ InText [])

grounded-alike : (bs : List ℕ) → Alike bs → Grounded bs
grounded-alike bs h n = ((h n).0 ∙ sym (events-reported 0 bs), (h n).1)

alike-append : (xs ys : List ℕ) → Alike xs → Alike ys → Alike (xs ++ ys)
alike-append xs ys h k n =
    let on = λ (m : ℕ). events_from-append m (InText []) xs ys
    ∙ (ap (λ (es : List Event). es ++ events_from m (after_bytes (InText []) xs) ys) (h m).0
    ∙ (ap (λ (q : Pending). events_from 0 (InText []) xs ++ events_from m q ys) (h m).1
    ∙ ap (λ (es : List Event). events_from 0 (InText []) xs ++ es) (k m).0)) in (
      on n ∙ sym (on 0),
      after_bytes-append (InText []) xs ys ∙ (ap (λ (q : Pending). after_bytes q ys) (h 0).1 ∙ (k 0).1),
    )

either : (v : Bool) (x y : List ℕ) → Alike x → Alike y → Alike (if v then x else y)
either v x y h k = if_holds Alike v x y h k

none : Alike []
none n = (refl, refl)

-- ---- a header

abbrev AreHeader : List ℕ → Type 0
AreHeader bs = AllByRecursion (λ b. is_header b ≡ true) bs

pub header-byte : (n : ℕ) (h : List ℕ) (b : ℕ) → is_header b ≡ true
    → (events_of_byte n (InCsi h) b ≡ []) × (after_byte (InCsi h) b ≡ InCsi (h ++ b ∷ []))
header-byte n h b k =
    let esc : is_esc b ≡ false = grind (arith, nat_tests) in
    let ends : ends_header b ≡ false = grind (arith, nat_tests) in
    let control : is_control b ≡ false = grind (arith, nat_tests) in
    (rw (control, ends, esc) refl, rw (k, ends, esc) refl)

pub header-run : (n : ℕ) (h k rest : List ℕ) → AreHeader k
    → (events_from n (InCsi h) (k ++ rest) ≡ events_from n (InCsi (h ++ k)) rest)
    × (after_bytes (InCsi h) (k ++ rest) ≡ after_bytes (InCsi (h ++ k)) rest)
header-run n h [] rest are = rw (append-nil h) (refl, refl)
header-run n h (b ∷ k) rest are =
    let byte = header-byte n h b are.0 in
    let more = header-run n (h ++ b ∷ []) k rest are.1 in
    let same : (h ++ b ∷ []) ++ k ≡ h ++ b ∷ k = append_assoc h (b ∷ []) k in (
      ap (λ (es : List Event). es ++ events_from n (after_byte (InCsi h) b) (k ++ rest)) byte.0
          ∙ (ap (λ (q : Pending). events_from n q (k ++ rest)) byte.1
          ∙ (more.0 ∙ ap (λ (x : List ℕ). events_from n (InCsi x) rest) same)),
      ap (λ (q : Pending). after_bytes q (k ++ rest)) byte.1
          ∙ (more.1 ∙ ap (λ (x : List ℕ). after_bytes (InCsi x) rest) same),
    )

alike-sgr : (h : List ℕ) → AreHeader h → Alike (0x1B ∷ 0x5B ∷ (h ++ 0x6D ∷ []))
alike-sgr h are n =
    let here = header-run n [] h (0x6D ∷ []) are in
    let first = header-run 0 [] h (0x6D ∷ []) are in
    (here.0 ∙ sym first.0, here.1)

-- ---- numbers

header-append : (xs ys : List ℕ) → AreHeader xs → AreHeader ys → AreHeader (xs ++ ys)
header-append [] ys h k = k
header-append (x ∷ xs) ys h k = (h.0, header-append xs ys h.1 k)

digit-header : (d : ℕ) → 48 ≤ d → d ≤ 57 → is_header d ≡ true
digit-header d h k = grind (arith, nat_tests)

digits-header : (ds : List ℕ) → AllDigits 10 ds → AreHeader ds
digits-header [] h = tt
digits-header (d ∷ ds) h =
    let r = digit_from_value d h.0 in
    (digit-header d (omega (arith, r)) (omega (arith, r)), digits-header ds h.1)

decimal-header : (n : ℕ) → n < 65536 → AreHeader (decimal n)
decimal-header n h = digits-header (decimal n) (decimal_is_IsNumeral n (omega (arith, h))).0.1

further-header : (ns : List ℕ) → IsSmall ns → AreHeader (flat_map (λ y. codes ":" ++ decimal y) ns)
further-header [] h = tt
further-header (n ∷ ns) h =
    header-append (codes ":" ++ decimal n) _ (refl, decimal-header n h.0) (further-header ns h.1)

group-header : (g : List ℕ) → IsSmall g → AreHeader (group_text g)
group-header [] h = tt
group-header (n ∷ ns) h = header-append (decimal n) _ (decimal-header n h.0) (further-header ns h.1)

later-header : (gs : List (List ℕ)) → AreSmall gs → AreHeader (flat_map (λ y. codes ";" ++ group_text y) gs)
later-header [] h = tt
later-header (g ∷ gs) h =
    header-append (codes ";" ++ group_text g) _ (refl, group-header g h.0) (later-header gs h.1)

pub groups-header : (gs : List (List ℕ)) → AreSmall gs → AreHeader (groups_text gs)
groups-header [] h = tt
groups-header (g ∷ gs) h = header-append (group_text g) _ (group-header g h.0) (later-header gs h.1)

-- ---- each sequence

small-append : (xs ys : List (List ℕ)) → AreSmall xs → AreSmall ys → AreSmall (xs ++ ys)
small-append [] ys h k = k
small-append (x ∷ xs) ys h k = (h.0, small-append xs ys h.1 k)

pub all-small : (gs : List (List ℕ)) → AreSmall gs → AreSmall (flat_map as_known gs)
all-small [] h = tt
all-small (g ∷ gs) h = small-append (as_known g) (flat_map as_known gs) (known-small g h.0) (all-small gs h.1)

alike-groups : (gs : List (List ℕ)) → AreSmall gs → Alike (sgr gs)
alike-groups [] h = none
alike-groups (g ∷ gs) h = alike-sgr (groups_text (g ∷ gs)) (groups-header (g ∷ gs) h)

alike-mode : (set : Bool) (s : CharacterSets) (g : List ℕ) → Alike (mode_behind set s g)
alike-mode set s [] = none
alike-mode set s (m ∷ []) =
    either (m == 1047) _ _
    (either set _ _ (λ n. (refl, refl)) (either s.alternate _ _ (λ n. (refl, refl)) none))
    (either (m == 1048) _ _ (either set _ _ (λ n. (refl, refl)) (λ n. (refl, refl))) none)
alike-mode set s (m ∷ k ∷ g) = none

alike-modes : (set : Bool) (s : CharacterSets) (gs : List (List ℕ)) → Alike (modes_behind set s gs)
alike-modes set s [] = none
alike-modes set s (g ∷ gs) = alike-append (mode_behind set s g) (modes_behind set (after_mode set s g) gs)
    (alike-mode set s g) (alike-modes set (after_mode set s g) gs)

alike-csi : (s : CharacterSets) (gs : List (List ℕ)) (is : List ℕ) (many : Bool) (f : ℕ) → AreSmall gs
    → Alike (csi_behind s gs is many f)
alike-csi s gs [] many f h =
    either (f == 0x6D) _ _
    (either many _ _ none (either (list_all is_known gs) _ _ none
    (alike-groups (flat_map as_known gs) (all-small gs h))))
    (either (f == 0x72) _ _ (λ n. (refl, refl))
    (either (is_bare gs && f == 0x73) _ _ (λ n. (refl, refl))
    (either (is_bare gs && f == 0x75) _ _ (λ n. (refl, refl)) none)))
alike-csi s gs (i ∷ []) many f h =
    either (i == 0x21 && f == 0x70) _ _ (λ n. (refl, refl))
    (either (i == 0x3F && f == 0x68) _ _ (alike-modes true s gs)
    (either (i == 0x3F && f == 0x6C) _ _ (alike-modes false s gs) none))
alike-csi s gs (i ∷ j ∷ is) many f h = none

pub csi-grounded : (s : CharacterSets) (gs : List (List ℕ)) (is : List ℕ) (many : Bool) (f : ℕ) → AreSmall gs
    → Grounded (csi_behind s gs is many f)
csi-grounded s gs is many f h = grounded-alike (csi_behind s gs is many f) (alike-csi s gs is many f h)

alike-escape : (is : List ℕ) (f : ℕ) → Alike (escape_behind is f)
alike-escape [] f = either (f == 0x44) _ _ (λ n. (refl, refl)) (either (f == 0x45) _ _ (λ n. (refl, refl)) none)
alike-escape (i ∷ is) f = none

pub escape-grounded : (is : List ℕ) (f : ℕ) → Grounded (escape_behind is f)
escape-grounded is f = grounded-alike (escape_behind is f) (alike-escape is f)
