-- Streams that name no set of lines are given as they are.
use Rattle.std.proofs.Common.{◌≡◌, ℕ, ◌<◌, Bool, true, false, not, ◌&&◌, List, [], ◌∷◌, ◌++◌, ◌==◌, if◌then◌else◌}
use Rattle.std.proofs.Common.{Option, Some, None, refl, sym, ◌∙◌, ap, subst, inl, inr, arith, length}
use Rattle.std.proofs.lemmas.Bool.Decides.{nat_tests}
use Rattle.std.proofs.lemmas.Str.{encode_ascii}
use Rattle.std.specs.Char.{encode_utf8}
use Rattle.std.specs.Int.{is_in_range}
use Rattle.vte_core.specs.Event.{Event, Print, Execute, Hook, Put, Unhook, Osc, Csi, Esc}
use Rattle.vte_core.specs.Pending.{Pending, InText, InEscape, InCsi, InOsc, InHook, InDevice, InSwallowed, closed}
use Rattle.vte_core.specs.Pending.{events_of_byte, after_byte, events_from}
use Rattle.vte_core.proofs.Characters.{bool_cases, if_holds}
use Rattle.vte_core.proofs.Machine.{events-reported}
use Rattle.vte_types.specs.Charset.{mapped}
use Rattle.vte_types.specs.declared.charset.StandardCharset.{StandardCharset}
use Rattle.vte_types.specs.declared.charset.StandardCharset.TheVariants.{Ascii}
use Rattle.vte_types.specs.declared.charset.CharsetIndex.{CharsetIndex}
use Rattle.vte_types.specs.declared.charset.CharsetIndex.TheVariants.{G0, G1, G2, G3}
use Rattle.charset_filter.specs.Sets.{ascii, set_at, set_for, set_of, first_sets, locking, designating, drawing_set}
use Rattle.charset_filter.specs.Sets.{after_event, after_events, after_escape, after_unmarked_escape}
use Rattle.charset_filter.specs.Behind.{all_behind, behind}
use Rattle.charset_filter.specs.Given.{is_drawable, given_for, given_from, last_behind}
use Rattle.charset_filter.specs.Laws.{names_lines, names_none, KeepsAscii}
use Rattle.charset_filter.specs.declared.sets.Designations.{Designations}
use Rattle.charset_filter.specs.declared.sets.CharacterSets.{CharacterSets}
use Rattle.charset_filter.proofs.EventLemmas.{all_behind-append}
use Rattle.charset_filter.proofs.ByteLemmas.{set_behind, given-drawn, last-alike, silent-given, sets-alike}
use Rattle.charset_filter.proofs.ByteLemmas.{undrawn-given}
use Rattle.charset_filter.proofs.SavedLemmas.{Holds, holds-csi, holds-restored, holds-saved}

-- ASCII in all four
record IsAscii (d : Designations) : Type 0 where
  g0 : d.g0 ≡ Ascii
  g1 : d.g1 ≡ Ascii
  g2 : d.g2 ≡ Ascii
  g3 : d.g3 ≡ Ascii

ascii-ascii : IsAscii ascii
ascii-ascii = record { g0 = refl; g1 = refl; g2 = refl; g3 = refl }

-- it says nothing of a single shift
abbrev IsAny : Option CharsetIndex → Type 0
IsAny o = o ≡ o

abbrev AreAscii : CharacterSets → Type 0
AreAscii s = Holds IsAscii IsAny s

abbrev ascii-with : (s : CharacterSets) → IsAscii s.current → IsAscii s.main_saved → IsAscii s.alternate_saved
    → AreAscii s
ascii-with s c m a = record { current = c; single = refl; main = m; alternate = a }

ascii-first : AreAscii first_sets
ascii-first = ascii-with first_sets ascii-ascii ascii-ascii ascii-ascii

ascii-at : (d : Designations) (i : CharsetIndex) → IsAscii d → set_at d i ≡ Ascii
ascii-at d G0 h = h.g0
ascii-at d G1 h = h.g1
ascii-at d G2 h = h.g2
ascii-at d G3 h = h.g3

ascii-for : (d : Designations) (single : Option CharsetIndex) → IsAscii d → set_for d single ≡ Ascii
ascii-for d None h = ascii-at d d.locked h
ascii-for d (Some i) h = ascii-at d i h

ascii-locking : (s : CharacterSets) (i : CharsetIndex) → AreAscii s → AreAscii (locking s i)
ascii-locking s i h = ascii-with (locking s i)
    (record { g0 = h.current.g0; g1 = h.current.g1; g2 = h.current.g2; g3 = h.current.g3 }) h.main h.alternate

ascii-designating : (s : CharacterSets) (i : CharsetIndex) (x : StandardCharset) → x ≡ Ascii → AreAscii s
    → AreAscii (designating s i x)
ascii-designating s G0 x e h = ascii-with (designating s G0 x)
    (record { g0 = e; g1 = h.current.g1; g2 = h.current.g2; g3 = h.current.g3 }) h.main h.alternate
ascii-designating s G1 x e h = ascii-with (designating s G1 x)
    (record { g0 = h.current.g0; g1 = e; g2 = h.current.g2; g3 = h.current.g3 }) h.main h.alternate
ascii-designating s G2 x e h = ascii-with (designating s G2 x)
    (record { g0 = h.current.g0; g1 = h.current.g1; g2 = e; g3 = h.current.g3 }) h.main h.alternate
ascii-designating s G3 x e h = ascii-with (designating s G3 x)
    (record { g0 = h.current.g0; g1 = h.current.g1; g2 = h.current.g2; g3 = e }) h.main h.alternate

either : (v : Bool) (x y : CharacterSets) → AreAscii x → AreAscii y → AreAscii (if v then x else y)
either v x y h k = if_holds AreAscii v x y h k

ascii-unmarked : (s : CharacterSets) (f : ℕ) → AreAscii s → AreAscii (after_unmarked_escape s f)
ascii-unmarked s f h =
    either (f == 0x37) _ _ (holds-saved IsAscii IsAny s h)
    (either (f == 0x38) _ _ (holds-restored IsAscii IsAny s h)
    (either (f == 0x63) _ _ ascii-first
    (either (f == 0x4E) _ _ (ascii-with (record s { single = Some G2 }) h.current h.main h.alternate)
    (either (f == 0x4F) _ _ (ascii-with (record s { single = Some G3 }) h.current h.main h.alternate)
    (either (f == 0x6E) _ _ (ascii-locking s G2 h) (either (f == 0x6F) _ _ (ascii-locking s G3 h) h))))))

place : (i j : ℕ) → is_in_range 0x28 0x2B j ≡ true → (i == j) ≡ true → is_in_range 0x28 0x2B i ≡ true
place i j k h = grind (arith, nat_tests)

-- a designation that names no lines names ASCII
names-ascii : (i : ℕ) (is : List ℕ) (many : Bool) (f : ℕ) → is_in_range 0x28 0x2B i ≡ true
    → names_lines (Esc (i ∷ is) many f) ≡ false → set_of is f ≡ Ascii
names-ascii i [] many f k h =
    let no : (f == 0x30) ≡ false = rw k at h in
    rw no refl
names-ascii i (j ∷ is) many f k h = refl

ascii-designation : (s : CharacterSets) (j : ℕ) (g : CharsetIndex) (rest : CharacterSets) (i : ℕ) (is : List ℕ)
    (many : Bool) (f : ℕ) → is_in_range 0x28 0x2B j ≡ true → names_lines (Esc (i ∷ is) many f) ≡ false → AreAscii s
    → AreAscii rest → AreAscii (if i == j then designating s g (set_of is f) else rest)
ascii-designation s j g rest i is many f k h a r =
    elim (bool_cases (i == j)) [
      | inl e ↦ rw e (ascii-designating s g (set_of is f) (names-ascii i is many f (place i j k e) h) a)
      | inr e ↦ rw e r
    ]

ascii-escape : (s : CharacterSets) (is : List ℕ) (many : Bool) (f : ℕ) → names_lines (Esc is many f) ≡ false
    → AreAscii s → AreAscii (after_escape s is f)
ascii-escape s [] many f h a = ascii-unmarked s f a
ascii-escape s (i ∷ is) many f h a =
    ascii-designation s 0x28 G0 _ i is many f refl h a
    (ascii-designation s 0x29 G1 _ i is many f refl h a
    (ascii-designation s 0x2A G2 _ i is many f refl h a
    (ascii-designation s 0x2B G3 s i is many f refl h a a)))

ascii-event : (s : CharacterSets) (e : Event) → names_lines e ≡ false → AreAscii s → AreAscii (after_event s e)
ascii-event s (Print c) h a = ascii-with (record s { single = None }) a.current a.main a.alternate
ascii-event s (Execute b) h a =
    either (b == 0x0E) _ _ (ascii-locking s G1 a) (either (b == 0x0F) _ _ (ascii-locking s G0 a) a)
ascii-event s (Hook ps is many f) h a = a
ascii-event s (Put b) h a = a
ascii-event s Unhook h a = a
ascii-event s (Osc ps bell) h a = a
ascii-event s (Csi ps is many f) h a = holds-csi IsAscii IsAny s ps is f ascii-ascii refl a
ascii-event s (Esc is many f) h a = ascii-escape s is many f h a

both : (x y : Bool) → (not x && y) ≡ true → (x ≡ false) × (y ≡ true)
both true y h = absurd (let no : false ≡ true = h in cc)
both false y h = (refl, h)

ascii-events : (s : CharacterSets) (es : List Event) → names_none es ≡ true → AreAscii s
    → AreAscii (after_events s es)
ascii-events s [] h a = a
ascii-events s (e ∷ es) h a =
    let p = both (names_lines e) (names_none es) h in
    ascii-events (after_event s e) es p.1 (ascii-event s e p.0 a)

none-append : (xs ys : List Event) → names_none (xs ++ ys) ≡ true → (names_none xs ≡ true) × (names_none ys ≡ true)
none-append [] ys h = (refl, h)
none-append (x ∷ xs) ys h =
    let p = both (names_lines x) (names_none (xs ++ ys)) h in
    let q = none-append xs ys p.1 in
    (rw (p.0, q.0) refl, q.1)

closed-none : (u : List ℕ) → names_none (closed 0 (InText u)) ≡ true
closed-none [] = refl
closed-none (a ∷ t) = refl

text-given : (u : List ℕ) (s : CharacterSets) (b : ℕ) → AreAscii s → given_for (InText u) s b ≡ b ∷ []
text-given u s b a =
    elim (bool_cases (is_drawable b)) [
      | inl e ↦
          let t = set_behind s u in
          let behind = ascii-events s (closed 0 (InText u)) (closed-none u) a in
          let set : drawing_set t ≡ Ascii = ascii-for t.current t.single behind.current in
          let small : b < 0x80 = grind (arith, nat_tests) in
          given-drawn u s b e ∙ (ap (λ (x : StandardCharset). encode_utf8 (mapped x b)) set ∙ encode_ascii b small)
      | inr e ↦ undrawn-given u s b e
    ]

-- if no bytes are behind its events
byte-given : (q : Pending) (s : CharacterSets) (b : ℕ) → AreAscii s → last_behind s [] (events_of_byte 0 q b) ≡ []
    → given_for q s b ≡ b ∷ []
byte-given (InText u) s b a none = text-given u s b a
byte-given (InEscape is) s b a none = silent-given (InEscape is) s b [] refl none
byte-given (InCsi x) s b a none = silent-given (InCsi x) s b [] refl none
byte-given (InOsc d) s b a none = silent-given (InOsc d) s b [] refl none
byte-given (InHook x) s b a none = silent-given (InHook x) s b [] refl none
byte-given InDevice s b a none = silent-given InDevice s b [] refl none
byte-given InSwallowed s b a none = silent-given InSwallowed s b [] refl none

nothing : (xs ys : List ℕ) → xs ++ ys ≡ [] → (xs ≡ []) × (ys ≡ [])
nothing [] ys h = (refl, h)
nothing (x ∷ xs) ys h = absurd (omega (arith, ap length h))

last-nothing : (s : CharacterSets) (es : List Event) → all_behind s es ≡ [] → last_behind s [] es ≡ []
last-nothing s [] h = refl
last-nothing s (e ∷ es) h =
    let p = nothing (behind s e) (all_behind (after_event s e) es) h in
    ap (λ (bs : List ℕ). last_behind (after_event s e) bs es) p.0 ∙ last-nothing (after_event s e) es p.1

all-given : (n : ℕ) (q : Pending) (s : CharacterSets) (bs : List ℕ) → AreAscii s
    → names_none (events_from n q bs) ≡ true → all_behind s (events_from n q bs) ≡ [] → given_from q s bs ≡ bs
all-given n q s [] a h k = refl
all-given n q s (b ∷ bs) a h k =
    let es = events_of_byte n q b in
    let rest = events_from n (after_byte q b) bs in
    let p = none-append es rest h in
    let t = after_events s (events_of_byte 0 q b) in
    let next : AreAscii t = subst AreAscii (sets-alike n 0 q s b) (ascii-events s es p.0 a) in
    let parts = nothing (all_behind s es) (all_behind (after_events s es) rest)
    (sym (all_behind-append s es rest) ∙ k) in
    let none : last_behind s [] (events_of_byte 0 q b) ≡ [] = last-alike 0 n q s b ∙ last-nothing s es parts.0 in
    let later : all_behind t rest ≡ [] =
    ap (λ (x : CharacterSets). all_behind x rest) (sets-alike 0 n q s b) ∙ parts.1 in
    ap (λ (xs : List ℕ). xs ++ given_from (after_byte q b) t bs) (byte-given q s b a none)
    ∙ ap (λ (xs : List ℕ). b ∷ xs) (all-given n (after_byte q b) t bs next p.1 later)

pub keeps-ascii : KeepsAscii
keeps-ascii n bs h k = all-given n (InText []) first_sets bs ascii-first
    (subst (λ (es : List Event). names_none es ≡ true) (events-reported n bs) h)
    (ap (all_behind first_sets) (sym (events-reported n bs)) ∙ k)
