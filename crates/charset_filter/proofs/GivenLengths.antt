-- How many bytes are given for some bytes: at most eight for each, and what the sequence before them may bring.
use Rattle.std.proofs.Common.{◌≡◌, ℕ, ◌+◌, ◌*◌, ◌≤◌, min, Bool, true, false, List, [], ◌∷◌, length}
use Rattle.std.proofs.Common.{length-append, ◌==◌, ◌&&◌, ◌||◌, if◌then◌else◌, Option, None, Some, refl, sym, ap}
use Rattle.std.proofs.Common.{subst, take}
use Rattle.std.proofs.Common.{inl, inr, arith}
use Rattle.std.proofs.lemmas.Bool.Decides.{nat_tests}
use Rattle.std.proofs.lemmas.Str.{length-encode, len_utf8_bounds}
use Rattle.std.specs.Char.{encode_utf8}
use Rattle.vte_core.specs.Event.{Event}
use Rattle.vte_core.specs.Bytes.{is_abort, is_esc, is_header, ends_escape, ends_header}
use Rattle.vte_core.specs.Header.{kept_groups, kept_intermediates, overflows}
use Rattle.vte_core.specs.Pending.{Pending, InText, InEscape, InCsi, InOsc, InHook, InDevice, InSwallowed}
use Rattle.vte_core.specs.Pending.{events_of_byte, after_byte, after_bytes, kept, byte_rest}
use Rattle.vte_core.proofs.Characters.{bool_cases, if_holds}
use Rattle.charset_filter.specs.Sets.{after_event, after_events}
use Rattle.charset_filter.specs.Behind.{behind, csi_behind, escape_behind}
use Rattle.charset_filter.specs.Filter.{is_sequence}
use Rattle.charset_filter.specs.Given.{drawn_or, given_byte, given_for, given_from, is_drawable}
use Rattle.charset_filter.specs.Given.{last_behind, last_drawn}
use Rattle.charset_filter.specs.declared.sets.CharacterSets.{CharacterSets}
use Rattle.charset_filter.proofs.EventLemmas.{unmarked, unmarked-cons, unmarked-last}
use Rattle.charset_filter.proofs.MarkLemmas.{escape-ends, csi-ends, outside-unmarked}
use Rattle.charset_filter.proofs.ByteLemmas.{silent-bytes}
use Rattle.charset_filter.proofs.LengthLemmas.{csi-len, escape-len}
use Rattle.charset_filter.proofs.SequenceLemmas.{rest-outside}

-- ---- the event of a byte has at most 252 bytes behind it

abbrev pub AreShort : CharacterSets → List Event → Type 0
AreShort s [] = Unit {0}
AreShort s (e ∷ es) = (length (behind s e) ≤ 252) × AreShort (after_event s e) es

unmarked-short : (s : CharacterSets) (es : List Event) → unmarked es ≡ true → AreShort s es
unmarked-short s [] h = tt
unmarked-short s (e ∷ es) h =
    let p = unmarked-cons e es h in
    (omega (arith, ap length (p.0 s)), unmarked-short (after_event s e) es p.1)

outside-short : (q : Pending) (s : CharacterSets) (b : ℕ) → is_sequence q ≡ false → AreShort s (events_of_byte 0 q b)
outside-short q s b h = unmarked-short s (events_of_byte 0 q b) (outside-unmarked 0 q b h)

pub byte-short : (q : Pending) (s : CharacterSets) (b : ℕ) → AreShort s (events_of_byte 0 q b)
byte-short (InText u) s b = outside-short (InText u) s b refl
byte-short (InEscape is) s b = elim (escape-ends is b) [
  | inl none ↦ unmarked-short s (events_of_byte 0 (InEscape is) b) (none 0)
  | inr ends ↦ subst (AreShort s) (sym (ends.events 0)) (omega (arith, escape-len (take 2 is) b), tt)
]
byte-short (InCsi h) s b = elim (csi-ends h b) [
  | inl none ↦ unmarked-short s (events_of_byte 0 (InCsi h) b) (none 0)
  | inr ends ↦ subst (AreShort s) (sym (ends.events 0)) ((csi-len s h (overflows h) b).0, tt)
]
byte-short (InOsc d) s b = outside-short (InOsc d) s b refl
byte-short (InHook h) s b = outside-short (InHook h) s b refl
byte-short InDevice s b = outside-short InDevice s b refl
byte-short InSwallowed s b = outside-short InSwallowed s b refl

-- ---- the length of a pending sequence, as far as it counts

abbrev pub weight : Pending → ℕ
weight (InText u) = 0
weight (InEscape is) = 1
weight (InCsi h) = 2 + length h
weight (InOsc d) = 0
weight (InHook h) = 0
weight InDevice = 0
weight InSwallowed = 0

abbrev pub held : Pending → ℕ
held q = 7 * min (weight q) 32

outside-weight : (q : Pending) → is_sequence q ≡ false → weight q ≡ 0
outside-weight (InText u) h = refl
outside-weight (InEscape is) h = absurd (let no : true ≡ false = h in cc)
outside-weight (InCsi x) h = absurd (let no : true ≡ false = h in cc)
outside-weight (InOsc d) h = refl
outside-weight (InHook x) h = refl
outside-weight InDevice h = refl
outside-weight InSwallowed h = refl

abbrev AtMost : ℕ → Pending → Type 0
AtMost k q = held q ≤ k

either : (k : ℕ) (v : Bool) (x y : Pending) → AtMost k x → AtMost k y → AtMost k (if v then x else y)
either k v x y h l = if_holds (AtMost k) v x y h l

escape-rest : (is : List ℕ) (b : ℕ) → held (after_byte (InEscape is) b) ≤ 14
escape-rest is b =
    either 14 (is_esc b) _ _ (omega arith)
    (either 14 (ends_escape b) _ _
    (either 14 (is_abort b) _ _ (omega arith)
    (either 14 (length is == 0 && b == 0x5B) _ _ (omega arith)
    (either 14 (length is == 0 && b == 0x5D) _ _ (omega arith)
    (either 14 (length is == 0 && b == 0x50) _ _ (omega arith)
    (either 14 (length is == 0 && (b == 0x58 || (b == 0x5E || b == 0x5F))) _ _ (omega arith) (omega arith))))))
    (omega arith))

kept-few : (b : ℕ) → length (kept is_header b) ≤ 1
kept-few b = if_holds (λ (bs : List ℕ). length bs ≤ 1) (is_header b) (b ∷ []) [] (omega arith) (omega arith)

csi-rest : (h : List ℕ) (b : ℕ) → held (after_byte (InCsi h) b) ≤ held (InCsi h) + 7
csi-rest h b =
    let k = held (InCsi h) + 7 in
    either k (is_esc b) _ _ (omega arith)
    (either k (ends_header b) _ _ (omega arith)
    (omega (arith, length-append h (kept is_header b), kept-few b)))

-- ---- what is given for a byte

char-few : (c : ℕ) → length (encode_utf8 c) ≤ 4
unfolding encode_utf8
char-few c = omega (arith, length-encode c, (len_utf8_bounds c).1)

drawn-few : (b : ℕ) (d : Option ℕ) → length (drawn_or b d) ≤ 4
drawn-few b None = omega arith
drawn-few b (Some c) = char-few c

given-few : (b : ℕ) (d : Option ℕ) → length (given_byte b d) ≤ 4
given-few b d = if_holds (λ (bs : List ℕ). length bs ≤ 4) (is_drawable b) _ _ (drawn-few b d) (omega arith)

esc-undrawn : (b : ℕ) → is_esc b ≡ true → is_drawable b ≡ false
esc-undrawn b h = grind (arith, nat_tests)

esc-one : (b : ℕ) (d : Option ℕ) → is_esc b ≡ true → length (given_byte b d) ≡ 1
esc-one b d h = rw (esc-undrawn b h) refl

abbrev drawn : Pending → CharacterSets → ℕ → List ℕ
drawn q s b = given_byte b (last_drawn s None (events_of_byte 0 q b))

abbrev behind_byte : Pending → CharacterSets → ℕ → List ℕ
behind_byte q s b = last_behind s [] (events_of_byte 0 q b)

parts : (q : Pending) (s : CharacterSets) (b : ℕ)
    → length (given_for q s b) ≡ length (drawn q s b) + length (behind_byte q s b)
parts q s b = length-append (drawn q s b) (behind_byte q s b)

no-mark : (q : Pending) (s : CharacterSets) (b : ℕ) → unmarked (events_of_byte 0 q b) ≡ true
    → length (behind_byte q s b) ≡ 0
no-mark q s b h = ap length (unmarked-last s (events_of_byte 0 q b) h)

abbrev Holds : Pending → CharacterSets → ℕ → Type 0
Holds q s b = length (given_for q s b) + held (after_byte q b) ≤ held q + 8

outside-len : (q : Pending) (s : CharacterSets) (b : ℕ) → is_sequence q ≡ false → Holds q s b
outside-len q s b h =
    let none = no-mark q s b (outside-unmarked 0 q b h) in
    let all = parts q s b in
    elim (bool_cases (is_esc b)) [
      | inl e ↦
          let one : length (drawn q s b) ≡ 1 = esc-one b (last_drawn s None (events_of_byte 0 q b)) e in
          let rest : after_byte q b ≡ InEscape [] = rw e refl in
          omega (arith, none, all, one, ap held rest)
      | inr e ↦
          let few = given-few b (last_drawn s None (events_of_byte 0 q b)) in
          let rest : after_byte q b ≡ byte_rest q b = rw e refl in
          let out : weight (byte_rest q b) ≡ 0 = outside-weight (byte_rest q b) (rest-outside q b h) in
          omega (arith, none, all, few, ap held rest, out)
    ]

byte-len : (q : Pending) (s : CharacterSets) (b : ℕ) → Holds q s b
byte-len (InText u) s b = outside-len (InText u) s b refl
byte-len (InEscape is) s b =
    let one : length (drawn (InEscape is) s b) ≡ 1 = ap length (silent-bytes (InEscape is) s b refl) in
    let all = parts (InEscape is) s b in
    elim (escape-ends is b) [
      | inl none ↦ omega (arith, one, all, no-mark (InEscape is) s b (none 0), escape-rest is b)
      | inr ends ↦
          let last : behind_byte (InEscape is) s b ≡ escape_behind (take 2 is) b =
          ap (last_behind s []) (ends.events 0) in
          omega (arith, one, all, ap length last, escape-len (take 2 is) b, ap held ends.rest)
    ]
byte-len (InCsi h) s b =
    let one : length (drawn (InCsi h) s b) ≡ 1 = ap length (silent-bytes (InCsi h) s b refl) in
    let all = parts (InCsi h) s b in
    elim (csi-ends h b) [
      | inl none ↦ omega (arith, one, all, no-mark (InCsi h) s b (none 0), csi-rest h b)
      | inr ends ↦
          let last : behind_byte (InCsi h) s b
          ≡ csi_behind s (kept_groups h) (kept_intermediates h) (overflows h) b =
          ap (last_behind s []) (ends.events 0) in
          omega (arith, one, all, ap length last, (csi-len s h (overflows h) b).1, ap held ends.rest)
    ]
byte-len (InOsc d) s b = outside-len (InOsc d) s b refl
byte-len (InHook h) s b = outside-len (InHook h) s b refl
byte-len InDevice s b = outside-len InDevice s b refl
byte-len InSwallowed s b = outside-len InSwallowed s b refl

-- ---- and for several

all-len : (q : Pending) (s : CharacterSets) (bs : List ℕ)
    → length (given_from q s bs) + held (after_bytes q bs) ≤ held q + 8 * length bs
all-len q s [] = omega arith
all-len q s (b ∷ bs) =
    let t = after_events s (events_of_byte 0 q b) in
    omega (
      arith,
      length-append (given_for q s b) (given_from (after_byte q b) t bs),
      byte-len q s b,
      all-len (after_byte q b) t bs,
    )

pub given-len : (q : Pending) (s : CharacterSets) (bs : List ℕ) → length (given_from q s bs) ≤ 224 + 8 * length bs
given-len q s bs = omega (arith, all-len q s bs)
