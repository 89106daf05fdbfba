-- What is given for one byte.
use Rattle.std.proofs.Common.{◌≡◌, ℕ, ◌+◌, ◌≤◌, Bool, true, false, ◌&&◌, ◌||◌, List, [], ◌∷◌, ◌++◌, length, ◌==◌}
use Rattle.std.proofs.Common.{nat_lt, take, Some, None, refl, sym, ◌∙◌, ap, inl, inr, arith, append-nil}
use Rattle.std.proofs.lemmas.Bool.Decides.{nat_tests}
use Rattle.std.specs.Char.{encode_utf8}
use Rattle.std.specs.Int.{is_in_range}
use Rattle.vte_core.specs.Event.{Event, Print, Execute, Csi, Esc}
use Rattle.vte_core.specs.Bytes.{is_esc, is_abort, is_control, is_put, ends_header, ends_escape, ends_osc, ends_device}
use Rattle.vte_core.specs.Text.{char_len, first_bits, joined, char_event, malformed_event}
use Rattle.vte_core.specs.Header.{is_well_formed}
use Rattle.vte_core.specs.Pending.{Pending, InText, InEscape, InCsi, InOsc, InHook, InDevice, InSwallowed, IsSound}
use Rattle.vte_core.specs.Pending.{reported, goes_on, begun, text_reported, closed, final_reported, events_of_byte}
use Rattle.vte_core.specs.Pending.{after_byte, events_from, after_bytes}
use Rattle.vte_core.specs.Stopping.{is_text}
use Rattle.vte_core.proofs.Characters.{bool_cases, if_holds}
use Rattle.vte_types.specs.Charset.{mapped}
use Rattle.vte_core.specs.Shapes.{events}
use Rattle.vte_core.specs.Header.{kept_groups, kept_intermediates, overflows}
use Rattle.charset_filter.specs.Sets.{after_event, after_events, drawing_set, shown}
use Rattle.charset_filter.specs.Behind.{behind, drawn_events}
use Rattle.charset_filter.specs.Given.{is_drawable, last_behind, last_drawn, given_byte, given_for}
use Rattle.charset_filter.specs.Filter.{is_sequence}
use Rattle.charset_filter.specs.declared.sets.CharacterSets.{CharacterSets}
use Rattle.charset_filter.proofs.Codes.{high-joined}
use Rattle.charset_filter.proofs.EventLemmas.{prints_nothing, silent-events, silent-last, unmarked-last}
use Rattle.charset_filter.proofs.MarkLemmas.{Ends, NoMark, escape-ends, csi-ends, outside-unmarked}
use Rattle.charset_filter.proofs.NumberLemmas.{kept-small}
use Rattle.charset_filter.proofs.GroundLemmas.{Grounded, csi-grounded, escape-grounded}
use Rattle.charset_filter.proofs.Drawings.{begun-one, drawable-printed, mapped-same, off-drawable, printed-mapped}

-- only text prints

abbrev Silent : List Event → Type 0
Silent es = prints_nothing es ≡ true

silent-reported : (p : ℕ → Bool) (b : ℕ) → Silent (reported p Execute b)
silent-reported p b = if_holds Silent (p b) (Execute b ∷ []) [] refl refl

silent-final : (is : List ℕ) (b : ℕ) → Silent (final_reported is b)
silent-final is b =
    if_holds Silent (length is == 0 && b == 0x5B) _ _ refl (if_holds Silent (length is == 0 && b == 0x5D) _ _ refl
    (if_holds Silent (length is == 0 && b == 0x50) _ _ refl
    (if_holds Silent (length is == 0 && (b == 0x58 || (b == 0x5E || b == 0x5F))) _ _ refl refl)))

pub silent-byte : (n : ℕ) (q : Pending) (b : ℕ) → is_text q ≡ false → prints_nothing (events_of_byte n q b) ≡ true
silent-byte n (InText u) b h = absurd (let no : true ≡ false = h in cc)
silent-byte n (InEscape is) b h = if_holds Silent (is_esc b) _ _ refl
    (if_holds Silent (ends_escape b) _ _ (if_holds Silent (is_abort b) _ _ refl (silent-final is b))
    (silent-reported is_control b))
silent-byte n (InCsi x) b h = if_holds Silent (is_esc b) _ _ refl
    (if_holds Silent (ends_header b) _ _
    (if_holds Silent (is_abort b) _ _ refl (if_holds Silent (is_well_formed x) _ _ refl refl))
    (silent-reported is_control b))
silent-byte n (InOsc d) b h = if_holds Silent (is_esc b) _ _ refl
    (if_holds Silent (ends_osc b) _ _ (silent-reported is_abort b) refl)
silent-byte n (InHook x) b h = if_holds Silent (is_esc b) _ _ refl
    (if_holds Silent (ends_header b) _ _
    (if_holds Silent (is_abort b) _ _ refl (if_holds Silent (is_well_formed x) _ _ refl refl)) refl)
silent-byte n InDevice b h = if_holds Silent (is_esc b) _ _ refl
    (if_holds Silent (ends_device b) _ _ (silent-reported is_abort b) (if_holds Silent (is_put b) _ _ refl refl))
silent-byte n InSwallowed b h = if_holds Silent (is_esc b) _ _ refl (silent-reported is_abort b)

-- text that no set draws otherwise

abbrev Steady : Event → Type 0
Steady e = (s : CharacterSets) → (shown s e ≡ e) × (behind s e ≡ [])

abbrev Fixed : List Event → Type 0
Fixed es = (s : CharacterSets) → drawn_events s es ≡ es

fixed-one : (e : Event) → Steady e → Fixed (e ∷ [])
fixed-one e h s = ap (λ (x : Event). x ∷ (events 0 (behind s e) ++ [])) (h s).0
    ∙ ap (λ (bs : List ℕ). e ∷ (events 0 bs ++ [])) (h s).1

fixed-cons : (e : Event) (es : List Event) → Steady e → Fixed es → Fixed (e ∷ es)
fixed-cons e es h k s =
    ap (λ (x : Event). x ∷ (events 0 (behind s e) ++ drawn_events (after_event s e) es)) (h s).0
    ∙ (ap (λ (bs : List ℕ). e ∷ (events 0 bs ++ drawn_events (after_event s e) es)) (h s).1
    ∙ ap (λ (xs : List Event). e ∷ xs) (k (after_event s e)))

fixed-none : Fixed []
fixed-none s = refl

steady-print : (c : ℕ) → is_drawable c ≡ false → Steady (Print c)
steady-print c h s = (ap Print (mapped-same (drawing_set s) c h), refl)

steady-char : (c : ℕ) → is_drawable c ≡ false → Steady (char_event c)
steady-char c h = if_holds Steady (nat_lt c 0x20 || is_in_range 0x80 0x9F c) (Execute c) (Print c) (λ s. (refl, refl))
    (steady-print c h)

steady-malformed : (b : ℕ) → Steady (malformed_event 1 b)
steady-malformed b = if_holds Steady (1 == 1 && is_in_range 0x80 0x9F b) (Execute b) (Print 0xFFFD) (λ s. (refl, refl))
    (steady-print 0xFFFD refl)

pub first-same : (b : ℕ) → (char_len b == 1) ≡ true → first_bits b ≡ b
first-same b h = grind (arith, nat_tests)

fixed-begun : (b : ℕ) → is_drawable b ≡ false → Fixed (begun b)
fixed-begun b h =
    elim (bool_cases (char_len b == 1)) [
      | inl e ↦ rw (e, first-same b e) (fixed-one (char_event b) (steady-char b h))
      | inr e ↦ rw e (if_holds Fixed (char_len b == 0) _ _ (fixed-one (malformed_event 1 b) (steady-malformed b))
          fixed-none)
    ]

high-undrawn : (c : ℕ) → 0x80 ≤ c → is_drawable c ≡ false
high-undrawn c h = grind (arith, nat_tests)

pub is-len : (k l : ℕ) → (k == l) ≡ true → k ≡ l
is-len k l h = grind (arith, nat_tests)

fixed-text : (u : List ℕ) (b : ℕ) → IsSound (InText u) → is_drawable b ≡ false → Fixed (text_reported u b)
fixed-text [] b k h = fixed-begun b h
fixed-text (a ∷ t) b k h =
    elim (bool_cases (goes_on a t b)) [
      | inl e ↦ rw e (elim (bool_cases (length t + 2 == char_len a)) [
        | inl f ↦
            let high = high-joined a t b k e (is-len (length t + 2) (char_len a) f) in
            rw f (fixed-one (char_event (joined (first_bits a) (t ++ b ∷ [])))
            (steady-char (joined (first_bits a) (t ++ b ∷ []))
            (high-undrawn (joined (first_bits a) (t ++ b ∷ [])) high)))
        | inr f ↦ rw f fixed-none
      ])
      | inr e ↦ rw e (fixed-cons (Print 0xFFFD) (begun b) (steady-print 0xFFFD refl) (fixed-begun b h))
    ]

fixed-closed : (n : ℕ) (u : List ℕ) → Fixed (closed n (InText u))
fixed-closed n [] = fixed-none
fixed-closed n (a ∷ t) = fixed-one (Print 0xFFFD) (steady-print 0xFFFD refl)

-- text that is drawn

drawable-esc : (b : ℕ) → is_drawable b ≡ true → is_esc b ≡ false
drawable-esc b h = grind (arith, nat_tests)

drawn-text : (n : ℕ) (u : List ℕ) (b : ℕ) → is_drawable b ≡ true
    → events_of_byte n (InText u) b ≡ closed n (InText u) ++ Print b ∷ []
drawn-text n [] b h = rw (drawable-esc b h, (begun-one b (drawable-printed b h)).0) refl
drawn-text n (a ∷ t) b h =
    rw (drawable-esc b h, off-drawable a t b h, (begun-one b (drawable-printed b h)).0) refl

drawn-rest : (u : List ℕ) (b : ℕ) → is_drawable b ≡ true → after_byte (InText u) b ≡ InText []
drawn-rest [] b h = rw (drawable-esc b h, (begun-one b (drawable-printed b h)).1) refl
drawn-rest (a ∷ t) b h =
    rw (drawable-esc b h, off-drawable a t b h, (begun-one b (drawable-printed b h)).1) refl

-- the set that draws it
abbrev pub set_behind : CharacterSets → List ℕ → CharacterSets
set_behind s u = after_events s (closed 0 (InText u))

last-drawn : (s : CharacterSets) (u : List ℕ) (b : ℕ)
    → last_drawn s None (closed 0 (InText u) ++ Print b ∷ []) ≡ Some (mapped (drawing_set (set_behind s u)) b)
last-drawn s [] b = refl
last-drawn s (a ∷ t) b = refl

last-none : (s : CharacterSets) (u : List ℕ) (b : ℕ) → last_behind s [] (closed 0 (InText u) ++ Print b ∷ []) ≡ []
last-none s [] b = refl
last-none s (a ∷ t) b = refl

pub given-drawn : (u : List ℕ) (s : CharacterSets) (b : ℕ) → is_drawable b ≡ true
    → given_for (InText u) s b ≡ encode_utf8 (mapped (drawing_set (set_behind s u)) b)
given-drawn u s b h =
    let c = mapped (drawing_set (set_behind s u)) b in
    rw (h, drawn-text 0 u b h, last-drawn s u b, last-none s u b) (append-nil (encode_utf8 c))

-- another is given as it is
pub undrawn-given : (u : List ℕ) (s : CharacterSets) (b : ℕ) → is_drawable b ≡ false
    → given_for (InText u) s b ≡ b ∷ []
undrawn-given u s b h =
    let es = events_of_byte 0 (InText u) b in
    ap (λ (bs : List ℕ). given_byte b (last_drawn s None es) ++ bs)
    (unmarked-last s es (outside-unmarked 0 (InText u) b refl)) ∙ rw h refl

shown-drawn : (n : ℕ) (s : CharacterSets) (u : List ℕ) (b : ℕ)
    → drawn_events s (closed n (InText u) ++ Print b ∷ [])
    ≡ closed n (InText u) ++ Print (mapped (drawing_set (set_behind s u)) b) ∷ []
shown-drawn n s [] b = refl
shown-drawn n s (a ∷ t) b = ap (λ (x : Event). x ∷ Print (mapped (drawing_set (set_behind s (a ∷ t))) b) ∷ [])
    (steady-print 0xFFFD refl s).0

-- what is given has the byte's events, as it is drawn, and leaves what the byte leaves
abbrev pub Represents : Pending → CharacterSets → ℕ → Type 0
Represents q s b = (n : ℕ) → (events_from n q (given_for q s b) ≡ drawn_events s (events_of_byte n q b))
    × (after_bytes q (given_for q s b) ≡ after_byte q b)

as-it-is : (q : Pending) (s : CharacterSets) (b : ℕ) → given_for q s b ≡ b ∷ []
    → ((n : ℕ) → drawn_events s (events_of_byte n q b) ≡ events_of_byte n q b) → Represents q s b
as-it-is q s b given same n =
    rw given (append-nil (events_of_byte n q b) ∙ sym (same n), refl)

pub silent-bytes : (q : Pending) (s : CharacterSets) (b : ℕ) → is_text q ≡ false
    → given_byte b (last_drawn s None (events_of_byte 0 q b)) ≡ b ∷ []
silent-bytes q s b h =
    let none : last_drawn s None (events_of_byte 0 q b) ≡ None =
    silent-last s None (events_of_byte 0 q b) (silent-byte 0 q b h) in
    rw none (if_holds (λ (x : List ℕ). x ≡ b ∷ []) (is_drawable b) (b ∷ []) (b ∷ []) refl refl)

-- with these bytes behind it
pub silent-given : (q : Pending) (s : CharacterSets) (b : ℕ) (bytes : List ℕ) → is_text q ≡ false
    → last_behind s [] (events_of_byte 0 q b) ≡ bytes → given_for q s b ≡ b ∷ bytes
silent-given q s b bytes h is =
    ap (λ (xs : List ℕ). xs ++ last_behind s [] (events_of_byte 0 q b)) (silent-bytes q s b h)
    ∙ ap (λ (xs : List ℕ). b ∷ xs) is

state_after-silent : (q : Pending) (s : CharacterSets) (b : ℕ) → is_text q ≡ false → NoMark q b → Represents q s b
state_after-silent q s b h none = as-it-is q s b
    (silent-given q s b [] h (unmarked-last s (events_of_byte 0 q b) (none 0)))
    (λ n. silent-events s (events_of_byte n q b) (silent-byte n q b h) (none n))

-- the byte ends a sequence, and bytes may be behind its event
state_after-ends : (q : Pending) (s : CharacterSets) (b : ℕ) (e : Event) → is_text q ≡ false → shown s e ≡ e
    → Grounded (behind s e) → Ends q b e → Represents q s b
state_after-ends q s b e h same grounded ends n =
    let bytes = behind s e in
    let given : given_for q s b ≡ b ∷ bytes = silent-given q s b bytes h (ap (last_behind s []) (ends.events 0)) in
    let read : events_from n q (b ∷ bytes) ≡ e ∷ events 0 bytes =
    ap (λ (es : List Event). es ++ events_from n (after_byte q b) bytes) (ends.events n)
    ∙ (ap (λ (x : Pending). e ∷ events_from n x bytes) ends.rest
    ∙ ap (λ (es : List Event). e ∷ es) (grounded n).0) in
    let wanted : drawn_events s (events_of_byte n q b) ≡ e ∷ events 0 bytes =
    ap (drawn_events s) (ends.events n)
    ∙ (ap (λ (x : Event). x ∷ (events 0 bytes ++ [])) same
    ∙ ap (λ (es : List Event). e ∷ es) (append-nil (events 0 bytes))) in
    let left : after_bytes q (b ∷ bytes) ≡ after_byte q b =
    ap (λ (x : Pending). after_bytes x bytes) ends.rest ∙ ((grounded n).1 ∙ sym ends.rest) in
    (ap (events_from n q) given ∙ (read ∙ sym wanted), ap (after_bytes q) given ∙ left)

fixed-byte : (n : ℕ) (u : List ℕ) (b : ℕ) → IsSound (InText u) → is_drawable b ≡ false
    → Fixed (events_of_byte n (InText u) b)
fixed-byte n u b k h = if_holds Fixed (is_esc b) _ _ (fixed-closed n u) (fixed-text u b k h)

state_after-text : (u : List ℕ) (s : CharacterSets) (b : ℕ) → IsSound (InText u) → Represents (InText u) s b
state_after-text u s b k =
    elim (bool_cases (is_drawable b)) [
      | inl e ↦ λ n.
          let x = drawing_set (set_behind s u) in
          let p = printed-mapped x b e n u in
          rw (given-drawn u s b e) (
            p.0 ∙ (sym (shown-drawn n s u b) ∙ ap (drawn_events s) (sym (drawn-text n u b e))),
            p.1 ∙ sym (drawn-rest u b e),
          )
      | inr e ↦ as-it-is (InText u) s b (undrawn-given u s b e) (λ n. fixed-byte n u b k e s)
    ]

state_after-outside : (q : Pending) (s : CharacterSets) (b : ℕ) → is_text q ≡ false → is_sequence q ≡ false
    → Represents q s b
state_after-outside q s b h out = state_after-silent q s b h (λ n. outside-unmarked n q b out)

pub represents : (q : Pending) (s : CharacterSets) (b : ℕ) → IsSound q → Represents q s b
represents (InText u) s b k = state_after-text u s b k
represents (InEscape is) s b k = elim (escape-ends is b) [
  | inl none ↦ state_after-silent (InEscape is) s b refl none
  | inr ends ↦
      state_after-ends (InEscape is) s b (Esc (take 2 is) (nat_lt 2 (length is)) b) refl refl
      (escape-grounded (take 2 is) b) ends
]
represents (InCsi x) s b k = elim (csi-ends x b) [
  | inl none ↦ state_after-silent (InCsi x) s b refl none
  | inr ends ↦
      state_after-ends (InCsi x) s b (Csi (kept_groups x) (kept_intermediates x) (overflows x) b) refl refl
      (csi-grounded s (kept_groups x) (kept_intermediates x) (overflows x) b (kept-small x)) ends
]
represents (InOsc d) s b k = state_after-outside (InOsc d) s b refl refl
represents (InHook x) s b k = state_after-outside (InHook x) s b refl refl
represents InDevice s b k = state_after-outside InDevice s b refl refl
represents InSwallowed s b k = state_after-outside InSwallowed s b refl refl

-- how much of an operating system command is kept makes no difference to the sets

pub sets-alike : (n m : ℕ) (q : Pending) (s : CharacterSets) (b : ℕ)
    → after_events s (events_of_byte n q b) ≡ after_events s (events_of_byte m q b)
sets-alike n m (InText []) s b = refl
sets-alike n m (InText (a ∷ t)) s b = refl
sets-alike n m (InEscape is) s b = refl
sets-alike n m (InCsi x) s b = refl
sets-alike n m (InOsc d) s b =
    elim (bool_cases (is_esc b)) [
      | inl e ↦ rw e refl
      | inr e ↦ rw e (elim (bool_cases (ends_osc b)) [ inl f ↦ rw f refl | inr f ↦ rw f refl ])
    ]
sets-alike n m (InHook x) s b = refl
sets-alike n m InDevice s b = refl
sets-alike n m InSwallowed s b = refl

-- nor to the bytes behind the last event
pub last-alike : (n m : ℕ) (q : Pending) (s : CharacterSets) (b : ℕ)
    → last_behind s [] (events_of_byte n q b) ≡ last_behind s [] (events_of_byte m q b)
last-alike n m (InText []) s b = refl
last-alike n m (InText (a ∷ t)) s b = refl
last-alike n m (InEscape is) s b = refl
last-alike n m (InCsi x) s b = refl
last-alike n m (InOsc d) s b =
    unmarked-last s (events_of_byte n (InOsc d) b) (outside-unmarked n (InOsc d) b refl)
    ∙ sym (unmarked-last s (events_of_byte m (InOsc d) b) (outside-unmarked m (InOsc d) b refl))
last-alike n m (InHook x) s b = refl
last-alike n m InDevice s b = refl
last-alike n m InSwallowed s b = refl
