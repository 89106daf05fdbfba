-- Runs in which no set can change are given as they are.
use Rattle.std.proofs.Common.{◌≡◌, ℕ, ◌+◌, ◌≤◌, ◌<◌, Bool, true, false, not, ◌&&◌, ◌||◌, List, [], ◌∷◌, ◌++◌}
use Rattle.std.proofs.Common.{length, take, ◌==◌, nat_lt, Option, None, refl, sym, ◌∙◌, ap, subst}
use Rattle.std.proofs.Common.{inl, inr, arith, get_or, drop-cons, true≢false}
use Rattle.std.proofs.Math.Seq.{take-add}
use Rattle.std.proofs.lemmas.Bool.Decides.{nat_tests}
use Rattle.std.proofs.lemmas.Str.{encode_ascii}
use Rattle.std.specs.Char.{encode_utf8}
use Rattle.std.specs.Int.{is_in_range}
use Rattle.vte_core.specs.Event.{Event, Print, Execute, Hook, Put, Unhook, Osc, Csi, Esc}
use Rattle.std.specs.List.{AllByRecursion, list_all}
use Rattle.vte_core.specs.Bytes.{is_esc, is_abort, is_control, is_header, is_put, ends_header, ends_osc, ends_device}
use Rattle.vte_core.specs.Text.{char_len, first_bits, joined, char_event, malformed_event}
use Rattle.vte_core.specs.Header.{is_well_formed, kept_groups, kept_intermediates, overflows}
use Rattle.vte_core.specs.Stopping.{is_text}
use Rattle.vte_core.specs.Pending.{Pending, InText, InEscape, InCsi, InOsc, InHook, InDevice, InSwallowed, IsSound}
use Rattle.vte_core.specs.Pending.{reported, goes_on, begun, text_reported, closed}
use Rattle.vte_core.specs.Pending.{events_of_byte, after_byte, after_bytes}
use Rattle.vte_core.proofs.Characters.{bool_cases, if_holds}
use Rattle.vte_core.proofs.Machine.{IsSound-byte}
use Rattle.vte_types.specs.Charset.{mapped}
use Rattle.vte_types.specs.declared.charset.StandardCharset.{StandardCharset}
use Rattle.vte_types.specs.declared.charset.StandardCharset.TheVariants.{Ascii}
use Rattle.vte_types.specs.declared.charset.CharsetIndex.{CharsetIndex}
use Rattle.charset_filter.specs.Sets.{set_for, locked_set, after_csi, after_event, after_events, drawing_set, is_bare}
use Rattle.charset_filter.specs.Given.{is_drawable, given_for, given_from, last_behind}
use Rattle.charset_filter.specs.Behind.{csi_behind, is_known}
use Rattle.charset_filter.specs.Filter.{is_sequence}
use Rattle.charset_filter.specs.Steady.{IsSteady, is_quiet_final, place_after, place_at}
use Rattle.charset_filter.specs.declared.steady.Place.{Place}
use Rattle.charset_filter.specs.declared.steady.Place.TheVariants.{Outside, BehindEsc, InHeader, Broken}
use Rattle.charset_filter.specs.declared.sets.Designations.{Designations}
use Rattle.charset_filter.specs.declared.sets.CharacterSets.{CharacterSets}
use Rattle.charset_filter.proofs.Codes.{high-joined}
use Rattle.charset_filter.proofs.ByteLemmas.{set_behind, given-drawn, silent-given, undrawn-given, first-same, is-len}
use Rattle.charset_filter.proofs.EventLemmas.{unmarked-last}
use Rattle.charset_filter.proofs.GroundLemmas.{header-byte}
use Rattle.charset_filter.proofs.MarkLemmas.{csi-ends, outside-unmarked}
use Rattle.charset_filter.proofs.NumberLemmas.{lone-kept}
use Rattle.charset_filter.proofs.SequenceLemmas.{rest-outside}
use Rattle.charset_filter.proofs.SavedLemmas.{holds-csi}

abbrev is_escape : Pending → Bool
is_escape (InEscape is) = true
is_escape (InText u) = false
is_escape (InCsi h) = false
is_escape (InOsc s) = false
is_escape (InHook h) = false
is_escape InDevice = false
is_escape InSwallowed = false

outside-escape : (q : Pending) → is_sequence q ≡ false → is_escape q ≡ false
outside-escape (InText u) h = refl
outside-escape (InEscape is) h = h
outside-escape (InCsi x) h = refl
outside-escape (InOsc d) h = refl
outside-escape (InHook x) h = refl
outside-escape InDevice h = refl
outside-escape InSwallowed h = refl

-- events that keep ASCII in use

abbrev is_quiet : Event → Bool
is_quiet (Execute b) = not (b == 0x0E || b == 0x0F)
is_quiet (Esc is many f) = false
is_quiet e = true

abbrev are_quiet : List Event → Bool
are_quiet [] = true
are_quiet (e ∷ es) = is_quiet e && are_quiet es

abbrev DrawsAscii : Designations → Type 0
DrawsAscii d = locked_set d ≡ Ascii

abbrev IsNone : Option CharsetIndex → Type 0
IsNone o = o ≡ None

steady-csi : (s : CharacterSets) (groups : List (List ℕ)) (is : List ℕ) (f : ℕ) → IsSteady s
    → IsSteady (after_csi s groups is f)
steady-csi s groups is f k =
    let h = holds-csi DrawsAscii IsNone s groups is f refl refl
    (record { current = k.current; single = k.single; main = k.main; alternate = k.alternate }) in
    record { current = h.current; single = h.single; main = h.main; alternate = h.alternate }

not-or : (x y : Bool) → not (x || y) ≡ true → (x ≡ false) × (y ≡ false)
not-or true y h = absurd (let no : false ≡ true = h in cc)
not-or false true h = absurd (let no : false ≡ true = h in cc)
not-or false false h = (refl, refl)

steady-event : (s : CharacterSets) (e : Event) → is_quiet e ≡ true → IsSteady s → IsSteady (after_event s e)
steady-event s (Print c) h k =
    record { single = refl; current = k.current; main = k.main; alternate = k.alternate }
steady-event s (Execute b) h k = let p = not-or (b == 0x0E) (b == 0x0F) h in rw (p.0, p.1) k
steady-event s (Hook ps is many f) h k = k
steady-event s (Put b) h k = k
steady-event s Unhook h k = k
steady-event s (Osc ps bell) h k = k
steady-event s (Csi ps is many f) h k = steady-csi s ps is f k
steady-event s (Esc is many f) h k = absurd (let no : false ≡ true = h in cc)

both : (x y : Bool) → (x && y) ≡ true → (x ≡ true) × (y ≡ true)
both true y h = (refl, h)
both false y h = absurd (let no : false ≡ true = h in cc)

steady-events : (s : CharacterSets) (es : List Event) → are_quiet es ≡ true → IsSteady s → IsSteady (after_events s es)
steady-events s [] h k = k
steady-events s (e ∷ es) h k =
    let p = both (is_quiet e) (are_quiet es) h in
    steady-events (after_event s e) es p.1 (steady-event s e p.0 k)

-- the events of a byte that is neither SO nor SI, if no escape is pending

abbrev Quiet : List Event → Type 0
Quiet es = are_quiet es ≡ true

abbrev IsOther : ℕ → Type 0
IsOther b = not (b == 0x0E || b == 0x0F) ≡ true

quiet-execute : (b : ℕ) → IsOther b → Quiet (Execute b ∷ [])
quiet-execute b h = rw h refl

quiet-reported : (p : ℕ → Bool) (b : ℕ) → IsOther b → Quiet (reported p Execute b)
quiet-reported p b h = if_holds Quiet (p b) (Execute b ∷ []) [] (quiet-execute b h) refl

high-other : (c : ℕ) → 0x80 ≤ c → IsOther c
high-other c h = grind (arith, nat_tests)

quiet-char : (c : ℕ) → IsOther c → Quiet (char_event c ∷ [])
quiet-char c h = if_holds (λ (e : Event). Quiet (e ∷ [])) (nat_lt c 0x20 || is_in_range 0x80 0x9F c) (Execute c)
    (Print c) (quiet-execute c h) refl

quiet-malformed : (b : ℕ) → IsOther b → Quiet (malformed_event 1 b ∷ [])
quiet-malformed b h = if_holds (λ (e : Event). Quiet (e ∷ [])) (1 == 1 && is_in_range 0x80 0x9F b) (Execute b)
    (Print 0xFFFD) (quiet-execute b h) refl

quiet-begun : (b : ℕ) → IsOther b → Quiet (begun b)
quiet-begun b h =
    elim (bool_cases (char_len b == 1)) [
      | inl e ↦ rw (e, first-same b e) (quiet-char b h)
      | inr e ↦ rw e (if_holds Quiet (char_len b == 0) _ _ (quiet-malformed b h) refl)
    ]

quiet-text : (u : List ℕ) (b : ℕ) → IsSound (InText u) → IsOther b → Quiet (text_reported u b)
quiet-text [] b k h = quiet-begun b h
quiet-text (a ∷ t) b k h =
    elim (bool_cases (goes_on a t b)) [
      | inl e ↦ rw e (elim (bool_cases (length t + 2 == char_len a)) [
        | inl f ↦
            let high = high-joined a t b k e (is-len (length t + 2) (char_len a) f) in
            rw f (quiet-char (joined (first_bits a) (t ++ b ∷ []))
            (high-other (joined (first_bits a) (t ++ b ∷ [])) high))
        | inr f ↦ rw f refl
      ])
      | inr e ↦ rw e (quiet-begun b h)
    ]

quiet-closed : (u : List ℕ) → Quiet (closed 0 (InText u))
quiet-closed [] = refl
quiet-closed (a ∷ t) = refl

quiet-byte : (q : Pending) (b : ℕ) → IsSound q → is_escape q ≡ false → IsOther b → Quiet (events_of_byte 0 q b)
quiet-byte (InText u) b k e h = if_holds Quiet (is_esc b) _ _ (quiet-closed u) (quiet-text u b k h)
quiet-byte (InEscape is) b k e h = absurd (let no : true ≡ false = e in cc)
quiet-byte (InCsi x) b k e h = if_holds Quiet (is_esc b) _ _ refl
    (if_holds Quiet (ends_header b) _ _
    (if_holds Quiet (is_abort b) _ _ (quiet-execute b h) (if_holds Quiet (is_well_formed x) _ _ refl refl))
    (quiet-reported is_control b h))
quiet-byte (InOsc d) b k e h = if_holds Quiet (is_esc b) _ _ refl
    (if_holds Quiet (ends_osc b) _ _ (quiet-reported is_abort b h) refl)
quiet-byte (InHook x) b k e h = if_holds Quiet (is_esc b) _ _ refl
    (if_holds Quiet (ends_header b) _ _
    (if_holds Quiet (is_abort b) _ _ (quiet-execute b h) (if_holds Quiet (is_well_formed x) _ _ refl refl)) refl)
quiet-byte InDevice b k e h = if_holds Quiet (is_esc b) _ _ refl
    (if_holds Quiet (ends_device b) _ _ (quiet-reported is_abort b h) (if_holds Quiet (is_put b) _ _ refl refl))
quiet-byte InSwallowed b k e h = if_holds Quiet (is_esc b) _ _ refl (quiet-reported is_abort b h)

-- such a byte is given as it is

steady-set : (s : CharacterSets) → IsSteady s → drawing_set s ≡ Ascii
steady-set s k = ap (set_for s.current) k.single ∙ k.current

ascii-bytes : (b : ℕ) → is_drawable b ≡ true → encode_utf8 b ≡ b ∷ []
ascii-bytes b h = encode_ascii b (grind (arith, nat_tests))

steady-text : (u : List ℕ) (s : CharacterSets) (b : ℕ) → IsSteady s → given_for (InText u) s b ≡ b ∷ []
steady-text u s b k =
    elim (bool_cases (is_drawable b)) [
      | inl e ↦
          let t = set_behind s u in
          let set = steady-set t (steady-events s (closed 0 (InText u)) (quiet-closed u) k) in
          given-drawn u s b e ∙ (ap (λ (x : StandardCharset). encode_utf8 (mapped x b)) set ∙ ascii-bytes b e)
      | inr e ↦ undrawn-given u s b e
    ]

other-given : (q : Pending) (s : CharacterSets) (b : ℕ) → is_text q ≡ false → is_sequence q ≡ false
    → given_for q s b ≡ b ∷ []
other-given q s b h o =
    silent-given q s b [] h (unmarked-last s (events_of_byte 0 q b) (outside-unmarked 0 q b o))

steady-given : (q : Pending) (s : CharacterSets) (b : ℕ) → IsSteady s → is_sequence q ≡ false
    → given_for q s b ≡ b ∷ []
steady-given (InText u) s b k o = steady-text u s b k
steady-given (InEscape is) s b k o = absurd (let no : true ≡ false = o in cc)
steady-given (InCsi x) s b k o = absurd (let no : true ≡ false = o in cc)
steady-given (InOsc d) s b k o = other-given (InOsc d) s b refl refl
steady-given (InHook x) s b k o = other-given (InHook x) s b refl refl
steady-given InDevice s b k o = other-given InDevice s b refl refl
steady-given InSwallowed s b k o = other-given InSwallowed s b refl refl

-- ---- the end of a control sequence without bytes behind it

abbrev IsEmpty : List ℕ → Type 0
IsEmpty bs = bs ≡ []

and-false : (x y : Bool) → y ≡ false → (x && y) ≡ false
and-false true y h = h
and-false false y h = refl

quiet-isnt : (f k : ℕ) → is_quiet_final f ≡ true
    → (k == 0x68 || (k == 0x6C || (k == 0x70 || (k == 0x72 || (k == 0x73 || k == 0x75))))) ≡ true → (f == k) ≡ false
quiet-isnt f k h l = grind (arith, nat_tests)

quiet-csi : (s : CharacterSets) (gs : List (List ℕ)) (is : List ℕ) (many : Bool) (f : ℕ) → is_quiet_final f ≡ true
    → list_all is_known gs ≡ true → csi_behind s gs is many f ≡ []
quiet-csi s gs [] many f q known =
    let r : (f == 0x72) ≡ false = quiet-isnt f 0x72 q refl in
    let save : (is_bare gs && f == 0x73) ≡ false = and-false (is_bare gs) (f == 0x73) (quiet-isnt f 0x73 q refl) in
    let restore : (is_bare gs && f == 0x75) ≡ false = and-false (is_bare gs) (f == 0x75) (quiet-isnt f 0x75 q refl) in
    if_holds IsEmpty (f == 0x6D) _ _ (if_holds IsEmpty many _ _ refl (rw known refl)) (rw (r, save, restore) refl)
quiet-csi s gs (i ∷ []) many f q known =
    let reset : (i == 0x21 && f == 0x70) ≡ false = and-false (i == 0x21) (f == 0x70) (quiet-isnt f 0x70 q refl) in
    let set : (i == 0x3F && f == 0x68) ≡ false = and-false (i == 0x3F) (f == 0x68) (quiet-isnt f 0x68 q refl) in
    let unset : (i == 0x3F && f == 0x6C) ≡ false = and-false (i == 0x3F) (f == 0x6C) (quiet-isnt f 0x6C q refl) in
    rw (reset, set, unset) refl
quiet-csi s gs (i ∷ j ∷ is) many f q known = refl

-- no byte of the header is `:`
abbrev IsLone : List ℕ → Type 0
IsLone h = AllByRecursion (λ b. (b == 0x3A) ≡ false) h

lone-append : (h : List ℕ) (b : ℕ) → IsLone h → (b == 0x3A) ≡ false → IsLone (h ++ b ∷ [])
lone-append [] b k l = (l, tt)
lone-append (x ∷ h) b k l = (k.0, lone-append h b k.1 l)

quiet-last : (s : CharacterSets) (x : List ℕ) (b : ℕ) → IsLone x → is_quiet_final b ≡ true
    → last_behind s [] (events_of_byte 0 (InCsi x) b) ≡ []
quiet-last s x b l q = elim (csi-ends x b) [
  | inl none ↦ unmarked-last s (events_of_byte 0 (InCsi x) b) (none 0)
  | inr ends ↦ ap (last_behind s []) (ends.events 0)
      ∙ quiet-csi s (kept_groups x) (kept_intermediates x) (overflows x) b q (lone-kept x l)
]

quiet-end : (x : List ℕ) (b : ℕ) → is_quiet_final b ≡ true → after_byte (InCsi x) b ≡ InText []
quiet-end x b q =
    let esc : is_esc b ≡ false = grind (arith, nat_tests) in
    let ends : ends_header b ≡ true = grind (arith, nat_tests) in
    rw (ends, esc) refl

final-other : (b : ℕ) → is_quiet_final b ≡ true → IsOther b
final-other b q = grind (arith, nat_tests)

-- ---- runs

-- what is pending at a place
abbrev Before : Place → Pending → Type 0
Before Outside q = is_sequence q ≡ false
Before BehindEsc q = q ≡ InEscape []
Before InHeader q = (h : List ℕ) × (q ≡ InCsi h) × IsLone h
Before Broken q = Unit {0}

abbrev is_outside : Place → Bool
is_outside Outside = true
is_outside BehindEsc = false
is_outside InHeader = false
is_outside Broken = false

broken-stays : (bs : List ℕ) → place_at Broken bs ≡ Outside → ⊥
broken-stays [] h = true≢false (sym (ap is_outside h))
broken-stays (b ∷ bs) h = broken-stays bs h

-- a run is given as it is, and ends outside of sequences
pub record Unchanged (q : Pending) (s : CharacterSets) (bs : List ℕ) : Type 0 where
  pub given : given_from q s bs ≡ bs
  pub outside : is_sequence (after_bytes q bs) ≡ false

unchanged-cons : (q : Pending) (s : CharacterSets) (b : ℕ) (bs : List ℕ) → given_for q s b ≡ b ∷ []
    → Unchanged (after_byte q b) (after_events s (events_of_byte 0 q b)) bs → Unchanged q s (b ∷ bs)
unchanged-cons q s b bs given more = record {
  given = ap (λ (xs : List ℕ). xs ++ given_from (after_byte q b) (after_events s (events_of_byte 0 q b)) bs) given
      ∙ ap (λ (xs : List ℕ). b ∷ xs) more.given;
  outside = more.outside;
}

esc-other : (b : ℕ) → is_esc b ≡ true → IsOther b
esc-other b h = grind (arith, nat_tests)

pub run-unchanged : (p : Place) (q : Pending) (s : CharacterSets) (bs : List ℕ) → IsSound q → IsSteady s → Before p q
    → place_at p bs ≡ Outside → Unchanged q s bs
run-unchanged Outside q s [] k t e h = record { given = refl; outside = e }
run-unchanged BehindEsc q s [] k t e h = absurd (true≢false (sym (ap is_outside h)))
run-unchanged InHeader q s [] k t e h = absurd (true≢false (sym (ap is_outside h)))
run-unchanged Broken q s bs k t e h = absurd (broken-stays bs h)
run-unchanged Outside q s (b ∷ bs) k t e h = elim (bool_cases (is_esc b)) [
  | inl esc ↦
      let on : place_at BehindEsc bs ≡ Outside = rw esc at h in
      let quiet = quiet-byte q b k (outside-escape q e) (esc-other b esc) in
      unchanged-cons q s b bs (steady-given q s b t e)
      (run-unchanged BehindEsc (after_byte q b) (after_events s (events_of_byte 0 q b)) bs (IsSound-byte q b k)
      (steady-events s (events_of_byte 0 q b) quiet t) (rw esc refl) on)
  | inr esc ↦ elim (bool_cases (b == 0x0E || b == 0x0F)) [
    | inl shift ↦ absurd (broken-stays bs (rw (esc, shift) at h))
    | inr shift ↦
        let on : place_at Outside bs ≡ Outside = rw (esc, shift) at h in
        let other : IsOther b = ap not shift in
        let quiet = quiet-byte q b k (outside-escape q e) other in
        unchanged-cons q s b bs (steady-given q s b t e)
        (run-unchanged Outside (after_byte q b) (after_events s (events_of_byte 0 q b)) bs (IsSound-byte q b k)
        (steady-events s (events_of_byte 0 q b) quiet t) (rw esc (rest-outside q b e)) on)
  ]
]
run-unchanged BehindEsc q s (b ∷ bs) k t e h =
    subst (λ (x : Pending). Unchanged x s (b ∷ bs)) (sym e) (elim (bool_cases (b == 0x5B)) [
      | inl is ↦
          let on : place_at InHeader bs ≡ Outside = rw is at h in
          subst (λ (x : ℕ). Unchanged (InEscape []) s (x ∷ bs)) (sym (is-len b 0x5B is))
          (unchanged-cons (InEscape []) s 0x5B bs refl
          (run-unchanged InHeader (InCsi []) s bs tt t ([], refl, tt) on))
      | inr isnt_first ↦ elim (bool_cases (b == 0x5D)) [
        | inl is ↦
            let on : place_at Outside bs ≡ Outside = rw (isnt_first, is) at h in
            subst (λ (x : ℕ). Unchanged (InEscape []) s (x ∷ bs)) (sym (is-len b 0x5D is))
            (unchanged-cons (InEscape []) s 0x5D bs refl (run-unchanged Outside (InOsc []) s bs tt t refl on))
        | inr isnt ↦ absurd (broken-stays bs (rw (isnt_first, isnt) at h))
      ]
    ])
run-unchanged InHeader q s (b ∷ bs) k t e h =
    let x = e.0 in
    subst (λ (y : Pending). Unchanged y s (b ∷ bs)) (sym e.1) (elim (bool_cases (is_header b)) [
      | inl inside ↦ elim (bool_cases (b == 0x3A)) [
        | inl colon ↦ absurd (broken-stays bs (rw (inside, colon) at h))
        | inr colon ↦
            let on : place_at InHeader bs ≡ Outside = rw (inside, colon) at h in
            let byte = header-byte 0 x b inside in
            unchanged-cons (InCsi x) s b bs (silent-given (InCsi x) s b [] refl (ap (last_behind s []) byte.0))
            (subst (λ (es : List Event). Unchanged (after_byte (InCsi x) b) (after_events s es) bs) (sym byte.0)
            (subst (λ (y : Pending). Unchanged y s bs) (sym byte.1)
            (run-unchanged InHeader (InCsi (x ++ b ∷ [])) s bs tt t (x ++ b ∷ [], refl, lone-append x b e.2 colon) on)))
      ]
      | inr inside ↦ elim (bool_cases (is_quiet_final b)) [
        | inl final ↦
            let on : place_at Outside bs ≡ Outside = rw (inside, final) at h in
            let end = quiet-end x b final in
            let quiet = quiet-byte (InCsi x) b tt refl (final-other b final) in
            unchanged-cons (InCsi x) s b bs (silent-given (InCsi x) s b [] refl (quiet-last s x b e.2 final))
            (subst (λ (y : Pending). Unchanged y (after_events s (events_of_byte 0 (InCsi x) b)) bs) (sym end)
            (run-unchanged Outside (InText []) (after_events s (events_of_byte 0 (InCsi x) b)) bs tt
            (steady-events s (events_of_byte 0 (InCsi x) b) quiet t) refl on))
        | inr final ↦ absurd (broken-stays bs (rw (inside, final) at h))
      ]
    ])

-- ---- one byte more

one-more : (bs : List ℕ) (k : ℕ) → k < length bs → take (k + 1) bs ≡ take k bs ++ get_or bs k 0 ∷ []
one-more bs k l = take-add k 1 bs ∙ ap (λ (xs : List ℕ). take k bs ++ take 1 xs) (drop-cons bs k 0 l)

place-append : (p : Place) (xs : List ℕ) (b : ℕ) → place_at p (xs ++ b ∷ []) ≡ place_after (place_at p xs) b
place-append p [] b = refl
place-append p (x ∷ xs) b = place-append (place_after p x) xs b

pub run_byte : (bs : List ℕ) (k : ℕ) (p : Place) → k < length bs → place_at Outside (take k bs) ≡ p
    → place_at Outside (take (k + 1) bs) ≡ place_after p (get_or bs k 0)
run_byte bs k p l is = ap (place_at Outside) (one-more bs k l)
    ∙ (place-append Outside (take k bs) (get_or bs k 0) ∙ ap (λ (x : Place). place_after x (get_or bs k 0)) is)
