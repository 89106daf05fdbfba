-- Text, byte by byte.
use Rattle.std.proofs.Common.{◌≡◌, ℕ, zero, suc, ◌+◌, ◌-◌, ◌<◌, ◌≤◌, ◌≢◌, Bool, true, false, List, [], ◌∷◌, ◌++◌, ◌⊎◌}
use Rattle.std.proofs.Common.{length, take, nat_lt, ◌==◌, if◌then◌else◌, refl, sym, ◌∙◌, ap, inl, inr, append_assoc}
use Rattle.std.proofs.Common.{append-nil, arith, length-append, sub-one}
use Rattle.std.proofs.lemmas.Bool.{eqb-true, eq-eqb, lt-ltb}
use Rattle.std.proofs.lemmas.Bool.Decides.{nat_tests}
use Rattle.std.proofs.Math.Seq.{take-append-add}
use Rattle.std.specs.Int.{is_in_range}
use Rattle.vte_core.specs.Event.{Event, Print}
use Rattle.vte_core.specs.Text.{text, text_after, prefix_len, prefix_event, char_len, second_min, second_max, tail_len}
use Rattle.vte_core.specs.Text.{first_bits, joined, char_event, malformed_event}
use Rattle.vte_core.specs.Pending.{goes_on, begun, begun_rest, text_reported, text_rest, IsUnfinished, closed, InText}

-- what holds of both of its branches holds of an `if`
pub if_holds : {A : Type 0} (P : A → Type 0) (v : Bool) (x y : A) → P x → P y → P (if v then x else y)
if_holds P true x y h k = h
if_holds P false x y h k = k

-- ifs on one test agree where their branches do
pub ifs_agree : {A B : Type 0} (f : A → B) (v : Bool) {x y : B} {a b : A} → x ≡ f a → y ≡ f b
    → (if v then x else y) ≡ f (if v then a else b)
ifs_agree f true h k = h
ifs_agree f false h k = k

pub both_ifs_agree : {A B C : Type 0} (f : A → C → B) (v : Bool) {x y : B} {a b : A} {c d : C} → x ≡ f a c → y ≡ f b d
    → (if v then x else y) ≡ f (if v then a else b) (if v then c else d)
both_ifs_agree f true h k = h
both_ifs_agree f false h k = k

pub bool_cases : (v : Bool) → (v ≡ true) ⊎ (v ≡ false)
bool_cases true = inl refl
bool_cases false = inr refl

-- b continues the tail t, whose first byte is from lo to hi
abbrev pub tail_goes_on : ℕ → ℕ → List ℕ → ℕ → Bool
tail_goes_on lo hi [] b = is_in_range lo hi b
tail_goes_on lo hi (c ∷ t) b = is_in_range 0x80 0xBF b

tail_goes_on-tail : (t : List ℕ) (b : ℕ) → tail_goes_on 0x80 0xBF t b ≡ is_in_range 0x80 0xBF b
tail_goes_on-tail [] b = refl
tail_goes_on-tail (c ∷ t) b = refl

goes_on-tail : (a : ℕ) (t : List ℕ) (b : ℕ) → goes_on a t b ≡ tail_goes_on (second_min a) (second_max a) t b
goes_on-tail a [] b = refl
goes_on-tail a (c ∷ t) b = refl

-- a tail that continues a character at its first byte does so at the others
pub tail_first : (k lo hi c : ℕ) (t : List ℕ) → tail_len (suc k) lo hi (c ∷ t) ≡ length (c ∷ t)
    → (is_in_range lo hi c ≡ true) × (tail_len k 0x80 0xBF t ≡ length t)
tail_first k lo hi c t h =
    elim (bool_cases (is_in_range lo hi c)) [
      | inl e ↦ (e, let g = rw e at h in cc)
      | inr e ↦ let g = rw e at h in cc
    ]

tails-no : (k lo hi : ℕ) (t : List ℕ) (b : ℕ) (s : List ℕ) → tail_len k lo hi t ≡ length t
    → tail_goes_on lo hi t b ≡ false → tail_len k lo hi (t ++ b ∷ s) ≡ length t
tails-no zero lo hi [] b s h e = refl
tails-no (suc k) lo hi [] b s h e = rw e refl
tails-no zero lo hi (c ∷ t) b s h e = h
tails-no (suc k) lo hi (c ∷ t) b s h e =
    let g = tail_first k lo hi c t h in rw g.0 (ap suc (tails-no k 0x80 0xBF t b s g.1 (tail_goes_on-tail t b ∙ e)))

tails-yes : (k lo hi : ℕ) (t : List ℕ) (b : ℕ) (s : List ℕ) → tail_len k lo hi t ≡ length t
    → tail_goes_on lo hi t b ≡ true → length t < k
    → tail_len k lo hi (t ++ b ∷ s) ≡ suc (length t) + tail_len (k - suc (length t)) 0x80 0xBF s
tails-yes zero lo hi t b s h e lt = absurd (omega arith)
tails-yes (suc k) lo hi [] b s h e lt = rw (e, sub-one) (grind arith)
tails-yes (suc k) lo hi (c ∷ t) b s h e lt =
    let g = tail_first k lo hi c t h in
    let less : length t < k = omega arith in
    let k_is : suc k - suc (length (c ∷ t)) ≡ k - suc (length t) = omega arith in
    rw (g.0, k_is) (ap suc (tails-yes k 0x80 0xBF t b s g.1 (tail_goes_on-tail t b ∙ e) less) ∙ omega arith)

tail_len-nil : (k lo hi : ℕ) → tail_len k lo hi [] ≡ 0
tail_len-nil zero lo hi = refl
tail_len-nil (suc k) lo hi = refl

-- bytes that are passed over
text-skip : (cut : Bool) (t s : List ℕ) → text_after (length t) cut (t ++ s) ≡ text_after 0 cut s
text-skip cut [] s = refl
text-skip cut (c ∷ t) s = text-skip cut t s

text-skip_all : (cut : Bool) (t : List ℕ) → text_after (length t) cut t ≡ []
text-skip_all cut [] = refl
text-skip_all cut (c ∷ t) = text-skip_all cut t

text-begun : (cut : Bool) (b : ℕ) (s : List ℕ) → text cut (b ∷ s) ≡ begun b ++ text cut (begun_rest b ++ s)
text-begun cut b s =
    elim (bool_cases (char_len b == 1)) [
      | inl e ↦ let k : char_len b ≡ 1 = eqb-true (char_len b) 1 e in rw k refl
      | inr e ↦ elim (bool_cases (char_len b == 0)) [
        | inl f ↦ let k : char_len b ≡ 0 = eqb-true (char_len b) 0 f in rw k refl
        | inr f ↦ rw (e, f) refl
      ]
    ]

IsUnfinished-begun : (b : ℕ) → IsUnfinished (begun_rest b)
IsUnfinished-begun b =
    elim (bool_cases (char_len b == 1)) [
      | inl e ↦ rw e tt
      | inr e ↦ elim (bool_cases (char_len b == 0)) [
        | inl f ↦ rw (e, f) tt
        | inr f ↦ rw (e, f) (tail_len-nil _ _ _, grind (arith, nat_tests))
      ]
    ]

-- a first byte of more than one is no control
pub lead-high : (a : ℕ) → 1 < char_len a → is_in_range 0x80 0x9F a ≡ false
lead-high a h = grind (arith, nat_tests)

pub malformed-high : (n a : ℕ) → is_in_range 0x80 0x9F a ≡ false → malformed_event n a ≡ Print 0xFFFD
malformed-high n a h = elim (bool_cases (n == 1)) [ inl e ↦ rw (e, h) refl | inr e ↦ rw e refl ]

-- the events of the prefix, by its length
pub prefix-whole : (cut : Bool) (a n : ℕ) (bs : List ℕ) → prefix_len a bs ≡ n → n ≡ char_len a
    → prefix_event cut a bs ≡ char_event (joined (first_bits a) (take (n - 1) bs)) ∷ []
prefix-whole cut a n bs f e = let t : (n == char_len a) ≡ true = eq-eqb n (char_len a) e in rw (f, t) refl

prefix-malformed : (cut : Bool) (a n : ℕ) (bs : List ℕ) → prefix_len a bs ≡ n → n < char_len a → 1 < char_len a
    → n ≤ length bs → prefix_event cut a bs ≡ Print 0xFFFD ∷ []
prefix-malformed cut a n bs f lt some long =
    let t : (n == char_len a) ≡ false = grind (arith, nat_tests) in
    let u : nat_lt 0 (char_len a) ≡ true = lt-ltb 0 (char_len a) (omega arith) in
    let v : nat_lt (length bs) n ≡ false = grind (arith, nat_tests) in
    rw (f, t, u, v) (ap (λ e. e ∷ []) (malformed-high n a (lead-high a some)))

prefix-cut : (cut : Bool) (a n : ℕ) (bs : List ℕ) → prefix_len a bs ≡ n → n < char_len a → length bs < n
    → prefix_event cut a bs ≡ (if cut then Print 0xFFFD ∷ [] else [])
prefix-cut cut a n bs f lt short =
    let t : (n == char_len a) ≡ false = grind (arith, nat_tests) in
    let u : nat_lt 0 (char_len a) ≡ true = lt-ltb 0 (char_len a) (omega arith) in
    let v : nat_lt (length bs) n ≡ true = lt-ltb (length bs) n short in
    rw (f, t, u, v) refl

pub text-prefix : (cut : Bool) (a n : ℕ) (bs : List ℕ) (es : List Event) → prefix_len a bs ≡ suc n
    → prefix_event cut a bs ≡ es → text cut (a ∷ bs) ≡ es ++ text_after n cut bs
text-prefix cut a n bs es f e =
    let m : prefix_len a bs - 1 ≡ n = omega (arith, f) in
    ap (λ xs. xs ++ text_after (prefix_len a bs - 1) cut bs) e ∙ ap (λ k. es ++ text_after k cut bs) m

text-pending : (cut : Bool) (a : ℕ) (t : List ℕ) (b : ℕ) (s : List ℕ) → IsUnfinished (a ∷ t)
    → text cut ((a ∷ t) ++ b ∷ s) ≡ text_reported (a ∷ t) b ++ text cut (text_rest (a ∷ t) b ++ s)
text-pending cut a t b s h =
    let len : length (t ++ b ∷ s) ≡ length t + suc (length s) = length-append t (b ∷ s) in
    let some : 1 < char_len a = omega (arith, h.1) in
    elim (bool_cases (goes_on a t b)) [
      | inl e ↦
          let yes : tail_goes_on (second_min a) (second_max a) t b ≡ true = sym (goes_on-tail a t b) ∙ e in
          let room : length t < char_len a - 1 = omega (arith, h.1) in
          let grown = tails-yes (char_len a - 1) (second_min a) (second_max a) t b s h.0 yes room in
          elim (bool_cases (length t + 2 == char_len a)) [
            | inl w ↦
                let is : length t + 2 ≡ char_len a = eqb-true (length t + 2) (char_len a) w in
                let none : char_len a - 1 - suc (length t) ≡ 0 = omega (arith, is) in
                let f : prefix_len a (t ++ b ∷ s) ≡ suc (suc (length t)) =
                ap suc (grown ∙ ap (λ k. suc (length t) + tail_len k 0x80 0xBF s) none ∙ omega arith) in
                let taken : take (suc (suc (length t)) - 1) (t ++ b ∷ s) ≡ t ++ b ∷ [] =
                ap (λ k. take k (t ++ b ∷ s)) (omega arith) ∙ take-append-add t (b ∷ s) 1 in
                let ev : prefix_event cut a (t ++ b ∷ s) ≡ char_event (joined (first_bits a) (t ++ b ∷ [])) ∷ [] =
                prefix-whole cut a (suc (suc (length t))) (t ++ b ∷ s) f (omega (arith, is))
                ∙ ap (λ xs. char_event (joined (first_bits a) xs) ∷ []) taken in
                let skip : text_after (suc (length t)) cut (t ++ b ∷ s) ≡ text cut s =
                ap (λ k. text_after k cut (t ++ b ∷ s)) (omega (arith, length-append t (b ∷ [])))
                ∙ ap (λ xs. text_after (length (t ++ b ∷ [])) cut xs) (sym (append_assoc t (b ∷ []) s))
                ∙ text-skip cut (t ++ b ∷ []) s in
                text-prefix cut a (suc (length t)) (t ++ b ∷ s) _ f ev
                ∙ rw (e, w) (ap (λ xs. char_event (joined (first_bits a) (t ++ b ∷ [])) ∷ xs) skip)
            | inr w ↦ rw (e, w) (ap (λ r. text cut (a ∷ r)) (sym (append_assoc t (b ∷ []) s)))
          ]
      | inr e ↦
          let no : tail_goes_on (second_min a) (second_max a) t b ≡ false = sym (goes_on-tail a t b) ∙ e in
          let f : prefix_len a (t ++ b ∷ s) ≡ suc (length t) =
          ap suc (tails-no (char_len a - 1) (second_min a) (second_max a) t b s h.0 no) in
          let ev : prefix_event cut a (t ++ b ∷ s) ≡ Print 0xFFFD ∷ [] =
          prefix-malformed cut a (suc (length t)) (t ++ b ∷ s) f (omega (arith, h.1)) some (omega (arith, len))
          in
          text-prefix cut a (length t) (t ++ b ∷ s) _ f ev
          ∙ rw e (ap (λ xs. Print 0xFFFD ∷ xs) (text-skip cut t (b ∷ s) ∙ text-begun cut b s))
    ]

-- a byte of text
pub text-byte : (cut : Bool) (u : List ℕ) (b : ℕ) (s : List ℕ) → IsUnfinished u
    → text cut (u ++ b ∷ s) ≡ text_reported u b ++ text cut (text_rest u b ++ s)
text-byte cut [] b s h = text-begun cut b s
text-byte cut (a ∷ t) b s h = text-pending cut a t b s h

pub either_way : (v : Bool) (es : List Event) → es ≡ (if v then es else es)
either_way true es = refl
either_way false es = refl

-- the end of text
pub text-end : (n : ℕ) (cut : Bool) (u : List ℕ) → IsUnfinished u
    → text cut u ≡ (if cut then closed n (InText u) else [])
text-end n cut [] h = either_way cut []
text-end n cut (a ∷ t) h =
    let f : prefix_len a t ≡ suc (length t) = ap suc h.0 in
    let ev = prefix-cut cut a (suc (length t)) t f (omega (arith, h.1)) (omega arith) in
    text-prefix cut a (length t) t _ f ev ∙ (ap (λ xs. (if cut then Print 0xFFFD ∷ [] else [])
    ++ xs) (text-skip_all cut t)
    ∙ append-nil (if cut then Print 0xFFFD ∷ [] else []))

pub IsUnfinished-rest : (u : List ℕ) (b : ℕ) → IsUnfinished u → IsUnfinished (text_rest u b)
IsUnfinished-rest [] b h = IsUnfinished-begun b
IsUnfinished-rest (a ∷ t) b h =
    elim (bool_cases (goes_on a t b)) [
      | inl e ↦
          let yes : tail_goes_on (second_min a) (second_max a) t b ≡ true = sym (goes_on-tail a t b) ∙ e in
          let room : length t < char_len a - 1 = omega (arith, h.1) in
          let grown = tails-yes (char_len a - 1) (second_min a) (second_max a) t b [] h.0 yes room in
          let len : length (t ++ b ∷ []) ≡ length t + 1 = length-append t (b ∷ []) in
          elim (bool_cases (length t + 2 == char_len a)) [
            | inl w ↦ rw (e, w) tt
            | inr w ↦ rw (e, w) (
              grown ∙ ap (λ k. suc (length t) + k) (tail_len-nil _ _ _) ∙ omega (arith, len),
              let not_yet : length t + 2 ≢ char_len a = grind (arith, nat_tests) in omega (arith, len, h.1, not_yet),
            )
          ]
      | inr e ↦ rw e (IsUnfinished-begun b)
    ]
