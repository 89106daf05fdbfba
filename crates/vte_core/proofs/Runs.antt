-- Ground text in runs of whole characters.
use Rattle.std.proofs.Common.{◌≡◌, ℕ, zero, suc, ◌+◌, ◌-◌, ◌*◌, ◌/◌, ◌%◌, ◌<◌, ◌≤◌, Bool, true, false, not, ◌&&◌, List}
use Rattle.std.proofs.Common.{[], ◌∷◌, ◌++◌, ◌⊎◌, inl, inr, map, nat_lt, length, take, drop, get_or, ◌==◌, refl, sym}
use Rattle.std.proofs.Common.{◌∙◌, ap, arith, append_assoc, length-take, length-drop}
use Rattle.std.proofs.lemmas.Bool.Decides.{nat_tests}
use Rattle.std.proofs.lemmas.Bool.{and_parts, ltb-true, eqb-true, eq-eqb}
use lib.Utf8.{scalar_cases}
use Rattle.std.specs.Int.{is_in_range}
use Rattle.std.specs.Char.{encode_utf8, IsScalar}
use Rattle.std.specs.Str.{encode_utf8_all, all_scalars, chars, IsUtf8}
use Rattle.std.proofs.lemmas.Str.{encodes-chars, scalars-chars}
use Rattle.std.specs.Bool.{IsTrue}
use Rattle.vte_core.specs.Event.{Event, Performs, Print}
use Rattle.vte_core.specs.Bytes.{is_esc}
use Rattle.vte_core.specs.Text.{char_len, second_min, second_max, first_bits, char_event}
use Rattle.vte_core.specs.Shapes.{before, from}
use Rattle.vte_core.specs.Pending.{Pending, InText, text_reported, text_rest, events_of_byte, events_from, after_byte}
use Rattle.vte_core.specs.Pending.{after_bytes}
use Rattle.vte_core.specs.Runs.{run_reported, run_rest, has_no_esc, is_one_step, is_printed, printed_len}
use Rattle.vte_core.specs.Standing.{IsAt, state_is_text}
use Rattle.vte_core.specs.declared.parser.Parser.{Parser}
use Rattle.vte_core.specs.declared.parser.State.TheVariants.{Ground}
use Rattle.vte_core.specs.Stopping.{StopsAt, runs_on, is_text}
use Rattle.vte_core.proofs.Characters.{bool_cases}
use lib.Seq.{take-add}
use Rattle.std.proofs.lemmas.List.{take-append-drop, drop-drop, drop_more}
use Rattle.vte_core.proofs.GroundTextLemmas.{text_is}
use Rattle.vte_core.proofs.StopLemmas.{whole_rest, is_text-at}

-- a character of one byte, of two, three and four

pub one : (c : ℕ) (rest : List ℕ) → c < 128 → (run_reported [] (c ∷ rest) ≡ char_event c ∷ run_reported [] rest)
    × (run_rest [] (c ∷ rest) ≡ run_rest [] rest)
one c rest h =
    let n : char_len c ≡ 1 = grind (arith, nat_tests) in
    let e : first_bits c ≡ c = grind (arith, nat_tests) in
    (rw n (ap (λ x. char_event x ∷ run_reported [] rest) e), rw n refl)

pub two : (a b c : ℕ) (rest : List ℕ) → char_len a ≡ 2 → is_in_range (second_min a) (second_max a) b ≡ true
    → first_bits a * 64 + (b - 128) ≡ c
    → (run_reported [] (a ∷ b ∷ rest) ≡ char_event c ∷ run_reported [] rest)
    × (run_rest [] (a ∷ b ∷ rest) ≡ run_rest [] rest)
two a b c rest n s e = (rw (n, s, n) (ap (λ x. char_event x ∷ run_reported [] rest) e), rw (n, s, n) refl)

pub three : (a b d c : ℕ) (rest : List ℕ) → char_len a ≡ 3 → is_in_range (second_min a) (second_max a) b ≡ true
    → is_in_range 0x80 0xBF d ≡ true
    → (first_bits a * 64 + (b - 128)) * 64 + (d - 128) ≡ c
    → (run_reported [] (a ∷ b ∷ d ∷ rest) ≡ char_event c ∷ run_reported [] rest)
    × (run_rest [] (a ∷ b ∷ d ∷ rest) ≡ run_rest [] rest)
three a b d c rest n s t e = (
  rw (n, s, n, t, n) (ap (λ x. char_event x ∷ run_reported [] rest) e),
  rw (n, s, n, t, n) refl,
)

pub four : (a b d e c : ℕ) (rest : List ℕ) → char_len a ≡ 4 → is_in_range (second_min a) (second_max a) b ≡ true
    → is_in_range 0x80 0xBF d ≡ true → is_in_range 0x80 0xBF e ≡ true
    → ((first_bits a * 64 + (b - 128)) * 64 + (d - 128)) * 64 + (e - 128) ≡ c
    → (run_reported [] (a ∷ b ∷ d ∷ e ∷ rest) ≡ char_event c ∷ run_reported [] rest)
    × (run_rest [] (a ∷ b ∷ d ∷ e ∷ rest) ≡ run_rest [] rest)
four a b d e c rest n s t u is = rw (n, s, n, t, n, u, n) (ap (λ x. char_event x ∷ run_reported [] rest) is, refl)

encode-two : (c : ℕ) → 128 ≤ c → c < 2048 → (char_len (192 + c / 64) ≡ 2)
    × (is_in_range (second_min (192 + c / 64)) (second_max (192 + c / 64)) (128 + c % 64) ≡ true)
    × (first_bits (192 + c / 64) * 64 + (128 + c % 64 - 128) ≡ c)
encode-two c h k =
    let q : c / 64 < 32 = omega arith in
    let p : 2 ≤ c / 64 = omega arith in
    let r : c % 64 < 64 = omega arith in
    let d : 64 * (c / 64) + c % 64 ≡ c = omega arith in
    (grind (arith, nat_tests), grind (arith, nat_tests), grind (arith, nat_tests))

encode-three : (c x y : ℕ) → 2048 ≤ c → c < 65536 → (c < 55296) ⊎ (57344 ≤ c) → x ≡ c / 4096 → y ≡ c / 64 % 64
    → (char_len (224 + x) ≡ 3) × (is_in_range (second_min (224 + x)) (second_max (224 + x)) (128 + y) ≡ true)
    × (is_in_range 0x80 0xBF (128 + c % 64) ≡ true)
    × ((first_bits (224 + x) * 64 + (128 + y - 128)) * 64 + (128 + c % 64 - 128) ≡ c)
encode-three c x y h k s p q =
    let r : c % 64 < 64 = omega arith in
    let t : y < 64 = omega arith in
    let d : 4096 * x + (64 * y + c % 64) ≡ c = omega arith in
    let l : x < 16 = omega arith in
    (grind (arith, nat_tests), grind (arith, nat_tests), grind (arith, nat_tests), grind (arith, nat_tests))

encode-four : (c x y z : ℕ) → 65536 ≤ c → c < 1114112 → x ≡ c / 262144 → y ≡ c / 4096 % 64 → z ≡ c / 64 % 64
    → (char_len (240 + x) ≡ 4) × (is_in_range (second_min (240 + x)) (second_max (240 + x)) (128 + y) ≡ true)
    × (is_in_range 0x80 0xBF (128 + z) ≡ true) × (is_in_range 0x80 0xBF (128 + c % 64) ≡ true)
    × (((first_bits (240 + x) * 64 + (128 + y - 128)) * 64 + (128 + z - 128)) * 64 + (128 + c % 64 - 128) ≡ c)
encode-four c x y z h k p q w =
    let r : c % 64 < 64 = omega arith in
    let t : y < 64 = omega arith in
    let u : z < 64 = omega arith in
    let d : 262144 * x + (4096 * y + (64 * z + c % 64)) ≡ c = omega arith in
    let l : x < 5 = omega arith in (
      grind (arith, nat_tests),
      grind (arith, nat_tests),
      grind (arith, nat_tests),
      grind (arith, nat_tests),
      grind (arith, nat_tests),
    )

nat_not : (a b : ℕ) → nat_lt a b ≡ false → b ≤ a
nat_not a b h = grind (arith, nat_tests)

-- a whole character is its own event, and leaves nothing
run-char : (c : ℕ) (rest : List ℕ) → IsScalar c → (run_reported [] (encode_utf8 c ++ rest) ≡ char_event c
    ∷ run_reported [] rest) × (run_rest [] (encode_utf8 c ++ rest) ≡ run_rest [] rest)
unfolding encode_utf8
run-char c rest h =
    elim (bool_cases (nat_lt c 128)) [
      | inl e ↦ rw e (one c rest (ltb-true c 128 e))
      | inr e ↦ elim (bool_cases (nat_lt c 2048)) [
        | inl f ↦ rw (e, f) (let k = encode-two c (omega (arith, nat_not c 128 e)) (ltb-true c 2048 f)
            in two (192 + c / 64) (128 + c % 64) c rest k.0 k.1 k.2)
        | inr f ↦ elim (bool_cases (nat_lt c 65536)) [
          | inl j ↦ rw (e, f, j) (
              let ok : (c < 55296) ⊎ (57344 ≤ c) = elim (scalar_cases c h) [ inl a ↦ inl a | inr a ↦ inr a.0 ] in
              let k = encode-three c (c / 4096) (c / 64 % 64) (nat_not c 2048 f) (ltb-true c 65536 j) ok refl refl in
              three (224 + c / 4096) (128 + c / 64 % 64) (128 + c % 64) c rest k.0 k.1 k.2 k.3)
          | inr j ↦ rw (e, f, j) (
              let high : c < 1114112 = elim (scalar_cases c h) [ inl a ↦ omega (arith, a) | inr a ↦ a.1 ] in
              let k = encode-four c (c / 262144) (c / 4096 % 64) (c / 64 % 64) (nat_not c 65536 j) high refl refl refl
              in
              four (240 + c / 262144) (128 + c / 4096 % 64) (128 + c / 64 % 64) (128 + c % 64) c rest k.0 k.1 k.2 k.3
              k.4)
        ]
      ]
    ]

run-chars : (cs : List ℕ) → all_scalars cs ≡ true → (run_reported [] (encode_utf8_all cs) ≡ map char_event cs)
    × (run_rest [] (encode_utf8_all cs) ≡ [])
run-chars [] h = (refl, refl)
run-chars (c ∷ cs) h =
    let g = and_parts _ _ h in
    let first = run-char c (encode_utf8_all cs) g.0 in
    let more = run-chars cs g.1 in
    (first.0 ∙ ap (λ es. char_event c ∷ es) more.0, first.1 ∙ more.1)

-- the events of a text are its characters, and it leaves nothing
pub run-text : (bs : List ℕ) → IsUtf8 bs → (run_reported [] bs ≡ map char_event (chars bs)) × (run_rest [] bs ≡ [])
run-text bs h =
    let all = run-chars (chars bs) (scalars-chars bs h) in
    let same = encodes-chars bs h in
    (ap (run_reported []) (sym same) ∙ all.0, ap (run_rest []) (sym same) ∙ all.1)

pub run_reported-append : (u xs ys : List ℕ) → run_reported u (xs ++ ys) ≡ run_reported u xs
    ++ run_reported (run_rest u xs) ys
run_reported-append u [] ys = refl
run_reported-append u (x ∷ xs) ys =
    ap (λ es. text_reported u x ++ es) (run_reported-append (text_rest u x) xs ys)
    ∙ sym (append_assoc (text_reported u x) (run_reported (text_rest u x) xs)
    (run_reported (run_rest (text_rest u x) xs) ys))

pub run_rest-append : (u xs ys : List ℕ) → run_rest u (xs ++ ys) ≡ run_rest (run_rest u xs) ys
run_rest-append u [] ys = refl
run_rest-append u (x ∷ xs) ys = run_rest-append (text_rest u x) xs ys

-- the bytes before the next ESC

pub no_esc-both : (b : ℕ) (bs : List ℕ) → has_no_esc (b ∷ bs) ≡ true → (is_esc b ≡ false) × (has_no_esc bs ≡ true)
no_esc-both b bs h = elim (bool_cases (is_esc b)) [
  | inl e ↦ let g = rw e at h
      in cc
  | inr e ↦ (e, let g = rw e at h in g)
]

pub run-events : (n : ℕ) (u bs : List ℕ) → has_no_esc bs ≡ true → (events_from n (InText u) bs ≡ run_reported u bs)
    × (after_bytes (InText u) bs ≡ InText (run_rest u bs))
run-events n u [] h = (refl, refl)
run-events n u (b ∷ bs) h =
    let g = no_esc-both b bs h in
    let e : is_esc b ≡ false = g.0 in
    let more = run-events n (text_rest u b) bs g.1 in
    (rw e (ap (λ es. text_reported u b ++ es) more.0), rw e more.1)

pub no_esc-before : (s : List ℕ) → has_no_esc (before is_esc s) ≡ true
no_esc-before [] = refl
no_esc-before (b ∷ s) = elim (bool_cases (is_esc b)) [ inl e ↦ rw e refl | inr e ↦ rw e (rw e (no_esc-before s)) ]

pub take-before : (s : List ℕ) → take (length (before is_esc s)) s ≡ before is_esc s
take-before [] = refl
take-before (b ∷ s) = elim (bool_cases (is_esc b))
    [ inl e ↦ rw e refl | inr e ↦ rw e (ap (λ r. b ∷ r) (take-before s)) ]

pub drop-before : (s : List ℕ) → drop (length (before is_esc s)) s ≡ from is_esc s
drop-before [] = refl
drop-before (b ∷ s) = elim (bool_cases (is_esc b)) [ inl e ↦ rw e refl | inr e ↦ rw e (drop-before s) ]

-- where the performer is asked

stops_on : (u : List ℕ) (b : ℕ) (s : List ℕ) → runs_on (InText u) b (from is_esc s) ≡ false
stops_on u b [] = refl
stops_on u b (c ∷ s) = elim (bool_cases (is_esc c)) [
  | inl e ↦ rw e (rw e (elim (bool_cases (is_esc b)) [ inl f ↦ rw f refl | inr f ↦ rw f refl ]))
  | inr e ↦ rw e
      (stops_on u b s)
]

step-text : (u : List ℕ) (b : ℕ) (bs s : List ℕ) → has_no_esc (b ∷ bs) ≡ true
    → is_one_step (InText u) (b ∷ bs) (from is_esc s) ≡ true
step-text u b [] s h = ap not (stops_on u b s)
step-text u b (c ∷ bs) s h =
    let g = no_esc-both b (c ∷ bs) h in
    let e : is_esc b ≡ false = g.0 in
    let f : is_esc c ≡ false = (no_esc-both c bs g.1).0 in
    rw (e, f) (step-text (text_rest u b) c bs s g.1)

pub step-run : (u s : List ℕ) → 0 < length (before is_esc s)
    → is_one_step (InText u) (before is_esc s) (from is_esc s) ≡ true
step-run u [] h = absurd (omega (arith, h))
step-run u (b ∷ s) h =
    elim (bool_cases (is_esc b)) [
      | inl e ↦ let g = rw e at h in absurd (omega (arith, g))
      | inr e ↦ rw e (step-text u b (before is_esc s) s (rw e (no_esc-before s)))
    ]

performs-split : {S : Type 0} (step : S → Event → S → Type 0) (old new : S) (es fs : List Event)
    → Performs step old (es ++ fs) new → (mid : S) × Performs step old es mid × Performs step mid fs new
performs-split {S} step old new [] fs h = (old, refl, h)
performs-split {S} step old new (e ∷ es) fs (m, s, h) = let r = performs-split step m new es fs h
    in (r.0, (m, s, r.1), r.2)

-- over one step of the parser, at whose beginning the performer goes on
pub stop_steps : {S : Type 0} (step : S → Event → S → Type 0) (terminated : S
    → Bool) (n : ℕ) (q : Pending) (asked : Bool) (bs rest : List ℕ) (old mid : S) (k : ℕ) (new : S)
    → is_one_step q bs rest ≡ true → (asked && terminated old) ≡ false → Performs step old (events_from n q bs) mid
    → StopsAt step terminated n (after_bytes q bs) true rest mid k new
    → StopsAt step terminated n q asked (bs ++ rest) old (length bs + k) new
stop_steps {S} step terminated n q asked [] rest old mid k new o e p r = cc
stop_steps {S} step terminated n q asked (b ∷ []) rest old mid k new o e p r =
    let d = performs-split step old mid (events_of_byte n q b) [] p in
    let same : mid ≡ d.0 = d.2 in
    rw e (mid, k, omega arith, rw same d.1, rw o r)
stop_steps {S} step terminated n q asked (b ∷ c ∷ bs) rest old mid k new o e p r =
    let both = and_parts (runs_on q b (c ∷ bs)) (is_one_step (after_byte q b) (c ∷ bs) rest) o in
    let on : runs_on q b (c ∷ (bs ++ rest)) ≡ true = both.0 in
    let d = performs-split step old mid (events_of_byte n q b) (events_from n (after_byte q b) (c ∷ bs)) p in
    rw e (
      d.0,
      length (c ∷ bs) + k,
      omega arith,
      d.1,
      rw on (stop_steps step terminated n (after_byte q b) false (c ∷ bs) rest d.0 mid k new both.1 refl d.2 r),
    )

pub nil_of_len : (xs : List ℕ) → (length xs == 0) ≡ true → xs ≡ []
nil_of_len [] h = refl
nil_of_len (x ∷ xs) h = absurd (omega (arith, eqb-true (length (x ∷ xs)) 0 h))

-- more of the bytes read
pub read_more : (bs : List ℕ) (i k : ℕ) → take (i + k) bs ≡ take i bs ++ take k (take (length bs - i) (drop i bs))
read_more bs i k = take-add i k bs ∙ ap (λ xs. take i bs ++ take k xs) (sym (whole_rest bs i))

pub within_more : (bs : List ℕ) (i k : ℕ) → i ≤ length bs → k ≤ length (take (length bs - i) (drop i bs))
    → i + k ≤ length bs
within_more bs i k h l = omega (arith, h, l, length-take (length bs - i) (drop i bs), length-drop i bs)

-- where the parser reads ground text

pub before-len : (s : List ℕ) → length (before is_esc s) ≤ length s
before-len [] = omega arith
before-len (b ∷ s) = elim (bool_cases (is_esc b))
    [ inl e ↦ rw e (omega arith) | inr e ↦ rw e (let r = before-len s in omega (arith, r)) ]

pub some-before : (bs : List ℕ) → 0 < length bs → is_esc (get_or bs 0 0) ≡ false → 0 < length (before is_esc bs)
some-before [] h e = absurd (omega (arith, h))
some-before (b ∷ bs) h e = let f : is_esc b ≡ false = e in rw f (omega arith)

-- where ESC ends it
pub before-ends : (s : List ℕ) → length (before is_esc s) < length s
    → is_esc (get_or s (length (before is_esc s)) 0) ≡ true
before-ends [] h = absurd (omega (arith, h))
before-ends (b ∷ s) h = elim (bool_cases (is_esc b)) [
  | inl e ↦ rw e e
  | inr e ↦ rw e (before-ends s (let less = rw e at h in omega (arith, less)))
]

pub text-byte : (a b : Bool) → (a && not b) ≡ true → (a ≡ true) × (b ≡ false)
text-byte true true h = cc
text-byte true false h = (refl, refl)
text-byte false b h = cc

-- a run of ground text, from the parser's state
pub run-at : (n : ℕ) (p : Parser n) (bs : List ℕ) (k : ℕ) (q : Pending) → 0 < length bs
    → (state_is_text p.state && not (is_esc (get_or bs 0 0))) ≡ true → k ≡ length (before is_esc bs) → IsAt n p q
    → (events_from n q (take k bs) ≡ run_reported p.unfinished (take k bs))
    × (after_bytes q (take k bs) ≡ InText (run_rest p.unfinished (take k bs)))
    × (is_one_step q (take k bs) (drop k bs) ≡ true) × (p.state ≡ Ground)
run-at n p bs k q some is len h =
    let e = text-byte (state_is_text p.state) (is_esc (get_or bs 0 0)) is in
    let (u, q_is) = text_is q (is_text-at n p q h ∙ e.0) in
    let here = rw q_is at h in
    let r = run-events n u (before is_esc bs) (no_esc-before bs) in
    rw (len, take-before bs, drop-before bs, q_is) (
      r.0 ∙ ap (λ (v : List ℕ). run_reported v (before is_esc bs)) (sym here.1),
      r.1 ∙ ap (λ (v : List ℕ). InText (run_rest v (before is_esc bs))) (sym here.1),
      step-run u bs (some-before bs some e.1),
      here.0,
    )

no_run : (q : Pending) (b : ℕ) (s : List ℕ) → (is_text q ≡ true → is_esc b ≡ true) → is_one_step q (b ∷ []) s ≡ true
no_run q b [] h = refl
no_run q b (c ∷ s) h =
    elim (bool_cases (is_text q)) [
      | inl e ↦ let f : is_esc b ≡ true = h e in rw (e, f) refl
      | inr e ↦ rw e refl
    ]

-- one byte of a sequence, or ESC
pub byte-at : (n : ℕ) (p : Parser n) (bs : List ℕ) (q : Pending) → 0 < length bs
    → (state_is_text p.state && not (is_esc (get_or bs 0 0))) ≡ false → IsAt n p q
    → is_one_step q (take 1 bs) (drop 1 bs) ≡ true
byte-at n p [] q some none h = absurd (omega (arith, some))
byte-at n p (b ∷ s) q some none h = no_run q b s (λ t.
    elim (bool_cases (is_esc b)) [
      | inl e ↦ e
      | inr e ↦ let text : state_is_text p.state ≡ true = sym (is_text-at n p q h) ∙ t in let no = rw (text, e) at none
          in cc
    ])

-- the piece that a step read of what is left, and the rest of it
pub piece_and_rest : (bs : List ℕ) (i k : ℕ) → k ≤ length (take (length bs - i) (drop i bs))
    → (take k (take (length bs - i) (drop i bs)) ++ drop k (take (length bs - i) (drop i bs)) ≡ drop i bs)
    × (length (take k (take (length bs - i) (drop i bs))) ≡ k)
    × (drop (i + k) bs ≡ drop k (take (length bs - i) (drop i bs)))
piece_and_rest bs i k h =
    let ys = take (length bs - i) (drop i bs) in
    let same : take (length bs - i) (drop i bs) ≡ drop i bs = whole_rest bs i in (
      take-append-drop k (take (length bs - i) (drop i bs)) ∙ same,
      omega (arith, h, length-take k (take (length bs - i) (drop i bs))),
      sym (drop-drop k i bs) ∙ ap (drop k) (sym same),
    )

-- bytes without controls that are executed

pub printed-both : (b : ℕ) (bs : List ℕ) → printed_len (b ∷ bs) ≡ suc (length bs) → (is_printed b bs ≡ true)
    × (printed_len bs ≡ length bs)
printed-both b bs h =
    elim (bool_cases (is_printed b bs)) [
      | inl e ↦ (e, let g = rw e at h in omega (arith, g))
      | inr e ↦ let g = rw e at h in absurd (omega (arith, g))
    ]

printed-take : (b n : ℕ) (bs : List ℕ) → is_printed b bs ≡ true → is_printed b (take n bs) ≡ true
printed-take b zero bs h = elim (bool_cases (nat_lt b 0x20)) [
  | inl e ↦ let g = rw e at h
      in cc
  | inr e ↦ rw e (elim (bool_cases (b == 0xC2)) [ inl f ↦ rw f refl | inr f ↦ rw f refl ])
]
printed-take b (suc n) [] h = h
printed-take b (suc n) (c ∷ bs) h = h

pub all_printed-take : (n : ℕ) (bs : List ℕ) → printed_len bs ≡ length bs → printed_len (take n bs) ≡ length (take n bs)
all_printed-take zero bs h = refl
all_printed-take (suc n) [] h = refl
all_printed-take (suc n) (b ∷ bs) h =
    let g = printed-both b bs h in
    let e : is_printed b (take n bs) ≡ true = printed-take b n bs g.0 in
    rw e (ap suc (all_printed-take n bs g.1))

pub all_printed-drop : (n : ℕ) (bs : List ℕ) → printed_len bs ≡ length bs → printed_len (drop n bs) ≡ length (drop n bs)
all_printed-drop zero bs h = h
all_printed-drop (suc n) [] h = refl
all_printed-drop (suc n) (b ∷ bs) h = all_printed-drop n bs (printed-both b bs h).1

pub printed-prefix : (bs : List ℕ) → printed_len (take (printed_len bs) bs) ≡ length (take (printed_len bs) bs)
printed-prefix [] = refl
printed-prefix (b ∷ bs) =
    elim (bool_cases (is_printed b bs)) [
      | inl e ↦ let f : is_printed b (take (printed_len bs) bs) ≡ true = printed-take b (printed_len bs) bs e
          in rw e (rw f (ap suc (printed-prefix bs)))
      | inr e ↦ rw e refl
    ]

pub printed-within : (bs : List ℕ) → printed_len bs ≤ length bs
printed-within [] = omega arith
printed-within (b ∷ bs) = elim (bool_cases (is_printed b bs))
    [ inl e ↦ rw e (let r = printed-within bs in omega (arith, r)) | inr e ↦ rw e (omega arith) ]

print-low : (c : ℕ) (bs : List ℕ) → c < 128 → is_printed c bs ≡ true → char_event c ≡ Print c
print-low c bs h p =
    elim (bool_cases (nat_lt c 0x20)) [
      | inl e ↦ let g = rw e at p in cc
      | inr e ↦ let f : is_in_range 0x80 0x9F c ≡ false = grind (arith, nat_tests) in rw (e, f) refl
    ]

print-two : (c : ℕ) (bs : List ℕ) → 128 ≤ c → is_printed (192 + c / 64) ((128 + c % 64) ∷ bs) ≡ true
    → char_event c ≡ Print c
print-two c bs h p =
    let low : nat_lt c 0x20 ≡ false = grind (arith, nat_tests) in
    let d : 64 * (c / 64) + c % 64 ≡ c = omega arith in
    let m : c % 64 < 64 = omega arith in
    elim (bool_cases (is_in_range 0x80 0x9F c)) [
      | inl e ↦
          let most : c ≤ 0x9F = grind (arith, nat_tests) in
          let lead : (192 + c / 64 == 0xC2) ≡ true = eq-eqb (192 + c / 64) 0xC2 (omega arith) in
          let second : is_in_range 0x80 0x9F (128 + c % 64) ≡ true = grind (arith, nat_tests) in
          let g = rw (lead, second) at p in
          elim (bool_cases (nat_lt (192 + c / 64) 0x20)) [
            | inl f ↦ let k = rw f at g in cc
            | inr f ↦ let k = rw f at g
                in cc
          ]
      | inr e ↦ rw (low, e) refl
    ]

print-high : (c : ℕ) → 2048 ≤ c → char_event c ≡ Print c
print-high c h =
    let low : nat_lt c 0x20 ≡ false = grind (arith, nat_tests) in
    let f : is_in_range 0x80 0x9F c ≡ false = grind (arith, nat_tests) in
    rw (low, f) refl

printed-char : (c : ℕ) (rest : List ℕ) → IsScalar c
    → printed_len (encode_utf8 c ++ rest) ≡ length (encode_utf8 c ++ rest) → (char_event c ≡ Print c)
    × (printed_len rest ≡ length rest)
unfolding encode_utf8
printed-char c rest s h =
    elim (bool_cases (nat_lt c 128)) [
      | inl e ↦ let g = rw e at h in let k = printed-both c rest g in (print-low c rest (ltb-true c 128 e) k.0, k.1)
      | inr e ↦ elim (bool_cases (nat_lt c 2048)) [
        | inl f ↦
            let g = rw (e, f) at h in
            let k = printed-both (192 + c / 64) ((128 + c % 64) ∷ rest) g in
            (print-two c rest (nat_not c 128 e) k.0, (printed-both (128 + c % 64) rest k.1).1)
        | inr f ↦ elim (bool_cases (nat_lt c 65536)) [
          | inl j ↦
              let g = rw (e, f, j) at h in
              let k = printed-both (224 + c / 4096) ((128 + c / 64 % 64) ∷ (128 + c % 64) ∷ rest) g in
              let l = printed-both (128 + c / 64 % 64) ((128 + c % 64) ∷ rest) k.1 in
              (print-high c (nat_not c 2048 f), (printed-both (128 + c % 64) rest l.1).1)
          | inr j ↦
              let g = rw (e, f, j) at h in
              let k = printed-both (240 + c / 262144) ((128 + c / 4096 % 64) ∷ (128 + c / 64 % 64) ∷ (128 + c % 64)
              ∷ rest) g in
              let l = printed-both (128 + c / 4096 % 64) ((128 + c / 64 % 64) ∷ (128 + c % 64) ∷ rest) k.1 in
              let m = printed-both (128 + c / 64 % 64) ((128 + c % 64) ∷ rest) l.1 in
              (print-high c (nat_not c 2048 f), (printed-both (128 + c % 64) rest m.1).1)
        ]
      ]
    ]

printed-chars : (cs : List ℕ) → all_scalars cs ≡ true → printed_len (encode_utf8_all cs) ≡ length (encode_utf8_all cs)
    → map char_event cs ≡ map Print cs
printed-chars [] h p = refl
printed-chars (c ∷ cs) h p =
    let g = and_parts _ _ h in
    let k = printed-char c (encode_utf8_all cs) g.0 p in
    ap (λ (e : Event). e ∷ map char_event cs) k.0 ∙ ap (λ (es : List Event). Print c ∷ es) (printed-chars cs g.1 k.1)

-- the events of a text without controls are that its characters are printed
pub printed-text : (bs : List ℕ) → IsUtf8 bs → printed_len bs ≡ length bs → run_reported [] bs ≡ map Print (chars bs)
printed-text bs h p =
    let same = encodes-chars bs h in
    (run-text bs h).0 ∙ printed-chars (chars bs) (scalars-chars bs h) (ap printed_len same ∙ (p ∙ ap length (sym same)))

-- blocks without controls

pub pair_step : (bs : List ℕ) (i : ℕ) (p q : Bool) → i + 1 < length bs
    → (IsTrue p → i + printed_len (drop i bs) ≡ printed_len bs)
    → q ≡ is_printed (get_or bs i 0) (get_or bs (i + 1) 0 ∷ []) → IsTrue (p && q)
    → i + 1 + printed_len (drop (i + 1) bs) ≡ printed_len bs
pair_step bs i true true lt inv e t =
    let b = get_or bs i 0 in
    let after : drop i bs ≡ b ∷ drop (i + 1) bs = drop_more bs i 0 (omega arith) in
    let next : drop (i + 1) bs ≡ get_or bs (i + 1) 0 ∷ drop (i + 1 + 1) bs = drop_more bs (i + 1) 0 lt in
    let printed : is_printed b (drop (i + 1) bs) ≡ true = ap (is_printed b) next ∙ sym e in
    let one : printed_len (b ∷ drop (i + 1) bs) ≡ suc (printed_len (drop (i + 1) bs)) = rw printed refl in
    omega (arith, inv refl, ap printed_len after, one)
pair_step bs i true false lt inv e t = absurd (let no : false ≡ true = t in cc)
pair_step bs i false q lt inv e t = absurd (let no : false ≡ true = t in cc)

pub block_more : (bs : List ℕ) (i : ℕ) → i + 16 ≤ length bs
    → 16 + printed_len (drop 16 (take (length bs - i) (drop i bs))) ≡ printed_len (take (length bs - i) (drop i bs))
    → i + printed_len (drop i bs) ≡ printed_len bs → i + 16 + printed_len (drop (i + 16) bs) ≡ printed_len bs
block_more bs i within block so_far =
    let rest : take (length bs - i) (drop i bs) ≡ drop i bs = whole_rest bs i in
    let prefix : 16 + printed_len (drop 16 (drop i bs)) ≡ printed_len (drop i bs) = rw rest at block in
    let more : drop (i + 16) bs ≡ drop 16 (drop i bs) = sym (drop-drop 16 i bs) in
    omega (arith, so_far, prefix, ap printed_len more)
