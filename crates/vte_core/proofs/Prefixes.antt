-- Ground text, prefix by prefix.
use Rattle.std.proofs.Common.{◌≡◌, ℕ, zero, suc, ◌+◌, ◌-◌, ◌*◌, ◌<◌, ◌≤◌, true, false, List, [], ◌∷◌, ◌++◌, length}
use Rattle.std.proofs.Common.{take, drop, get_or, nat_lt, ◌==◌, refl, sym, ◌∙◌, ap, arith, inl, inr, append_assoc}
use Rattle.std.proofs.lemmas.Bool.Decides.{nat_tests}
use Rattle.std.proofs.lemmas.List.{drop-drop, drop_all, append-nil}
use Rattle.std.specs.Int.{is_in_range}
use Rattle.vte_core.specs.Event.{Event, Performs, Print, Execute}
use Rattle.vte_core.specs.Bytes.{is_esc}
use Rattle.vte_core.specs.Text.{char_len, second_min, second_max, char_event, malformed_event}
use Rattle.vte_core.specs.Pending.{goes_on, whole_goes_on, text_reported, text_rest, IsUnfinished, IsWhole, code_of}
use Rattle.vte_core.specs.Shapes.{before}
use Rattle.vte_core.specs.Runs.{ReadsText, run_reported, run_rest, has_no_esc}
use Rattle.vte_core.proofs.Characters.{bool_cases, lead-high, malformed-high, tail_first}
use Rattle.vte_core.proofs.Runs.{run_reported-append, run_rest-append, no_esc-both, take-before, two, three, four}
use Rattle.vte_core.proofs.StopLemmas.{whole_rest}

-- the text before the next ESC begins with the bytes that have none
prefix-before : (bs : List ℕ) (k : ℕ) → k ≤ length bs → has_no_esc (take k bs) ≡ true
    → before is_esc bs ≡ take k bs ++ drop k (before is_esc bs)
prefix-before bs zero l h = refl
prefix-before [] (suc k) l h = absurd (omega (arith, l))
prefix-before (b ∷ bs) (suc k) l h =
    let g = no_esc-both b (take k bs) h in
    let e : is_esc b ≡ false = g.0 in
    rw e (ap (λ (xs : List ℕ). b ∷ xs) (prefix-before bs k (omega (arith, l)) g.1))

before-drop : (bs : List ℕ) (k : ℕ) → k ≤ length bs → has_no_esc (take k bs) ≡ true
    → before is_esc (drop k bs) ≡ drop k (before is_esc bs)
before-drop bs zero l h = refl
before-drop [] (suc k) l h = absurd (omega (arith, l))
before-drop (b ∷ bs) (suc k) l h =
    let g = no_esc-both b (take k bs) h in
    let e : is_esc b ≡ false = g.0 in
    rw e (before-drop bs k (omega (arith, l)) g.1)

-- a prefix whose events are its own
pub reads_prefix : {S : Type 0} {step : S → Event → S → Type 0} {u : List ℕ} {old : S} (bs : List ℕ) (k : ℕ) {new : S}
    {v : List ℕ} → 0 < k → k ≤ length bs
    → has_no_esc (take k bs) ≡ true → Performs step old (run_reported u (take k bs)) new → v ≡ run_rest u (take k bs)
    → ReadsText step u old bs k new v
reads_prefix {S} {step} {u} {old} bs k {new} {v} s l h p r =
    let e = prefix-before bs k l h in
    let left = drop k (before is_esc bs) in
    record {
      some = s;
      within = l;
      no_esc = h;
      reported = run_reported u (take k bs);
      performed = p;
      added = ap (run_reported u) e ∙ (run_reported-append u (take k bs) left
          ∙ ap (λ (w : List ℕ). run_reported u (take k bs) ++ run_reported w left) (sym r));
      rest = ap (run_rest u) e ∙ (run_rest-append u (take k bs) left ∙ ap (λ (w : List ℕ). run_rest w left) (sym r));
    }

-- a text is read alone where nothing is unfinished
pub reads_alone : {S : Type 0} {step : S → Event → S → Type 0} {old : S} (bs prefix : List ℕ) (k : ℕ) {new : S}
    {v : List ℕ} (es : List Event) → 0 < k → k ≤ length bs → take k bs ≡ prefix
    → (run_reported [] prefix ≡ es) × (run_rest [] prefix ≡ v) × (has_no_esc prefix ≡ true)
    → Performs step old es new → ReadsText step [] old bs k new v
reads_alone bs prefix k es s l is r p =
    reads_prefix bs k s l (rw is r.2) (rw (is, r.0) p) (rw is (sym r.1))

-- one byte
pub reads_byte : {S : Type 0} {step : S → Event → S → Type 0} {u : List ℕ} {old : S} (bs : List ℕ) {new : S}
    {v : List ℕ}
    → 0 < length bs → is_esc (get_or bs 0 0) ≡ false → Performs step old (text_reported u (get_or bs 0 0)) new
    → v ≡ text_rest u (get_or bs 0 0) → ReadsText step u old bs 1 new v
reads_byte [] some e p r = absurd (omega (arith, some))
reads_byte {S} {step} {u} (b ∷ s) some e p r =
    let f : is_esc b ≡ false = e in
    reads_prefix (b ∷ s) 1 (omega arith) (omega arith) (rw f refl) (rw (append-nil (text_reported u b)) p) r

-- a byte that doesn't continue the character that was begun: what is read after that character's U+FFFD
cut-anew : (a : ℕ) (t : List ℕ) (b : ℕ) (s : List ℕ) → goes_on a t b ≡ false
    → (run_reported (a ∷ t) (b ∷ s) ≡ Print 0xFFFD ∷ run_reported [] (b ∷ s))
    × (run_rest (a ∷ t) (b ∷ s) ≡ run_rest [] (b ∷ s))
cut-anew a t b s off = (rw off refl, rw off refl)

pub reads_cut : {S : Type 0} {step : S → Event → S → Type 0} (u : List ℕ) {old : S} (bs : List ℕ) {mid : S}
    {w : List ℕ} {k : ℕ} {new : S} {v : List ℕ} → 0 < length u → is_esc (get_or bs 0 0) ≡ false
    → whole_goes_on u (get_or bs 0 0) ≡ false → step old (Print 0xFFFD) mid → w ≡ []
    → ReadsText step w mid bs k new v → ReadsText step u old bs k new v
reads_cut [] bs begun e off p none r = absurd (omega (arith, begun))
reads_cut (a ∷ t) [] begun e off p none r = absurd (omega (arith, r.some, r.within))
reads_cut (a ∷ t) (b ∷ s) {mid} begun e off p none r =
    let f : is_esc b ≡ false = e in
    let text : before is_esc (b ∷ s) ≡ b ∷ before is_esc s = rw f refl in
    let cut = cut-anew a t b (before is_esc s) off in
    record {
      some = r.some;
      within = r.within;
      no_esc = r.no_esc;
      reported = Print 0xFFFD ∷ r.reported;
      performed = (mid, p, r.performed);
      added = ap (run_reported (a ∷ t)) text ∙ (cut.0 ∙ ap (λ (es : List Event). Print 0xFFFD ∷ es)
          (ap (run_reported []) (sym text)
          ∙ (ap (λ (x : List ℕ). run_reported x (before is_esc (b ∷ s))) (sym none) ∙ r.added)));
      rest = ap (run_rest (a ∷ t)) text ∙ (cut.1
          ∙ (ap (run_rest []) (sym text)
          ∙ (ap (λ (x : List ℕ). run_rest x (before is_esc (b ∷ s))) (sym none) ∙ r.rest)));
    }

-- a malformed sequence of one byte, of two and three

cut-one : (a b : ℕ) (s : List ℕ) → 1 < char_len a → goes_on a [] b ≡ false
    → (run_reported [] (a ∷ b ∷ s) ≡ Print 0xFFFD ∷ run_reported [] (b ∷ s))
    × (run_rest [] (a ∷ b ∷ s) ≡ run_rest [] (b ∷ s))
cut-one a b s long off =
    let one : (char_len a == 1) ≡ false = grind (arith, nat_tests) in
    let none : (char_len a == 0) ≡ false = grind (arith, nat_tests) in
    rw (one, none, off) (refl, refl)

cut-two : (a b c : ℕ) (s : List ℕ) → 2 < char_len a → goes_on a [] b ≡ true → is_in_range 0x80 0xBF c ≡ false
    → (run_reported [] (a ∷ b ∷ c ∷ s) ≡ Print 0xFFFD ∷ run_reported [] (c ∷ s))
    × (run_rest [] (a ∷ b ∷ c ∷ s) ≡ run_rest [] (c ∷ s))
cut-two a b c s long begun off =
    let one : (char_len a == 1) ≡ false = grind (arith, nat_tests) in
    let none : (char_len a == 0) ≡ false = grind (arith, nat_tests) in
    let two : (2 == char_len a) ≡ false = grind (arith, nat_tests) in
    rw (one, none, begun, two, off) (refl, refl)

cut-three : (a b c d : ℕ) (s : List ℕ) → 3 < char_len a → goes_on a [] b ≡ true → is_in_range 0x80 0xBF c ≡ true
    → is_in_range 0x80 0xBF d ≡ false
    → (run_reported [] (a ∷ b ∷ c ∷ d ∷ s) ≡ Print 0xFFFD ∷ run_reported [] (d ∷ s))
    × (run_rest [] (a ∷ b ∷ c ∷ d ∷ s) ≡ run_rest [] (d ∷ s))
cut-three a b c d s long begun on off =
    let one : (char_len a == 1) ≡ false = grind (arith, nat_tests) in
    let none : (char_len a == 0) ≡ false = grind (arith, nat_tests) in
    let two : (2 == char_len a) ≡ false = grind (arith, nat_tests) in
    let three : (3 == char_len a) ≡ false = grind (arith, nat_tests) in
    rw (one, none, begun, two, on, three, off) (refl, refl)

malformed-reported : (a b : ℕ) (s : List ℕ) → 0x80 ≤ a → (1 < char_len a → goes_on a [] b ≡ false)
    → (run_reported [] (a ∷ b ∷ s) ≡ malformed_event 1 a ∷ run_reported [] (b ∷ s))
    × (run_rest [] (a ∷ b ∷ s) ≡ run_rest [] (b ∷ s))
malformed-reported a b s high off =
    elim (bool_cases (nat_lt 1 (char_len a))) [
      | inl e ↦
          let long : 1 < char_len a = grind (arith, nat_tests) in
          let cut = cut-one a b s long (off long) in
          let is : malformed_event 1 a ≡ Print 0xFFFD = malformed-high 1 a (lead-high a long) in
          (cut.0 ∙ ap (λ (x : Event). x ∷ run_reported [] (b ∷ s)) (sym is), cut.1)
      | inr e ↦ let none : char_len a ≡ 0 = grind (arith, nat_tests) in rw none (refl, refl)
    ]

-- the first k bytes have an event
reads_event : {S : Type 0} {step : S → Event → S → Type 0} {old : S} (bs : List ℕ) (k : ℕ) {new : S} (e : Event) → 0 < k
    → k ≤ length bs → has_no_esc (take k bs) ≡ true
    → (run_reported [] (before is_esc bs) ≡ e ∷ run_reported [] (drop k (before is_esc bs)))
    × (run_rest [] (before is_esc bs) ≡ run_rest [] (drop k (before is_esc bs)))
    → step old e new → ReadsText step [] old bs k new []
reads_event bs k {new} e some within no_esc both h = record {
  some = some;
  within = within;
  no_esc = no_esc;
  reported = e ∷ [];
  performed = (new, h, refl);
  added = both.0;
  rest = both.1;
}

pub reads_malformed : {S : Type 0} {step : S → Event → S → Type 0} {old : S} (bs : List ℕ) {new : S} → 1 < length bs
    → 0x80 ≤ get_or bs 0 0 → is_esc (get_or bs 1 0) ≡ false
    → (1 < char_len (get_or bs 0 0) → goes_on (get_or bs 0 0) [] (get_or bs 1 0) ≡ false)
    → step old (malformed_event 1 (get_or bs 0 0)) new → ReadsText step [] old bs 1 new []
reads_malformed [] some high esc off h = absurd (omega (arith, some))
reads_malformed (a ∷ []) some high esc off h = absurd (omega (arith, some))
reads_malformed (a ∷ b ∷ s) some high esc off h =
    let e : is_esc a ≡ false = grind (arith, nat_tests) in
    let f : is_esc b ≡ false = esc in
    reads_event (a ∷ b ∷ s) 1 (malformed_event 1 a) (omega arith) (omega arith) (rw e refl)
    (rw (e, f) (malformed-reported a b (before is_esc s) high off)) h

pub reads_two : {S : Type 0} {step : S → Event → S → Type 0} {old : S} (bs : List ℕ) {new : S} → 2 < length bs
    → 2 < char_len (get_or bs 0 0) → goes_on (get_or bs 0 0) [] (get_or bs 1 0) ≡ true
    → is_in_range 0x80 0xBF (get_or bs 2 0) ≡ false → is_esc (get_or bs 2 0) ≡ false
    → step old (Print 0xFFFD) new → ReadsText step [] old bs 2 new []
reads_two [] some long begun off esc h = absurd (omega (arith, some))
reads_two (a ∷ []) some long begun off esc h = absurd (omega (arith, some))
reads_two (a ∷ b ∷ []) some long begun off esc h = absurd (omega (arith, some))
reads_two (a ∷ b ∷ c ∷ s) some long begun off esc h =
    let e : is_esc a ≡ false = grind (arith, nat_tests) in
    let f : is_esc b ≡ false = grind (arith, nat_tests) in
    let g : is_esc c ≡ false = esc in
    reads_event (a ∷ b ∷ c ∷ s) 2 (Print 0xFFFD) (omega arith) (omega arith) (rw (e, f) refl)
    (rw (e, f, g) (cut-two a b c (before is_esc s) long begun off)) h

pub reads_three : {S : Type 0} {step : S → Event → S → Type 0} {old : S} (bs : List ℕ) {new : S} → 3 < length bs
    → 3 < char_len (get_or bs 0 0) → goes_on (get_or bs 0 0) [] (get_or bs 1 0) ≡ true
    → is_in_range 0x80 0xBF (get_or bs 2 0) ≡ true → is_in_range 0x80 0xBF (get_or bs 3 0) ≡ false
    → is_esc (get_or bs 3 0) ≡ false → step old (Print 0xFFFD) new → ReadsText step [] old bs 3 new []
reads_three [] some long begun on off esc h = absurd (omega (arith, some))
reads_three (a ∷ []) some long begun on off esc h = absurd (omega (arith, some))
reads_three (a ∷ b ∷ []) some long begun on off esc h = absurd (omega (arith, some))
reads_three (a ∷ b ∷ c ∷ []) some long begun on off esc h = absurd (omega (arith, some))
reads_three (a ∷ b ∷ c ∷ d ∷ s) some long begun on off esc h =
    let e : is_esc a ≡ false = grind (arith, nat_tests) in
    let f : is_esc b ≡ false = grind (arith, nat_tests) in
    let g : is_esc c ≡ false = grind (arith, nat_tests) in
    let i : is_esc d ≡ false = esc in
    reads_event (a ∷ b ∷ c ∷ d ∷ s) 3 (Print 0xFFFD) (omega arith) (omega arith) (rw (e, f, g) refl)
    (rw (e, f, g, i) (cut-three a b c d (before is_esc s) long begun on off)) h

-- a control of two bytes
pub c1-run : (b : ℕ) → is_in_range 0x80 0x9F b ≡ true
    → (run_reported [] (0xC2 ∷ b ∷ []) ≡ Execute b ∷ []) × (run_rest [] (0xC2 ∷ b ∷ []) ≡ [])
    × (has_no_esc (0xC2 ∷ b ∷ []) ≡ true)
c1-run b h =
    let on : is_in_range 0x80 0xBF b ≡ true = grind (arith, nat_tests) in
    let esc : is_esc b ≡ false = grind (arith, nat_tests) in
    let low : nat_lt b 0x20 ≡ false = grind (arith, nat_tests) in
    let code : 2 * 64 + (b - 128) ≡ b = grind (arith, nat_tests) in
    (rw on (rw code (rw (low, h) refl)), rw on refl, rw esc refl)

-- after the first i bytes and their events, a step of ground text
pub reads_more : {S : Type 0} (step : S → Event → S
    → Type 0) (u w : List ℕ) (mid : S) (bs : List ℕ) (i k : ℕ) (new : S) (v : List ℕ) (reported : List Event)
    → i ≤ length bs → has_no_esc (take i bs) ≡ true
    → run_reported u (before is_esc bs) ≡ reported ++ run_reported w (drop i (before is_esc bs))
    → run_rest u (before is_esc bs) ≡ run_rest w (drop i (before is_esc bs))
    → (r : ReadsText step w mid (take (length bs - i) (drop i bs)) k new v)
    → (run_reported u (before is_esc bs) ≡ (reported ++ r.reported) ++ run_reported v (drop (i + k) (before is_esc bs)))
    × (run_rest u (before is_esc bs) ≡ run_rest v (drop (i + k) (before is_esc bs)))
reads_more step u w mid bs i k new v reported l h a b r =
    let s = before is_esc bs in
    let p : before is_esc (take (length bs - i) (drop i bs)) ≡ drop i s =
    ap (before is_esc) (whole_rest bs i) ∙ before-drop bs i l h in
    let left : drop k (before is_esc (take (length bs - i) (drop i bs))) ≡ drop (i + k) s =
    ap (drop k) p ∙ drop-drop k i s in (
      a ∙ (ap (λ (es : List Event). reported ++ es) (ap (run_reported w) (sym p) ∙ (r.added
          ∙ ap (λ (xs : List ℕ). r.reported ++ run_reported v xs) left))
          ∙ sym (append_assoc reported r.reported (run_reported v (drop (i + k) s)))),
      b ∙ (ap (run_rest w) (sym p) ∙ (r.rest ∙ ap (run_rest v) left)),
    )

-- the whole text
pub reads_all : (u w : List ℕ) (bs : List ℕ) (i : ℕ) (reported : List Event) → i ≡ length (before is_esc bs)
    → run_reported u (before is_esc bs) ≡ reported ++ run_reported w (drop i (before is_esc bs))
    → run_rest u (before is_esc bs) ≡ run_rest w (drop i (before is_esc bs))
    → (reported ≡ run_reported u (take i bs)) × (w ≡ run_rest u (take i bs))
reads_all u w bs i reported e a b =
    let s = before is_esc bs in
    let all : take i bs ≡ s = ap (λ (j : ℕ). take j bs) e ∙ take-before bs in
    let none : drop i s ≡ [] = drop_all i s (omega (arith, e)) in (
      sym (ap (run_reported u) all ∙ (a ∙ (ap (λ (xs : List ℕ). reported ++ run_reported w xs) none
          ∙ append-nil reported))),
      sym (ap (run_rest u) all ∙ (b ∙ ap (run_rest w) none)),
    )

pub of_three : (a : ℕ) → 1 < char_len a → 0xE0 ≤ a → 2 < char_len a
of_three a long least = grind (arith, nat_tests)

pub of_four : (a : ℕ) → 1 < char_len a → 0xF0 ≤ a → 3 < char_len a
of_four a long least = grind (arith, nat_tests)

at_most_four : (a : ℕ) → char_len a ≤ 4
at_most_four a = grind (arith, nat_tests)

lead-no_esc : (a : ℕ) → 1 < char_len a → is_esc a ≡ false
lead-no_esc a long = grind (arith, nat_tests)

second-no_esc : (a b : ℕ) → is_in_range (second_min a) (second_max a) b ≡ true → is_esc b ≡ false
second-no_esc a b h = grind (arith, nat_tests)

tail-no_esc : (b : ℕ) → is_in_range 0x80 0xBF b ≡ true → is_esc b ≡ false
tail-no_esc b h = grind (arith, nat_tests)

-- three bytes of a character of four
pub kept_three : (bs : List ℕ) → 2 < length bs → 3 < char_len (get_or bs 0 0)
    → goes_on (get_or bs 0 0) [] (get_or bs 1 0) ≡ true → is_in_range 0x80 0xBF (get_or bs 2 0) ≡ true
    → IsUnfinished (take 3 bs) × (run_reported [] (take 3 bs) ≡ []) × (run_rest [] (take 3 bs) ≡ take 3 bs)
    × (has_no_esc (take 3 bs) ≡ true)
kept_three [] some long begun third = absurd (omega (arith, some))
kept_three (a ∷ []) some long begun third = absurd (omega (arith, some))
kept_three (a ∷ b ∷ []) some long begun third = absurd (omega (arith, some))
kept_three (a ∷ b ∷ c ∷ s) some long begun third =
    let n : char_len a ≡ 4 = omega (arith, long, at_most_four a) in
    let e = lead-no_esc a (omega (arith, long)) in
    let f = second-no_esc a b begun in
    let g = tail-no_esc c third in (
      rw (n, begun, third) (refl, omega arith),
      rw (n, begun, n, third, n) refl,
      rw (n, begun, n, third, n) refl,
      rw (e, f, g) refl,
    )

-- whole characters

-- a whole character of more than one byte
pub whole-reported : (bs : List ℕ) → IsWhole bs → 1 < length bs
    → (run_reported [] bs ≡ char_event (code_of bs) ∷ []) × (run_rest [] bs ≡ []) × (has_no_esc bs ≡ true)
whole-reported [] h long = absurd (omega (arith, long))
whole-reported (a ∷ []) h long = absurd (omega (arith, long))
whole-reported (a ∷ b ∷ []) h long =
    let n : char_len a ≡ 2 = sym h.1 in
    let first = tail_first 0 (second_min a) (second_max a) b [] (let g = rw n at h.0 in g) in
    let r = two a b _ [] n first.0 refl in
    let e = lead-no_esc a (omega (arith, n)) in
    let f = second-no_esc a b first.0 in
    (r.0, r.1, rw (e, f) refl)
whole-reported (a ∷ b ∷ c ∷ []) h long =
    let n : char_len a ≡ 3 = sym h.1 in
    let first = tail_first 1 (second_min a) (second_max a) b (c ∷ []) (let g = rw n at h.0 in g) in
    let second = tail_first 0 0x80 0xBF c [] first.1 in
    let r = three a b c _ [] n first.0 second.0 refl in
    let e = lead-no_esc a (omega (arith, n)) in
    let f = second-no_esc a b first.0 in
    let i = tail-no_esc c second.0 in
    (r.0, r.1, rw (e, f, i) refl)
whole-reported (a ∷ b ∷ c ∷ d ∷ []) h long =
    let n : char_len a ≡ 4 = sym h.1 in
    let first = tail_first 2 (second_min a) (second_max a) b (c ∷ d ∷ []) (let g = rw n at h.0 in g) in
    let second = tail_first 1 0x80 0xBF c (d ∷ []) first.1 in
    let third = tail_first 0 0x80 0xBF d [] second.1 in
    let r = four a b c d _ [] n first.0 second.0 third.0 refl in
    let e = lead-no_esc a (omega (arith, n)) in
    let f = second-no_esc a b first.0 in
    let i = tail-no_esc c second.0 in
    let j = tail-no_esc d third.0 in
    (r.0, r.1, rw (e, f, i, j) refl)
whole-reported (a ∷ b ∷ c ∷ d ∷ x ∷ s) h long =
    absurd (omega (arith, h.1, at_most_four a))
