-- Each character that the events of a byte stream print is a Unicode scalar value.
use Rattle.std.proofs.Common.{◌≡◌, ◌∙◌, ℕ, zero, suc, ◌+◌, ◌-◌, ◌*◌, ◌<◌, ◌≤◌, ◌==◌, Bool, true, false, cond, ◌&&◌}
use Rattle.std.proofs.Common.{◌||◌, not, List, [], ◌∷◌, ◌++◌, length, take, map, refl, sym, ap, arith, subst, ⊎_elim}
use Rattle.std.proofs.Common.{nat_lt, All, ◌⊎◌, inl, inr}
use Rattle.std.specs.Char.{IsScalar}
use Rattle.std.specs.Int.{is_in_range}
use Rattle.std.specs.List.{filter}
use Rattle.std.proofs.lemmas.Bool.{cond_both, cases_Bool, cases_lt, eqb-true, ltb-true}
use Rattle.std.proofs.lemmas.Bool.Decides.{nat_tests}
use Rattle.std.proofs.lemmas.List.Elements.{All-nil, All-cons, All-append, All-map, All-drop}
use Rattle.vte_core.specs.Event.{Event, Print, Execute, Hook, Put, Unhook, Osc, Csi, Esc}
use Rattle.vte_core.specs.Bytes.{is_abort, is_control, is_intermediate, is_header, ends_header, ends_escape, ends_osc}
use Rattle.vte_core.specs.Bytes.{ends_device, is_put}
use Rattle.vte_core.specs.Header.{is_well_formed, kept_groups, kept_intermediates, overflows}
use Rattle.vte_core.specs.Text.{char_len, second_min, second_max, tail_len, prefix_len, first_bits, joined, char_event}
use Rattle.vte_core.specs.Text.{malformed_event, prefix_event, text_after, text}
use Rattle.vte_core.specs.Shapes.{before, from, executed, aborted, swallowed_end, swallowed, device_end, device}
use Rattle.vte_core.specs.Shapes.{hook_end}
use Rattle.vte_core.specs.Shapes.{hook, csi_end, csi, osc_pieces, osc_end, osc, introduced, escape_end, escape}
use Rattle.vte_core.specs.Shapes.{cut_at_esc, segments, events}
use Rattle.screen_model.specs.Made.{events_added}

abbrev pub IsReported : Event → Type 0
IsReported (Print c) = IsScalar c
IsReported e = Unit {0}

abbrev Reported : List Event → Type 0
Reported es = All IsReported es

none : Reported []
none = All-nil IsReported

-- an event that prints nothing, and others
then-more : (e : Event) (es : List Event) → IsReported e → Reported es → Reported (e ∷ es)
then-more e es p h = All-cons IsReported e es p h

one : (e : Event) → IsReported e → Reported (e ∷ [])
one e p = then-more e [] p none

joined-reported : (es fs : List Event) → Reported es → Reported fs → Reported (es ++ fs)
joined-reported es fs p q = All-append IsReported es fs p q

if-reported : (b : Bool) (es fs : List Event) → Reported es → Reported fs → Reported (cond b es fs)
if-reported b es fs p q = cond_both b es fs (λ (xs : List Event). Reported xs) (λ _. p) (λ _. q)

-- ---- the number that well-formed bytes encode

low : (c : ℕ) → c < 0xD800 → IsScalar c
low c h = grind (arith, nat_tests)

high : (c : ℕ) → 0xE000 ≤ c → c < 0x110000 → IsScalar c
high c h l = grind (arith, nat_tests)

record Tail (k lo hi : ℕ) (bs : List ℕ) : Type 0 where
  pub b : ℕ
  pub rest : List ℕ
  pub is : bs ≡ b ∷ rest
  pub least : lo ≤ b
  pub most : b ≤ hi
  pub more : tail_len k 0x80 0xBF rest ≡ k

in-range : (lo hi b : ℕ) → is_in_range lo hi b ≡ true → (lo ≤ b) × (b ≤ hi)
in-range lo hi b e = (grind (arith, nat_tests), grind (arith, nat_tests))

tail-first : (k lo hi : ℕ) (bs : List ℕ) → tail_len (suc k) lo hi bs ≡ suc k → Tail k lo hi bs
tail-first k lo hi [] e = absurd (omega (arith, e))
tail-first k lo hi (b ∷ bs) e =
    cond_both (is_in_range lo hi b) (suc (tail_len k 0x80 0xBF bs)) 0 (λ n. n ≡ suc k → Tail k lo hi (b ∷ bs))
    (λ t q. let is = in-range lo hi b t in
    record { b = b; rest = bs; is = refl; least = is.0; most = is.1; more = omega (arith, q) })
    (λ _ q. absurd (omega (arith, q))) e

Whole : ℕ → ℕ → Type 0
Whole a n = (bs : List ℕ) → tail_len (n - 1) (second_min a) (second_max a) bs ≡ n - 1
    → IsScalar (joined (first_bits a) (take (n - 1) bs))

whole-one : (a : ℕ) → a < 0x80 → Whole a 1
unfolding Whole
whole-one a h bs e = low (first_bits a) (grind (arith, nat_tests))

least : (a : ℕ) → 0x80 ≤ second_min a
least a = grind (arith, nat_tests)

least-four : (a : ℕ) → a ≡ 0xF0 → 0x90 ≤ second_min a
least-four a e = grind (arith, nat_tests)

most : (a : ℕ) → second_max a ≤ 0xBF
most a = grind (arith, nat_tests)

most-three : (a : ℕ) → a ≡ 0xED → second_max a ≤ 0x9F
most-three a e = grind (arith, nat_tests)

most-four : (a : ℕ) → a ≡ 0xF4 → second_max a ≤ 0x8F
most-four a e = grind (arith, nat_tests)

whole-two : (a : ℕ) → 0xC2 ≤ a → a ≤ 0xDF → Whole a 2
unfolding Whole
whole-two a h l bs e =
    let t = tail-first 0 (second_min a) (second_max a) bs e in
    let x = first_bits a in
    let bits : x ≡ a - 0xC0 = grind (arith, nat_tests) in
    subst (λ xs. IsScalar (joined x (take 1 xs))) (sym t.is)
    (low (x * 64 + (t.b - 128)) (omega (arith, bits, t.most, most a)))

three-is : (x b c : ℕ) → ((x < 13) ⊎ ((x ≡ 13) × (b ≤ 0x9F))) ⊎ (14 ≤ x) → x ≤ 15 → b ≤ 0xBF → c ≤ 0xBF → 0x80 ≤ b
    → IsScalar ((x * 64 + (b - 128)) * 64 + (c - 128))
three-is x b c (inl (inl h)) l p q r = low ((x * 64 + (b - 128)) * 64 + (c - 128)) (omega (arith, h, p, q))
three-is x b c (inl (inr (e, h))) l p q r = low ((x * 64 + (b - 128)) * 64 + (c - 128)) (omega (arith, e, h, q))
three-is x b c (inr h) l p q r = high ((x * 64 + (b - 128)) * 64 + (c - 128)) (omega (arith, h)) (omega
    (arith, l, p, q))

which-three : (a b : ℕ) → 0xE0 ≤ a → b ≤ second_max a
    → ((a - 0xE0 < 13) ⊎ ((a - 0xE0 ≡ 13) × (b ≤ 0x9F))) ⊎ (14 ≤ a - 0xE0)
which-three a b h m =
    ⊎_elim (λ (l : a - 0xE0 < 13). inl (inl l))
    (λ (l : 13 ≤ a - 0xE0). ⊎_elim (λ (k : 13 < a - 0xE0). inr (omega (arith, k)))
    (λ (k : a - 0xE0 ≤ 13). let e : a ≡ 0xED = omega (arith, h, l, k) in
    inl (inr (omega (arith, e), omega (arith, m, most-three a e))))
    (cases_lt 13 (a - 0xE0)))
    (cases_lt (a - 0xE0) 13)

whole-three : (a : ℕ) → 0xE0 ≤ a → a ≤ 0xEF → Whole a 3
unfolding Whole
whole-three a h l bs e =
    let t = tail-first 1 (second_min a) (second_max a) bs e in
    let u = tail-first 0 0x80 0xBF t.rest t.more in
    let x = first_bits a in
    let same : x ≡ a - 0xE0 = grind (arith, nat_tests) in
    let is = three-is (a - 0xE0) t.b u.b (which-three a t.b h t.most) (omega (arith, l)) (omega (arith, t.most, most a))
    u.most (omega (arith, t.least, least a)) in
    subst (λ xs. IsScalar (joined x (take 2 xs))) (sym t.is)
    (subst (λ xs. IsScalar (joined (x * 64 + (t.b - 128)) (take 1 xs))) (sym u.is)
    (subst (λ y. IsScalar ((y * 64 + (t.b - 128)) * 64 + (u.b - 128))) (sym same) is))

four-low : (a b : ℕ) → 0xF0 ≤ a → second_min a ≤ b → 16 ≤ (a - 0xF0) * 64 + (b - 128)
four-low a b h m =
    ⊎_elim (λ (k : 0xF0 < a). omega (arith, k))
    (λ (k : a ≤ 0xF0). let e : a ≡ 0xF0 = omega (arith, h, k) in omega (arith, least-four a e, m))
    (cases_lt 0xF0 a)

four-high : (a b : ℕ) → a ≤ 0xF4 → b ≤ second_max a → (a - 0xF0) * 64 + (b - 128) < 272
four-high a b l m =
    ⊎_elim (λ (k : a < 0xF4). omega (arith, k, m, most a))
    (λ (k : 0xF4 ≤ a). let e : a ≡ 0xF4 = omega (arith, l, k) in omega (arith, e, most-four a e, m))
    (cases_lt a 0xF4)

whole-four : (a : ℕ) → 0xF0 ≤ a → a ≤ 0xF4 → Whole a 4
unfolding Whole
whole-four a h l bs e =
    let t = tail-first 2 (second_min a) (second_max a) bs e in
    let u = tail-first 1 0x80 0xBF t.rest t.more in
    let v = tail-first 0 0x80 0xBF u.rest u.more in
    let x = first_bits a in
    let y = (a - 0xF0) * 64 + (t.b - 128) in
    let same : x ≡ a - 0xF0 = grind (arith, nat_tests) in
    let is = high ((y * 64 + (u.b - 128)) * 64 + (v.b - 128)) (omega (arith, four-low a t.b h t.least))
    (omega (arith, four-high a t.b l t.most, u.most, v.most)) in
    subst (λ xs. IsScalar (joined x (take 3 xs))) (sym t.is)
    (subst (λ xs. IsScalar (joined (x * 64 + (t.b - 128)) (take 2 xs))) (sym u.is)
    (subst (λ xs. IsScalar (joined ((x * 64 + (t.b - 128)) * 64 + (u.b - 128)) (take 1 xs))) (sym v.is)
    (subst (λ z. IsScalar (((z * 64 + (t.b - 128)) * 64 + (u.b - 128)) * 64 + (v.b - 128))) (sym same) is)))

len-none : (a : ℕ) → nat_lt a 0x80 ≡ false → is_in_range 0xC2 0xDF a ≡ false → is_in_range 0xE0 0xEF a ≡ false
    → is_in_range 0xF0 0xF4 a ≡ false → char_len a ≡ 0
len-none a e f g h = rw (e, f, g, h) refl

written-scalar : (a : ℕ) (bs : List ℕ) → prefix_len a bs ≡ char_len a
    → IsScalar (joined (first_bits a) (take (prefix_len a bs - 1) bs))
unfolding Whole
written-scalar a bs e =
    let tail : (n : ℕ) → char_len a ≡ n → tail_len (n - 1) (second_min a) (second_max a) bs ≡ n - 1 = λ n f.
    ap (λ m. tail_len (m - 1) (second_min a) (second_max a) bs) (sym f) ∙ omega (arith, e, f) in
    let back : (n : ℕ) → char_len a ≡ n → IsScalar (joined (first_bits a) (take (n - 1) bs))
    → IsScalar (joined (first_bits a) (take (prefix_len a bs - 1) bs)) = λ n f h.
    subst (λ m. IsScalar (joined (first_bits a) (take (m - 1) bs))) (sym (e ∙ f)) h in
    ⊎_elim
    (λ (t : nat_lt a 0x80 ≡ true). let n : char_len a ≡ 1 = grind (arith, nat_tests) in
    back 1 n (whole-one a (ltb-true a 0x80 t) bs (tail 1 n)))
    (λ (f : nat_lt a 0x80 ≡ false). ⊎_elim
    (λ (t : is_in_range 0xC2 0xDF a ≡ true).
    let r = in-range 0xC2 0xDF a t in
    let n : char_len a ≡ 2 = grind (arith, nat_tests) in back 2 n (whole-two a r.0 r.1 bs (tail 2 n)))
    (λ (g : is_in_range 0xC2 0xDF a ≡ false). ⊎_elim
    (λ (t : is_in_range 0xE0 0xEF a ≡ true).
    let r = in-range 0xE0 0xEF a t in
    let n : char_len a ≡ 3 = grind (arith, nat_tests) in back 3 n (whole-three a r.0 r.1 bs (tail 3 n)))
    (λ (k : is_in_range 0xE0 0xEF a ≡ false). ⊎_elim
    (λ (t : is_in_range 0xF0 0xF4 a ≡ true).
    let r = in-range 0xF0 0xF4 a t in
    let n : char_len a ≡ 4 = grind (arith, nat_tests) in back 4 n (whole-four a r.0 r.1 bs (tail 4 n)))
    (λ (t : is_in_range 0xF0 0xF4 a ≡ false). absurd (omega (arith, e, len-none a f g k t)))
    (cases_Bool (is_in_range 0xF0 0xF4 a)))
    (cases_Bool (is_in_range 0xE0 0xEF a)))
    (cases_Bool (is_in_range 0xC2 0xDF a)))
    (cases_Bool (nat_lt a 0x80))

-- ---- ground text

char-reported : (c : ℕ) → IsScalar c → IsReported (char_event c)
char-reported c h = cond_both (nat_lt c 0x20 || is_in_range 0x80 0x9F c) (Execute c) (Print c) IsReported (λ _. tt)
    (λ _. h)

malformed-reported : (n a : ℕ) → IsReported (malformed_event n a)
malformed-reported n a = cond_both ((n == 1) && is_in_range 0x80 0x9F a) (Execute a) (Print 0xFFFD) IsReported (λ _. tt)
    (λ _. refl)

prefix-reported : (cut : Bool) (a : ℕ) (bs : List ℕ) → Reported (prefix_event cut a bs)
prefix-reported cut a bs =
    let n = prefix_len a bs in
    let c = joined (first_bits a) (take (n - 1) bs) in
    let unfinished : List Event = cond cut (Print 0xFFFD ∷ []) [] in
    cond_both (n == char_len a) (char_event c ∷ [])
    (cond (nat_lt 0 (char_len a) && nat_lt (length bs) n) unfinished (malformed_event n a ∷ []))
    (λ (xs : List Event). Reported xs)
    (λ e. one (char_event c) (char-reported c (written-scalar a bs (eqb-true n (char_len a) e))))
    (λ _. if-reported (nat_lt 0 (char_len a) && nat_lt (length bs) n) unfinished (malformed_event n a ∷ [])
    (if-reported cut (Print 0xFFFD ∷ []) [] (one (Print 0xFFFD) refl) none)
    (one (malformed_event n a) (malformed-reported n a)))

text-reported : (skip : ℕ) (cut : Bool) (bs : List ℕ) → Reported (text_after skip cut bs)
text-reported skip cut [] = none
text-reported (suc skip) cut (b ∷ bs) = text-reported skip cut bs
text-reported zero cut (b ∷ bs) =
    joined-reported (prefix_event cut b bs) (text_after (prefix_len b bs - 1) cut bs) (prefix-reported cut b bs)
    (text-reported (prefix_len b bs - 1) cut bs)

-- ---- sequences and strings

executed-reported : (s : List ℕ) → Reported (executed s)
executed-reported s = All-map IsReported Execute (filter is_control s) (λ k d l. tt)

aborted-reported : (cut : Bool) (b : ℕ) (rest : List ℕ) → Reported (aborted cut b rest)
aborted-reported cut b rest = then-more (Execute b) (text cut rest) tt (text-reported 0 cut rest)

swallowed_end-reported : (cut : Bool) (s : List ℕ) → Reported (swallowed_end cut s)
swallowed_end-reported cut [] = none
swallowed_end-reported cut (b ∷ rest) = aborted-reported cut b rest

swallowed-reported : (cut : Bool) (s : List ℕ) → Reported (swallowed cut s)
swallowed-reported cut s = swallowed_end-reported cut (from is_abort s)

after-reported : (cut : Bool) (b : ℕ) (rest : List ℕ) → Reported (cond (is_abort b) (aborted cut b rest)
    (text cut rest))
after-reported cut b rest =
    if-reported (is_abort b) (aborted cut b rest) (text cut rest) (aborted-reported cut b rest)
    (text-reported 0 cut rest)

device_end-reported : (cut : Bool) (s : List ℕ) → Reported (device_end cut s)
device_end-reported cut [] = if-reported cut (Unhook ∷ []) [] (one Unhook tt) none
device_end-reported cut (b ∷ rest) = then-more Unhook (cond (is_abort b) (aborted cut b rest) (text cut rest)) tt
    (after-reported cut b rest)

device-reported : (cut : Bool) (s : List ℕ) → Reported (device cut s)
device-reported cut s =
    joined-reported (map Put (filter is_put (before ends_device s))) (device_end cut (from ends_device s))
    (All-map IsReported Put (filter is_put (before ends_device s)) (λ k d l. tt))
    (device_end-reported cut (from ends_device s))

-- the byte after a header aborts it, or completes it if it is well formed
header_end-reported : (cut : Bool) (h : List ℕ) (b : ℕ) (rest : List ℕ) (acts others : List Event) → Reported acts
    → Reported others
    → Reported (cond (is_abort b) (aborted cut b rest) (cond (is_well_formed h) acts others))
header_end-reported cut h b rest acts others p q =
    if-reported (is_abort b) (aborted cut b rest) (cond (is_well_formed h) acts others) (aborted-reported cut b rest)
    (if-reported (is_well_formed h) acts others p q)

hook_end-reported : (cut : Bool) (h s : List ℕ) → Reported (hook_end cut h s)
hook_end-reported cut h [] = none
hook_end-reported cut h (b ∷ rest) =
    let begins = Hook (kept_groups h) (kept_intermediates h) (overflows h) b in
    header_end-reported cut h b rest (begins ∷ device cut rest) (swallowed cut rest)
    (then-more begins (device cut rest) tt (device-reported cut rest)) (swallowed-reported cut rest)

csi_end-reported : (cut : Bool) (h s : List ℕ) → Reported (csi_end cut h s)
csi_end-reported cut h [] = none
csi_end-reported cut h (b ∷ rest) =
    let acts = Csi (kept_groups h) (kept_intermediates h) (overflows h) b in
    header_end-reported cut h b rest (acts ∷ text cut rest) (text cut rest)
    (then-more acts (text cut rest) tt (text-reported 0 cut rest)) (text-reported 0 cut rest)

csi-reported : (cut : Bool) (s : List ℕ) → Reported (csi cut s)
csi-reported cut s =
    joined-reported (executed (before ends_header s)) _ (executed-reported (before ends_header s))
    (csi_end-reported cut (filter is_header (before ends_header s)) (from ends_header s))

osc_end-reported : (n : ℕ) (cut : Bool) (s t : List ℕ) → Reported (osc_end n cut s t)
osc_end-reported n cut s [] = if-reported cut (Osc (osc_pieces n s) false ∷ []) [] (one (Osc (osc_pieces n s) false) tt)
    none
osc_end-reported n cut s (b ∷ rest) =
    then-more (Osc (osc_pieces n s) (b == 0x07)) (cond (is_abort b) (aborted cut b rest) (text cut rest)) tt
    (after-reported cut b rest)

osc-reported : (n : ℕ) (cut : Bool) (s : List ℕ) → Reported (osc n cut s)
osc-reported n cut s = osc_end-reported n cut (filter (λ b. not (is_control b)) (before ends_osc s)) (from ends_osc s)

hook-reported : (cut : Bool) (s : List ℕ) → Reported (hook cut s)
hook-reported cut s = hook_end-reported cut (filter is_header (before ends_header s)) (from ends_header s)

introduced-reported : (n : ℕ) (cut : Bool) (is : List ℕ) (b : ℕ) (rest : List ℕ) → Reported (introduced n cut is b rest)
introduced-reported n cut is b rest =
    let none_between = length is == 0 in
    let acts : List Event = Esc (take 2 is) (nat_lt 2 (length is)) b ∷ text cut rest in
    let is_string = none_between && ((b == 0x58) || ((b == 0x5E) || (b == 0x5F))) in
    let string : List Event = cond is_string (swallowed cut rest) acts in
    let hooked : List Event = cond (none_between && (b == 0x50)) (hook cut rest) string in
    let command : List Event = cond (none_between && (b == 0x5D)) (osc n cut rest) hooked in
    if-reported (none_between && (b == 0x5B)) (csi cut rest) command (csi-reported cut rest)
    (if-reported (none_between && (b == 0x5D)) (osc n cut rest) hooked (osc-reported n cut rest)
    (if-reported (none_between && (b == 0x50)) (hook cut rest) string (hook-reported cut rest)
    (if-reported is_string (swallowed cut rest) acts (swallowed-reported cut rest)
    (then-more (Esc (take 2 is) (nat_lt 2 (length is)) b) (text cut rest) tt (text-reported 0 cut rest)))))

escape_end-reported : (n : ℕ) (cut : Bool) (is s : List ℕ) → Reported (escape_end n cut is s)
escape_end-reported n cut is [] = none
escape_end-reported n cut is (b ∷ rest) =
    if-reported (is_abort b) (aborted cut b rest) (introduced n cut is b rest) (aborted-reported cut b rest)
    (introduced-reported n cut is b rest)

escape-reported : (n : ℕ) (cut : Bool) (s : List ℕ) → Reported (escape n cut s)
escape-reported n cut s =
    joined-reported (executed (before ends_escape s)) _ (executed-reported (before ends_escape s))
    (escape_end-reported n cut (filter is_intermediate (before ends_escape s)) (from ends_escape s))

segments-reported : (n : ℕ) (f : Bool → List ℕ → List Event) → ((cut : Bool) (s : List ℕ) → Reported (f cut s))
    → (s : List ℕ) (ts : List (List ℕ)) → Reported (segments n f s ts)
segments-reported n f h s [] = h false s
segments-reported n f h s (t ∷ ts) =
    joined-reported (f true s) (segments n (escape n) t ts) (h true s) (segments-reported n (escape n)
    (escape-reported n) t ts)

pub added-reported : (past bytes : List ℕ) → All IsReported (events_added past bytes)
added-reported past bytes =
    let bs = past ++ bytes in
    All-drop IsReported (length (events 1024 past)) (events 1024 bs)
    (segments-reported 1024 text (text-reported 0) (cut_at_esc bs).0 (cut_at_esc bs).1)
