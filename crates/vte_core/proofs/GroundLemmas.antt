-- Where a parser is at ground.
use Rattle.std.proofs.Common.{◌≡◌, ◌≢◌, ℕ, Bool, true, false, ◌||◌, List, [], ◌∷◌, ◌++◌, map, take, length, nat_lt}
use Rattle.std.proofs.Common.{◌==◌, refl, sym, ◌∙◌, ap, arith, append_assoc, append-nil}
use Rattle.std.proofs.lemmas.Bool.{or_parts}
use Rattle.std.proofs.lemmas.Bool.Decides.{nat_tests}
use Rattle.std.specs.Int.{is_in_range}
use Rattle.std.specs.List.{AllByRecursion}
use Rattle.std.specs.Str.{chars}
use Rattle.vte_core.specs.Event.{Event, Esc}
use Rattle.vte_core.specs.Bytes.{each, is_esc, is_abort, is_control, is_intermediate, is_header, ends_header}
use Rattle.vte_core.specs.Bytes.{ends_escape}
use Rattle.vte_core.specs.Text.{char_event}
use Rattle.vte_core.specs.Shapes.{events}
use Rattle.vte_core.specs.Added.{added}
use Rattle.vte_core.specs.Pending.{Pending, InText, InEscape, InCsi, pending, final_reported}
use Rattle.vte_core.specs.Pending.{final_rest, events_of_byte, after_byte, after_bytes, events_from}
use Rattle.vte_core.specs.Runs.{has_no_esc}
use Rattle.vte_core.specs.Ground.{AtGround, is_introducer, IsEscape, IsSequence, IsText, header_event}
use Rattle.vte_core.proofs.Machine.{events-past, events-reported, events_from-append, after_bytes-append}
use Rattle.vte_core.proofs.Quiet.{Keeps, all_kept, header-csi}
use Rattle.vte_core.proofs.LawLemmas.{esc-cut, abort-cut}
use Rattle.vte_core.proofs.AddedLemmas.{added-is}
use Rattle.vte_core.proofs.Runs.{run-text, run-events}

pub ground-nothing : (n : ℕ) → AtGround n []
ground-nothing n = λ bytes. refl

pub ground-added : (n : ℕ) (past bytes : List ℕ) → AtGround n past → added n past bytes ≡ events n bytes
ground-added n past bytes g = sym (added-is n past bytes (events n bytes) (g bytes))

pub ground-joins : (n : ℕ) (past bytes : List ℕ) → AtGround n past → AtGround n bytes → AtGround n (past ++ bytes)
ground-joins n past bytes g h = λ more.
    ap (events n) (append_assoc past bytes more) ∙ (g (bytes ++ more)
    ∙ (ap (λ (es : List Event). events n past ++ es) (h more)
    ∙ (sym (append_assoc (events n past) (events n bytes) (events n more))
    ∙ ap (λ (es : List Event). es ++ events n more) (sym (g bytes)))))

pub ground-esc : (n : ℕ) (past bytes : List ℕ) → AtGround n (0x1B ∷ bytes) → AtGround n (past ++ 0x1B ∷ bytes)
ground-esc n past bytes g = λ more.
    ap (events n) (append_assoc past (0x1B ∷ bytes) more)
    ∙ (esc-cut n past (bytes ++ more) ∙ (ap (λ (es : List Event). events n (past ++ 0x1B ∷ []) ++ es) (g more)
    ∙ (sym (append_assoc (events n (past ++ 0x1B ∷ [])) (events n (0x1B ∷ bytes)) (events n more))
    ∙ ap (λ (es : List Event). es ++ events n more) (sym (esc-cut n past bytes)))))

pub ground-abort : (b : ℕ) → is_abort b ≡ true → (n : ℕ) (past : List ℕ) → AtGround n (past ++ b ∷ [])
ground-abort b h n past = λ more. ap (events n) (append_assoc past (b ∷ []) more) ∙ abort-cut b h n past more

pub ground-pending : (n : ℕ) (past : List ℕ) → pending past ≡ InText [] → AtGround n past
ground-pending n past e = λ bytes.
    events-past n past bytes ∙ ap (λ (es : List Event). events n past
    ++ es) (ap (λ (q : Pending). events_from n q bytes) e ∙ sym (events-reported n bytes))

-- escapes

intermediate-kept : (n b : ℕ) → is_intermediate b ≡ true → Keeps n InEscape b
intermediate-kept n b h q =
    let e : is_esc b ≡ false = grind (arith, nat_tests) in
    let f : ends_escape b ≡ false = grind (arith, nat_tests) in
    let g : is_control b ≡ false = grind (arith, nat_tests) in
    (rw (g, e, f) refl, rw (e, f, h) refl)

each-all : (p : ℕ → Bool) (xs : List ℕ) → AllByRecursion (λ b. p b ≡ true) xs → each p xs ≡ true
each-all p [] h = refl
each-all p (x ∷ xs) h = rw h.0 (each-all p xs h.1)

-- a byte after those that are kept
kept-then : (n : ℕ) (f : List ℕ → Pending) (p : ℕ → Bool) (xs : List ℕ) (b : ℕ)
    → ((c : ℕ) → p c ≡ true → Keeps n f c) → AllByRecursion (λ c. p c ≡ true) xs
    → (events_from n (f []) (xs ++ b ∷ []) ≡ events_of_byte n (f xs) b)
    × (after_bytes (f []) (xs ++ b ∷ []) ≡ after_byte (f xs) b)
kept-then n f p xs b keeps h =
    let m = all_kept n f p [] xs keeps (each-all p xs h) in
    rw (events_from-append n (f []) xs (b ∷ []), after_bytes-append (f []) xs (b ∷ []), m.0, m.1)
    (append-nil (events_of_byte n (f xs) b), refl)

abbrev esc_event : List ℕ → ℕ → List Event
esc_event q b = Esc (take 2 q) (nat_lt 2 (length q)) b ∷ []

final-unmarked : (b : ℕ) → is_introducer b ≡ false → (final_reported [] b ≡ esc_event [] b)
    × (final_rest [] b ≡ InText [])
final-unmarked b h =
    let csi = or_parts (b == 0x5B) (b == 0x5D || (b == 0x50 || (b == 0x58 || (b == 0x5E || b == 0x5F)))) h in
    let osc = or_parts (b == 0x5D) (b == 0x50 || (b == 0x58 || (b == 0x5E || b == 0x5F))) csi.1 in
    let dcs = or_parts (b == 0x50) (b == 0x58 || (b == 0x5E || b == 0x5F)) osc.1 in
    rw (csi.0, osc.0, dcs.0, dcs.1) (refl, refl)

final-escape : (q : List ℕ) (b : ℕ) → (q ≡ [] → is_introducer b ≡ false)
    → (final_reported q b ≡ esc_event q b) × (final_rest q b ≡ InText [])
final-escape [] b h = final-unmarked b (h refl)
final-escape (i ∷ q) b h = let e : (length (i ∷ q) == 0) ≡ false = grind (arith, nat_tests) in rw e (refl, refl)

final-ends : (n : ℕ) (q : List ℕ) (b : ℕ) → is_in_range 0x30 0x7E b ≡ true → (q ≡ [] → is_introducer b ≡ false)
    → (events_of_byte n (InEscape q) b ≡ esc_event q b) × (after_byte (InEscape q) b ≡ InText [])
final-ends n q b h k =
    let e : is_esc b ≡ false = grind (arith, nat_tests) in
    let f : ends_escape b ≡ true = grind (arith, nat_tests) in
    let g : is_abort b ≡ false = grind (arith, nat_tests) in
    rw (e, f, g) (final-escape q b k)

pub ground-escape : (n : ℕ) (between : List ℕ) (b : ℕ) → IsEscape between b → AtGround n (0x1B ∷ (between ++ b ∷ []))
ground-escape n between b h = ground-pending n (0x1B ∷ (between ++ b ∷ []))
    ((kept-then n InEscape is_intermediate between b (intermediate-kept n) h.0).1 ∙ (final-ends n between b h.1 h.2).1)

-- control sequences

header-ends : (n : ℕ) (q : List ℕ) (b : ℕ) → is_in_range 0x40 0x7E b ≡ true
    → (events_of_byte n (InCsi q) b ≡ header_event q b) × (after_byte (InCsi q) b ≡ InText [])
header-ends n q b h =
    let e : is_esc b ≡ false = grind (arith, nat_tests) in
    let f : ends_header b ≡ true = grind (arith, nat_tests) in
    let g : is_abort b ≡ false = grind (arith, nat_tests) in
    rw (e, f, g) (refl, refl)

pub ground-sequence : (n : ℕ) (header : List ℕ) (b : ℕ) → IsSequence header b
    → AtGround n (0x1B ∷ 0x5B ∷ (header ++ b ∷ []))
ground-sequence n header b h = ground-pending n (0x1B ∷ 0x5B ∷ (header ++ b ∷ []))
    ((kept-then n InCsi is_header header b (header-csi n) h.0).1 ∙ (header-ends n header b h.1).1)

-- text

without_esc : (bytes : List ℕ) → AllByRecursion (λ b. b ≢ 0x1B) bytes → has_no_esc bytes ≡ true
without_esc [] h = refl
without_esc (b ∷ bytes) h =
    let ne : b ≢ 0x1B = h.0 in
    let e : is_esc b ≡ false = grind (arith, nat_tests) in
    rw e (without_esc bytes h.1)

pub ground-text : (n : ℕ) (text : List ℕ) → IsText text → AtGround n text
ground-text n text h = ground-pending n text
    ((run-events n [] text (without_esc text h.1)).1 ∙ ap InText (run-text text h.0).1)

-- the events of whole sequences and texts

pub escape-tells : (n : ℕ) (between : List ℕ) (b : ℕ) → IsEscape between b
    → events n (0x1B ∷ (between ++ b ∷ [])) ≡ esc_event between b
escape-tells n between b h = events-reported n (0x1B ∷ (between ++ b ∷ []))
    ∙ ((kept-then n InEscape is_intermediate between b (intermediate-kept n) h.0).0
    ∙ (final-ends n between b h.1 h.2).0)

pub sequence-tells : (n : ℕ) (header : List ℕ) (b : ℕ) → IsSequence header b
    → events n (0x1B ∷ 0x5B ∷ (header ++ b ∷ [])) ≡ header_event header b
sequence-tells n header b h = events-reported n (0x1B ∷ 0x5B ∷ (header ++ b ∷ []))
    ∙ ((kept-then n InCsi is_header header b (header-csi n) h.0).0 ∙ (header-ends n header b h.1).0)

pub text-tells : (n : ℕ) (text : List ℕ) → IsText text → events n text ≡ map char_event (chars text)
text-tells n text h = events-reported n text ∙ ((run-events n [] text (without_esc text h.1)).0 ∙ (run-text text h.0).0)
