-- Laws of the events of a byte stream.
use Rattle.std.proofs.Common.{◌≡◌, ℕ, zero, suc, ◌+◌, ◌-◌, ◌≤◌, Bool, true, false, ◌&&◌, ◌||◌, List, [], ◌∷◌, ◌++◌}
use Rattle.std.proofs.Common.{length, take, ◌==◌, refl, sym, ◌∙◌, ap, append_assoc, arith}
use Rattle.std.proofs.Common.{length-append, length-take, if◌then◌else◌}
use Rattle.std.proofs.lemmas.Bool.Decides.{nat_tests}
use Rattle.std.proofs.lemmas.List.Elements.{All-nil, All-cons, All-append}
use Rattle.std.proofs.lemmas.List.Splits.{length-slice_split}
use Rattle.std.specs.List.{All, concat, slice_split}
use Rattle.vte_core.specs.Event.{Event, Print, Execute, Hook, Put, Unhook, Osc, Csi, Esc}
use Rattle.vte_core.specs.Bytes.{is_esc, is_abort, is_control, is_put, ends_header, ends_escape, ends_osc, ends_device}
use Rattle.vte_core.specs.Text.{char_len, first_bits, joined, char_event, malformed_event}
use Rattle.vte_core.specs.Header.{is_well_formed}
use Rattle.vte_core.specs.Shapes.{events, first_bytes, osc_pieces}
use Rattle.vte_core.specs.Pending.{Pending, InText, InEscape, InCsi, InOsc, InHook, InDevice, InSwallowed, pending}
use Rattle.vte_core.specs.Pending.{reported, goes_on, begun, text_reported, closed, final_reported, byte_reported}
use Rattle.vte_core.specs.Pending.{events_of_byte, after_byte, events_from}
use Rattle.vte_core.specs.Laws.{Fits}
use Rattle.vte_core.proofs.Characters.{if_holds}
use Rattle.vte_core.proofs.Machine.{events-past, events-reported, after_bytes-append}

-- ESC

-- the events of what follows a byte begin at what is pending after it
cut-after : (n : ℕ) (s : List ℕ) (b : ℕ) (t : List ℕ)
    → events n (s ++ b ∷ t) ≡ events n (s ++ b ∷ []) ++ events_from n (after_byte (pending s) b) t
cut-after n s b t = ap (events n) (sym (append_assoc s (b ∷ []) t)) ∙ (events-past n (s ++ b ∷ []) t
    ∙ ap (λ (q : Pending). events n (s ++ b ∷ []) ++ events_from n q t) (after_bytes-append (InText []) s (b ∷ [])))

pub esc-cut : (n : ℕ) (s t : List ℕ) → events n (s ++ 0x1B ∷ t) ≡ events n (s ++ 0x1B ∷ []) ++ events n (0x1B ∷ t)
esc-cut n s t = cut-after n s 0x1B t
    ∙ ap (λ (es : List Event). events n (s ++ 0x1B ∷ []) ++ es) (sym (events-reported n (0x1B ∷ t)))

-- CAN and SUB

abort-not_goes_on : (a : ℕ) (t : List ℕ) (b : ℕ) → is_abort b ≡ true → goes_on a t b ≡ false
abort-not_goes_on a [] b h = grind (arith, nat_tests)
abort-not_goes_on a (c ∷ t) b h = grind (arith, nat_tests)

abort-one : (b : ℕ) → is_abort b ≡ true → char_len b ≡ 1
abort-one b h = grind (arith, nat_tests)

abort-not_esc : (b : ℕ) → is_abort b ≡ true → is_esc b ≡ false
abort-not_esc b h = grind (arith, nat_tests)

-- after CAN or SUB nothing is pending
pub after-abort : (q : Pending) (b : ℕ) → is_abort b ≡ true → after_byte q b ≡ InText []
after-abort (InText []) b h = rw (abort-not_esc b h, abort-one b h) refl
after-abort (InText (a ∷ t)) b h = rw (abort-not_esc b h, abort-not_goes_on a t b h, abort-one b h) refl
after-abort (InEscape is) b h = rw (abort-not_esc b h, h) refl
after-abort (InCsi x) b h = rw (abort-not_esc b h, h) refl
after-abort (InOsc x) b h = rw (abort-not_esc b h, h) refl
after-abort (InHook x) b h = rw (abort-not_esc b h, h) refl
after-abort InDevice b h = rw (abort-not_esc b h, h) refl
after-abort InSwallowed b h = rw (abort-not_esc b h, h) refl

pub abort-cut : (b : ℕ) → is_abort b ≡ true → (n : ℕ) (s t : List ℕ)
    → events n (s ++ b ∷ t) ≡ events n (s ++ b ∷ []) ++ events n t
abort-cut b h n s t = cut-after n s b t
    ∙ rw (after-abort (pending s) b h) (ap (λ (es : List Event). events n (s ++ b ∷ []) ++ es)
    (sym (events-reported n t)))

-- the pieces of an operating system command

length-first_bytes : (n : ℕ) (ps : List (List ℕ)) → length (first_bytes n ps) ≡ length ps
length-first_bytes n [] = refl
length-first_bytes n (p ∷ ps) = ap suc (length-first_bytes (n - length p) ps)

few-bytes : (k n : ℕ) (ps : List (List ℕ)) → length (concat (take k (first_bytes n ps))) ≤ n
few-bytes zero n ps = omega arith
few-bytes (suc k) n [] = omega arith
few-bytes (suc k) n (p ∷ ps) =
    let rest = few-bytes k (n - length p) ps in
    let len : length (take n p ++ concat (take k (first_bytes (n - length p) ps)))
    ≡ length (take n p) + length (concat (take k (first_bytes (n - length p) ps))) =
    length-append (take n p) (concat (take k (first_bytes (n - length p) ps))) in
    omega (arith, rest, len, length-take n p)

pub pieces-fit : (n : ℕ) (s : List ℕ) (bell : Bool) → Fits n (Osc (osc_pieces n s) bell)
pieces-fit n s bell =
    let parts = slice_split (λ b. b == 0x3B) s in
    let some : length (slice_split (λ b. b == 0x3B) s) ≡ _ = length-slice_split (λ b. b == 0x3B) s in
    let same : length (first_bytes n parts) ≡ length parts = length-first_bytes n parts in
    let kept : length (take 16 (first_bytes n parts)) ≡ _ = length-take 16 (first_bytes n parts) in
    (omega (arith, some, same, kept), omega (arith, kept), few-bytes 16 n parts)

-- what holds of each character and control holds of all events of a byte of text

pub all_one : (P : Event → Type 0) (e : Event) → P e → All P (e ∷ [])
all_one P e h = All-cons P e [] h (All-nil P)

char_holds : (P : Event → Type 0) → ((c : ℕ) → P (Print c)) → ((b : ℕ) → P (Execute b)) → (c : ℕ)
    → All P (char_event c ∷ [])
char_holds P print execute c = all_one P (char_event c) (if_holds P _ _ _ (execute c) (print c))

begun_holds : (P : Event → Type 0) → ((c : ℕ) → P (Print c)) → ((b : ℕ) → P (Execute b)) → (b : ℕ)
    → All P (begun b)
begun_holds P print execute b =
    if_holds (All P) (char_len b == 1) _ _ (char_holds P print execute (first_bits b))
    (if_holds (All P) (char_len b == 0) _ _
    (all_one P (malformed_event 1 b) (if_holds P _ _ _ (execute b) (print 0xFFFD))) (All-nil P))

pub text_holds : (P : Event → Type 0) → ((c : ℕ) → P (Print c)) → ((b : ℕ) → P (Execute b)) → (u : List ℕ) (b : ℕ)
    → All P (text_reported u b)
text_holds P print execute [] b = begun_holds P print execute b
text_holds P print execute (a ∷ t) b =
    if_holds (All P) (goes_on a t b) _ _
    (if_holds (All P) (length t + 2 == char_len a) _ _
    (char_holds P print execute (joined (first_bits a) (t ++ b ∷ []))) (All-nil P))
    (All-cons P (Print 0xFFFD) (begun b) (print 0xFFFD) (begun_holds P print execute b))

fits_if : (n : ℕ) (v : Bool) (es ds : List Event) → All (Fits n) es → All (Fits n) ds
    → All (Fits n) (if v then es else ds)
fits_if n = if_holds (All (Fits n))

reported-fits : (n : ℕ) (p : ℕ → Bool) (f : ℕ → Event) (b : ℕ) → Fits n (f b) → All (Fits n) (reported p f b)
reported-fits n p f b h = fits_if n (p b) _ _ (all_one (Fits n) (f b) h) (All-nil (Fits n))

closed-fits : (n : ℕ) (q : Pending) → All (Fits n) (closed n q)
closed-fits n (InText []) = All-nil (Fits n)
closed-fits n (InText (a ∷ t)) = all_one (Fits n) (Print 0xFFFD) tt
closed-fits n (InEscape is) = All-nil (Fits n)
closed-fits n (InCsi x) = All-nil (Fits n)
closed-fits n (InOsc s) = all_one (Fits n) (Osc (osc_pieces n s) false) (pieces-fit n s false)
closed-fits n (InHook x) = All-nil (Fits n)
closed-fits n InDevice = all_one (Fits n) Unhook tt
closed-fits n InSwallowed = All-nil (Fits n)

final-fits : (n : ℕ) (is : List ℕ) (b : ℕ) → All (Fits n) (final_reported is b)
final-fits n is b =
    let none = All-nil (Fits n) in
    fits_if n (length is == 0 && b == 0x5B) _ _ none (fits_if n (length is == 0 && b == 0x5D) _ _ none
    (fits_if n (length is == 0 && b == 0x50) _ _ none
    (fits_if n (length is == 0 && (b == 0x58 || (b == 0x5E || b == 0x5F))) _ _ none (all_one (Fits n) (Esc _ _ b) tt))))

byte-fits : (n : ℕ) (q : Pending) (b : ℕ) → All (Fits n) (byte_reported n q b)
byte-fits n (InText u) b = text_holds (Fits n) (λ c. tt) (λ c. tt) u b
byte-fits n (InEscape is) b =
    fits_if n (ends_escape b) _ _ (fits_if n (is_abort b) _ _ (all_one (Fits n) (Execute b) tt) (final-fits n is b))
    (reported-fits n is_control Execute b tt)
byte-fits n (InCsi x) b =
    fits_if n (ends_header b) _ _ (fits_if n (is_abort b) _ _ (all_one (Fits n) (Execute b) tt)
    (fits_if n (is_well_formed x) _ _ (all_one (Fits n) (Csi _ _ _ b) tt) (All-nil (Fits n))))
    (reported-fits n is_control Execute b tt)
byte-fits n (InOsc s) b =
    fits_if n (ends_osc b) _ _ (All-cons (Fits n) (Osc (osc_pieces n s) (b == 0x07)) (reported is_abort Execute b)
    (pieces-fit n s (b == 0x07)) (reported-fits n is_abort Execute b tt)) (All-nil (Fits n))
byte-fits n (InHook x) b =
    fits_if n (ends_header b) _ _ (fits_if n (is_abort b) _ _ (all_one (Fits n) (Execute b) tt)
    (fits_if n (is_well_formed x) _ _ (all_one (Fits n) (Hook _ _ _ b) tt) (All-nil (Fits n)))) (All-nil (Fits n))
byte-fits n InDevice b =
    fits_if n (ends_device b) _ _
    (All-cons (Fits n) Unhook (reported is_abort Execute b) tt (reported-fits n is_abort Execute b tt))
    (reported-fits n is_put Put b tt)
byte-fits n InSwallowed b = reported-fits n is_abort Execute b tt

of_byte-fits : (n : ℕ) (q : Pending) (b : ℕ) → All (Fits n) (events_of_byte n q b)
of_byte-fits n q b = fits_if n (is_esc b) _ _ (closed-fits n q) (byte-fits n q b)

pub from-fits : (n : ℕ) (q : Pending) (bs : List ℕ) → All (Fits n) (events_from n q bs)
from-fits n q [] = All-nil (Fits n)
from-fits n q (b ∷ bs) = All-append (Fits n) (events_of_byte n q b) (events_from n (after_byte q b) bs)
    (of_byte-fits n q b) (from-fits n (after_byte q b) bs)
