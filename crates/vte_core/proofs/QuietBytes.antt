-- Bytes that print nothing, and the events of ESC.
use Rattle.std.proofs.Common.{◌≡◌, ℕ, Bool, true, false, not, ◌&&◌, ◌||◌, ◌==◌, List, [], ◌∷◌, length}
use Rattle.std.proofs.Common.{take, nat_lt, if◌then◌else◌, refl, sym, ◌∙◌, subst, append-nil}
use Rattle.std.specs.List.{All}
use Rattle.std.proofs.Math.Bool.{and-true}
use Rattle.std.proofs.lemmas.Bool.{ne_eqb}
use Rattle.std.proofs.lemmas.List.Elements.{All-nil, All-cons}
use Rattle.vte_core.specs.Event.{Event, Print, Execute, Hook, Put, Unhook, Osc, Csi, Esc}
use Rattle.vte_core.specs.Bytes.{is_esc, is_abort, is_control, is_put, ends_header, ends_escape, ends_osc, ends_device}
use Rattle.vte_core.specs.Header.{is_well_formed, kept_groups, kept_intermediates, overflows}
use Rattle.vte_core.specs.Shapes.{osc_pieces}
use Rattle.vte_core.specs.Pending.{Pending, InText, InEscape, InCsi, InOsc, InHook, InDevice, InSwallowed, pending}
use Rattle.vte_core.specs.Pending.{reported, closed, final_reported, byte_reported, events_of_byte}
use Rattle.vte_core.specs.Stopping.{is_text}
use Rattle.vte_core.specs.Laws.{PrintsNothing, PrintsTextAlone, IsCutOff, EscCutsOff}
use Rattle.vte_core.proofs.Characters.{if_holds}
use Rattle.vte_core.proofs.LawLemmas.{all_one}
use Rattle.vte_core.proofs.AddedLemmas.{added-from}
use Rattle.vte_core.proofs.GroundTextLemmas.{ends_in_text-last}

abbrev AllQuiet : List Event → Type 0
AllQuiet es = All PrintsNothing es

none_quiet : AllQuiet []
none_quiet = All-nil PrintsNothing

one_quiet : (e : Event) → PrintsNothing e → AllQuiet (e ∷ [])
one_quiet e h = all_one PrintsNothing e h

either_quiet : (v : Bool) (es ds : List Event) → AllQuiet es → AllQuiet ds → AllQuiet (if v then es else ds)
either_quiet v es ds h k = if_holds AllQuiet v es ds h k

reported-quiet : (p : ℕ → Bool) (f : ℕ → Event) (b : ℕ) → PrintsNothing (f b) → AllQuiet (reported p f b)
reported-quiet p f b h = either_quiet (p b) _ _ (one_quiet (f b) h) none_quiet

final-quiet : (is : List ℕ) (b : ℕ) → AllQuiet (final_reported is b)
final-quiet is b =
    either_quiet (length is == 0 && b == 0x5B) _ _ none_quiet (either_quiet (length is == 0 && b == 0x5D) _ _ none_quiet
    (either_quiet (length is == 0 && b == 0x50) _ _ none_quiet
    (either_quiet (length is == 0 && (b == 0x58 || (b == 0x5E || b == 0x5F))) _ _ none_quiet
    (one_quiet (Esc (take 2 is) (nat_lt 2 (length is)) b) tt))))

-- a byte of a sequence
byte-quiet : (n : ℕ) (q : Pending) (b : ℕ) → is_text q ≡ false → AllQuiet (byte_reported n q b)
byte-quiet n (InText u) b h = absurd (let no : true ≡ false = h in cc)
byte-quiet n (InEscape is) b h =
    either_quiet (ends_escape b) _ _ (either_quiet (is_abort b) _ _ (one_quiet (Execute b) tt) (final-quiet is b))
    (reported-quiet is_control Execute b tt)
byte-quiet n (InCsi x) b h =
    either_quiet (ends_header b) _ _ (either_quiet (is_abort b) _ _ (one_quiet (Execute b) tt)
    (either_quiet (is_well_formed x) _ _ (one_quiet (Csi (kept_groups x) (kept_intermediates x) (overflows x) b) tt)
    none_quiet)) (reported-quiet is_control Execute b tt)
byte-quiet n (InOsc s) b h =
    either_quiet (ends_osc b) _ _ (All-cons PrintsNothing (Osc (osc_pieces n s) (b == 0x07))
    (reported is_abort Execute b)
    tt (reported-quiet is_abort Execute b tt)) none_quiet
byte-quiet n (InHook x) b h =
    either_quiet (ends_header b) _ _ (either_quiet (is_abort b) _ _ (one_quiet (Execute b) tt)
    (either_quiet (is_well_formed x) _ _ (one_quiet (Hook (kept_groups x) (kept_intermediates x) (overflows x) b) tt)
    none_quiet)) none_quiet
byte-quiet n InDevice b h =
    either_quiet (ends_device b) _ _ (All-cons PrintsNothing Unhook (reported is_abort Execute b) tt
    (reported-quiet is_abort Execute b tt)) (reported-quiet is_put Put b tt)
byte-quiet n InSwallowed b h = reported-quiet is_abort Execute b tt

pub others-print_nothing : PrintsTextAlone
others-print_nothing n past b other outside =
    let q = pending past in
    let other_byte : is_esc b ≡ false = ne_eqb b 0x1B other in
    let at : (is_text q && not (is_esc b)) ≡ false = sym (ends_in_text-last past b) ∙ outside in
    let still : is_text q ≡ false = sym (and-true (is_text q)) ∙ rw other_byte at at in
    let reported : AllQuiet (events_of_byte n q b) = rw other_byte (byte-quiet n q b still) in
    subst AllQuiet (sym (added-from n past (b ∷ []) ∙ append-nil (events_of_byte n q b))) reported

closed-cut_off : (n : ℕ) (q : Pending) → All IsCutOff (closed n q)
closed-cut_off n (InText []) = All-nil IsCutOff
closed-cut_off n (InText (a ∷ t)) = all_one IsCutOff (Print 0xFFFD) refl
closed-cut_off n (InEscape is) = All-nil IsCutOff
closed-cut_off n (InCsi x) = All-nil IsCutOff
closed-cut_off n (InOsc s) = all_one IsCutOff (Osc (osc_pieces n s) false) refl
closed-cut_off n (InHook x) = All-nil IsCutOff
closed-cut_off n InDevice = all_one IsCutOff Unhook tt
closed-cut_off n InSwallowed = All-nil IsCutOff

pub esc-cuts_off : EscCutsOff
esc-cuts_off n past = subst (All IsCutOff)
    (sym (added-from n past (0x1B ∷ []) ∙ append-nil (closed n (pending past)))) (closed-cut_off n (pending past))
