-- What is given for bytes.
use Rattle.std.proofs.Common.{◌≡◌, ℕ, List, [], ◌∷◌, ◌++◌, refl, sym, ◌∙◌, ap, append_assoc}
use Rattle.vte_core.specs.Event.{Event}
use Rattle.vte_core.specs.Pending.{Pending, InText, IsSound, events_of_byte, after_byte, events_from, after_bytes}
use Rattle.vte_core.specs.Pending.{pending}
use Rattle.vte_core.proofs.Machine.{IsSound-byte, events-reported, events_from-append, after_bytes-append}
use Rattle.charset_filter.specs.Behind.{drawn_events}
use Rattle.charset_filter.specs.Sets.{after_events, first_sets}
use Rattle.charset_filter.specs.Given.{given_for, given_from, given_after, filtered, sets_of}
use Rattle.charset_filter.specs.Laws.{DrawsEvents, GivesInOrder}
use Rattle.charset_filter.specs.declared.sets.CharacterSets.{CharacterSets}
use Rattle.charset_filter.proofs.EventLemmas.{after_events-append, drawn_events-append}
use Rattle.charset_filter.proofs.ByteLemmas.{represents, sets-alike}

pub sound-after : (q : Pending) (bs : List ℕ) → IsSound q → IsSound (after_bytes q bs)
sound-after q [] k = k
sound-after q (b ∷ bs) k = sound-after (after_byte q b) bs (IsSound-byte q b k)

pub drawn-from : (n : ℕ) (q : Pending) (s : CharacterSets) (bs : List ℕ) → IsSound q
    → events_from n q (given_from q s bs) ≡ drawn_events s (events_from n q bs)
drawn-from n q s [] k = refl
drawn-from n q s (b ∷ bs) k =
    let p = represents q s b k n in
    let t = after_events s (events_of_byte 0 q b) in
    let r = after_byte q b in
    let es = events_of_byte n q b in
    events_from-append n q (given_for q s b) (given_from r t bs)
    ∙ (ap (λ (xs : List Event). xs ++ events_from n (after_bytes q (given_for q s b)) (given_from r t bs)) p.0
    ∙ (ap (λ (x : Pending). drawn_events s es ++ events_from n x (given_from r t bs)) p.1
    ∙ (ap (λ (xs : List Event). drawn_events s es ++ xs) (drawn-from n r t bs (IsSound-byte q b k))
    ∙ (ap (λ (x : CharacterSets). drawn_events s es ++ drawn_events x (events_from n r bs)) (sets-alike 0 n q s b)
    ∙ sym (drawn_events-append s es (events_from n r bs))))))

pub draws-events : DrawsEvents
draws-events n bs = events-reported n (filtered bs)
    ∙ (drawn-from n (InText []) first_sets bs tt ∙ ap (drawn_events first_sets) (sym (events-reported n bs)))

pub given_from-append : (q : Pending) (s : CharacterSets) (xs ys : List ℕ)
    → given_from q s (xs ++ ys)
    ≡ given_from q s xs ++ given_from (after_bytes q xs) (after_events s (events_from 0 q xs)) ys
given_from-append q s [] ys = refl
given_from-append q s (x ∷ xs) ys =
    let t = after_events s (events_of_byte 0 q x) in
    let r = after_byte q x in
    ap (λ (bs : List ℕ). given_for q s x ++ bs) (given_from-append r t xs ys)
    ∙ (sym (append_assoc (given_for q s x) (given_from r t xs) _)
    ∙ ap (λ (v : CharacterSets). (given_for q s x ++ given_from r t xs) ++ given_from (after_bytes r xs) v ys)
    (sym (after_events-append s (events_of_byte 0 q x) (events_from 0 r xs))))

-- the sets after a past and the bytes that follow it
pub sets-past : (past bs : List ℕ)
    → sets_of (past ++ bs) ≡ after_events (sets_of past) (events_from 0 (pending past) bs)
sets-past past bs =
    ap (after_events first_sets) (events-reported 0 (past ++ bs) ∙ events_from-append 0 (InText []) past bs)
    ∙ (after_events-append first_sets (events_from 0 (InText []) past) (events_from 0 (pending past) bs)
    ∙ ap (λ (es : List Event). after_events (after_events first_sets es) (events_from 0 (pending past) bs))
    (sym (events-reported 0 past)))

pub given-past : (past xs ys : List ℕ)
    → given_after past (xs ++ ys) ≡ given_after past xs ++ given_after (past ++ xs) ys
given-past past xs ys = given_from-append (pending past) (sets_of past) xs ys
    ∙ (ap (λ (q : Pending). given_after past xs
    ++ given_from q (after_events (sets_of past) (events_from 0 (pending past) xs)) ys)
    (sym (after_bytes-append (InText []) past xs))
    ∙ ap (λ (v : CharacterSets). given_after past xs ++ given_from (pending (past ++ xs)) v ys)
    (sym (sets-past past xs)))

pub gives-in-order : GivesInOrder
gives-in-order past bs = given-past [] past bs
