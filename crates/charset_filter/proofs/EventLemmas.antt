-- Events and sets.
use Rattle.std.proofs.Common.{◌≡◌, ℕ, Bool, true, false, not, ◌&&◌, List, [], ◌∷◌, ◌++◌}
use Rattle.std.proofs.Common.{Option, refl, sym, ◌∙◌, ap, append_assoc}
use Rattle.vte_core.specs.Event.{Event, Print, Execute, Hook, Put, Unhook, Osc, Csi, Esc}
use Rattle.vte_core.specs.Shapes.{events}
use Rattle.charset_filter.specs.Sets.{after_event, after_events, shown}
use Rattle.charset_filter.specs.Behind.{all_behind, behind, drawn_events}
use Rattle.charset_filter.specs.Given.{drawn_by, last_behind, last_drawn}
use Rattle.charset_filter.specs.declared.sets.CharacterSets.{CharacterSets}

pub after_events-append : (s : CharacterSets) (xs ys : List Event)
    → after_events s (xs ++ ys) ≡ after_events (after_events s xs) ys
after_events-append s [] ys = refl
after_events-append s (x ∷ xs) ys = after_events-append (after_event s x) xs ys

pub drawn_events-append : (s : CharacterSets) (xs ys : List Event)
    → drawn_events s (xs ++ ys) ≡ drawn_events s xs ++ drawn_events (after_events s xs) ys
drawn_events-append s [] ys = refl
drawn_events-append s (x ∷ xs) ys =
    ap (λ (es : List Event). shown s x ∷ (events 0 (behind s x) ++ es)) (drawn_events-append (after_event s x) xs ys)
    ∙ ap (λ (es : List Event). shown s x ∷ es) (sym (append_assoc (events 0 (behind s x)) _ _))

-- nothing is printed
abbrev pub is_print : Event → Bool
is_print (Print c) = true
is_print e = false

abbrev pub prints_nothing : List Event → Bool
prints_nothing [] = true
prints_nothing (e ∷ es) = not (is_print e) && prints_nothing es

silent-shown : (s : CharacterSets) (e : Event) → is_print e ≡ false → shown s e ≡ e
silent-shown s (Print c) h = cc
silent-shown s (Execute b) h = refl
silent-shown s (Hook ps is many f) h = refl
silent-shown s (Put b) h = refl
silent-shown s Unhook h = refl
silent-shown s (Osc ps bell) h = refl
silent-shown s (Csi ps is many f) h = refl
silent-shown s (Esc is many f) h = refl

silent-drawn : (s : CharacterSets) (d : Option ℕ) (e : Event) → is_print e ≡ false → drawn_by s d e ≡ d
silent-drawn s d (Print c) h = absurd (let no : true ≡ false = h in cc)
silent-drawn s d (Execute b) h = refl
silent-drawn s d (Hook ps is many f) h = refl
silent-drawn s d (Put b) h = refl
silent-drawn s d Unhook h = refl
silent-drawn s d (Osc ps bell) h = refl
silent-drawn s d (Csi ps is many f) h = refl
silent-drawn s d (Esc is many f) h = refl

both : (x y : Bool) → (not x && y) ≡ true → (x ≡ false) × (y ≡ true)
both true y h = absurd (let no : false ≡ true = h in cc)
both false y h = (refl, h)

-- if this is false, an event has no bytes behind it, whatever the sets are
abbrev pub is_marked : Event → Bool
is_marked (Csi ps is many f) = true
is_marked (Esc is many f) = true
is_marked e = false

abbrev pub unmarked : List Event → Bool
unmarked [] = true
unmarked (e ∷ es) = not (is_marked e) && unmarked es

pub unmarked-behind : (s : CharacterSets) (e : Event) → is_marked e ≡ false → behind s e ≡ []
unmarked-behind s (Print c) h = refl
unmarked-behind s (Execute b) h = refl
unmarked-behind s (Hook ps is many f) h = refl
unmarked-behind s (Put b) h = refl
unmarked-behind s Unhook h = refl
unmarked-behind s (Osc ps bell) h = refl
unmarked-behind s (Csi ps is many f) h = absurd (let no : true ≡ false = h in cc)
unmarked-behind s (Esc is many f) h = absurd (let no : true ≡ false = h in cc)

pub unmarked-cons : (e : Event) (es : List Event) → unmarked (e ∷ es) ≡ true
    → ((s : CharacterSets) → behind s e ≡ []) × (unmarked es ≡ true)
unmarked-cons e es h =
    let p = both (is_marked e) (unmarked es) h in
    (λ s. unmarked-behind s e p.0, p.1)

pub silent-events : (s : CharacterSets) (es : List Event) → prints_nothing es ≡ true → unmarked es ≡ true
    → drawn_events s es ≡ es
silent-events s [] h k = refl
silent-events s (e ∷ es) h k =
    let p = both (is_print e) (prints_nothing es) h in
    let q = both (is_marked e) (unmarked es) k in
    ap (λ (x : Event). x ∷ (events 0 (behind s e) ++ drawn_events (after_event s e) es)) (silent-shown s e p.0)
    ∙ (ap (λ (bs : List ℕ). e ∷ (events 0 bs ++ drawn_events (after_event s e) es)) (unmarked-behind s e q.0)
    ∙ ap (λ (xs : List Event). e ∷ xs) (silent-events (after_event s e) es p.1 q.1))

pub unmarked-last : (s : CharacterSets) (es : List Event) → unmarked es ≡ true → last_behind s [] es ≡ []
unmarked-last s [] k = refl
unmarked-last s (e ∷ es) k =
    let q = both (is_marked e) (unmarked es) k in
    ap (λ (bs : List ℕ). last_behind (after_event s e) bs es) (unmarked-behind s e q.0)
    ∙ unmarked-last (after_event s e) es q.1

pub all_behind-append : (s : CharacterSets) (xs ys : List Event)
    → all_behind s (xs ++ ys) ≡ all_behind s xs ++ all_behind (after_events s xs) ys
all_behind-append s [] ys = refl
all_behind-append s (x ∷ xs) ys =
    ap (λ (bs : List ℕ). behind s x ++ bs) (all_behind-append (after_event s x) xs ys)
    ∙ sym (append_assoc (behind s x) _ _)

pub silent-last : (s : CharacterSets) (d : Option ℕ) (es : List Event) → prints_nothing es ≡ true
    → last_drawn s d es ≡ d
silent-last s d [] h = refl
silent-last s d (e ∷ es) h =
    let p = both (is_print e) (prints_nothing es) h in
    ap (λ (x : Option ℕ). last_drawn (after_event s e) x es) (silent-drawn s d e p.0)
    ∙ silent-last (after_event s e) d es p.1
