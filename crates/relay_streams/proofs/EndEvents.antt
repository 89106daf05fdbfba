-- The event with which an update ends.
use Rattle.std.proofs.Common.{◌≡◌, ◌∙◌, ℕ, zero, suc, ◌+◌, ◌<◌, ◌==◌, ◌&&◌, ◌||◌, Bool, true, false, List, [], ◌∷◌, ◌++◌, take}
use Rattle.std.proofs.Common.{refl, sym, ap, subst, arith, append_assoc, append-nil, if◌then◌else◌, length, nat_lt}
use Rattle.std.proofs.Math.Bool.{or-false}
use Rattle.std.proofs.lemmas.List.Folds.{list_any_none}
use Rattle.std.specs.List.{list_any}
use Rattle.vte_core.specs.Event.{Event, Execute, Put, Esc}
use Rattle.vte_core.specs.Added.{added}
use Rattle.vte_core.specs.Bytes.{is_esc, is_abort, is_control, is_put, ends_header, ends_escape, ends_osc, ends_device}
use Rattle.vte_core.specs.Header.{is_well_formed}
use Rattle.vte_core.specs.Pending.{Pending, InText, InEscape, InCsi, InOsc, InHook, InDevice, InSwallowed, pending}
use Rattle.vte_core.specs.Pending.{closed, reported, final_reported, text_reported, byte_reported, events_of_byte}
use Rattle.vte_core.specs.Shapes.{events}
use Rattle.vte_core.proofs.AddedLemmas.{added-from, events-added}
use Rattle.vte_core.proofs.Characters.{if_holds}
use Rattle.vte_core.proofs.LawLemmas.{text_holds}
use Rattle.relay_streams.specs.Updates.{ends_update, ends_in, last_end}
use Rattle.relay_streams.proofs.UpdateLemmas.{ends-append, ends-nothing}

-- ---- a byte with which an update ends has no other event

-- the only event, if one of these events ends an update
record Lone (es : List Event) : Type 0 where
  alone : list_any ends_update es ≡ true → (e : Event) × (es ≡ e ∷ []) × (ends_update e ≡ true)

lone-quiet : (es : List Event) → list_any ends_update es ≡ false → Lone es
lone-quiet es quiet = record { alone = λ h. absurd (let contrary : true ≡ false = sym h ∙ quiet in cc) }

lone-one : (e : Event) → Lone (e ∷ [])
lone-one e = record { alone = λ h. (e, refl, sym (or-false (ends_update e)) ∙ h) }

lone-if : (v : Bool) (es ds : List Event) → Lone es → Lone ds → Lone (if v then es else ds)
lone-if v es ds h k = if_holds Lone v es ds h k

lone-nothing : Lone []
lone-nothing = lone-quiet [] refl

lone-reported : (p : ℕ → Bool) (f : ℕ → Event) (b : ℕ) → Lone (reported p f b)
lone-reported p f b = lone-if (p b) (f b ∷ []) [] (lone-one (f b)) lone-nothing

-- a string's end, and perhaps a control
lone-cut : (e : Event) (p : ℕ → Bool) (b : ℕ) → ends_update e ≡ false → Lone (e ∷ reported p Execute b)
lone-cut e p b quiet = lone-quiet (e ∷ reported p Execute b)
    (ap (λ (v : Bool). v || list_any ends_update (reported p Execute b)) quiet
    ∙ if_holds (λ (es : List Event). list_any ends_update es ≡ false) (p b) (Execute b ∷ []) [] refl refl)

lone-closed : (q : Pending) → Lone (closed 1024 q)
lone-closed (InText []) = lone-nothing
lone-closed (InText (a ∷ t)) = lone-one _
lone-closed (InEscape is) = lone-nothing
lone-closed (InCsi x) = lone-nothing
lone-closed (InOsc s) = lone-one _
lone-closed (InHook x) = lone-nothing
lone-closed InDevice = lone-one _
lone-closed InSwallowed = lone-nothing

lone-final : (is : List ℕ) (b : ℕ) → Lone (final_reported is b)
lone-final is b =
    lone-if (length is == 0 && b == 0x5B) _ _ lone-nothing (lone-if (length is == 0 && b == 0x5D) _ _ lone-nothing
    (lone-if (length is == 0 && b == 0x50) _ _ lone-nothing
    (lone-if (length is == 0 && (b == 0x58 || (b == 0x5E || b == 0x5F))) _ _ lone-nothing
    (lone-one (Esc (take 2 is) (nat_lt 2 (length is)) b)))))

lone-byte : (q : Pending) (b : ℕ) → Lone (byte_reported 1024 q b)
lone-byte (InText u) b = lone-quiet (text_reported u b) (list_any_none ends_update (text_reported u b)
    (text_holds (λ (e : Event). ends_update e ≡ false) (λ c. refl) (λ c. refl) u b))
lone-byte (InEscape is) b =
    lone-if (ends_escape b) _ _ (lone-if (is_abort b) _ _ (lone-one (Execute b)) (lone-final is b))
    (lone-reported is_control Execute b)
lone-byte (InCsi x) b =
    lone-if (ends_header b) _ _ (lone-if (is_abort b) _ _ (lone-one (Execute b))
    (lone-if (is_well_formed x) _ _ (lone-one _) lone-nothing)) (lone-reported is_control Execute b)
lone-byte (InOsc s) b = lone-if (ends_osc b) _ _ (lone-cut _ is_abort b refl) lone-nothing
lone-byte (InHook x) b =
    lone-if (ends_header b) _ _ (lone-if (is_abort b) _ _ (lone-one (Execute b))
    (lone-if (is_well_formed x) _ _ (lone-one _) lone-nothing)) lone-nothing
lone-byte InDevice b = lone-if (ends_device b) _ _ (lone-cut _ is_abort b refl) (lone-reported is_put Put b)
lone-byte InSwallowed b = lone-reported is_abort Execute b

lone-added : (past : List ℕ) (b : ℕ) → Lone (added 1024 past (b ∷ []))
lone-added past b =
    subst Lone (sym (added-from 1024 past (b ∷ []) ∙ append-nil (events_of_byte 1024 (pending past) b)))
    (lone-if (is_esc b) (closed 1024 (pending past)) (byte_reported 1024 (pending past) b)
    (lone-closed (pending past)) (lone-byte (pending past) b))

-- ---- the event of the last end

-- bytes whose last event ends an update
pub record EndsLast (bytes : List ℕ) : Type 0 where
  pub before : List Event
  pub last : Event
  pub is : events 1024 bytes ≡ before ++ last ∷ []
  pub ends : ends_update last ≡ true

ends-with : (past : List ℕ) (b : ℕ) → ends_in past (b ∷ []) ≡ true → EndsLast (past ++ b ∷ [])
ends-with past b h =
    let lone = (lone-added past b).alone h in
    record {
      before = events 1024 past;
      last = lone.0;
      is = events-added 1024 past (b ∷ []) ∙ ap (λ (es : List Event). events 1024 past ++ es) lone.1;
      ends = lone.2;
    }

-- the last end, where one ends or not
last-is : (past : List ℕ) (b : ℕ) (bs : List ℕ) (v : Bool) → ends_in past (b ∷ bs) ≡ v
    → last_end past (b ∷ bs) ≡ (if v then 1 + last_end (past ++ b ∷ []) bs else 0)
last-is past b bs v is = ap (λ (w : Bool). if w then 1 + last_end (past ++ b ∷ []) bs else 0) is

-- where there is no last end, none ends
no-end : (past bytes : List ℕ) → last_end past bytes ≡ 0 → ends_in past bytes ≡ false
no-end past [] h = ends-nothing past
no-end past (b ∷ bs) h = by (ends_in past (b ∷ bs)) refl
  where
    by : (v : Bool) → ends_in past (b ∷ bs) ≡ v → ends_in past (b ∷ bs) ≡ false
    by false is = is
    by true is = absurd (omega (arith, sym (last-is past b bs true is) ∙ h))

-- none ends after the first byte
ends-first : (past : List ℕ) (b : ℕ) (bs : List ℕ) → ends_in past (b ∷ bs) ≡ true → last_end (past ++ b ∷ []) bs ≡ 0
    → EndsLast (past ++ b ∷ [])
ends-first past b bs ends none =
    ends-with past b (sym (or-false (ends_in past (b ∷ [])))
    ∙ ap (λ (v : Bool). ends_in past (b ∷ []) || v) (sym (no-end (past ++ b ∷ []) bs none))
    ∙ sym (ends-append past (b ∷ []) bs) ∙ ends)

ends-by : (past : List ℕ) (b : ℕ) (bs : List ℕ) (j k : ℕ) → last_end (past ++ b ∷ []) bs ≡ j
    → last_end past (b ∷ bs) ≡ k → 0 < k → (v : Bool) → ends_in past (b ∷ bs) ≡ v
    → (0 < j → EndsLast ((past ++ b ∷ []) ++ take j bs)) → EndsLast (past ++ take k (b ∷ bs))
ends-by past b bs j k rest is some false none more =
    absurd (omega (arith, sym (last-is past b bs false none) ∙ is, some))
ends-by past b bs zero k rest is some true ends more =
    let one : 1 ≡ k = ap (λ (n : ℕ). 1 + n) (sym rest) ∙ sym (last-is past b bs true ends) ∙ is in
    subst (λ (n : ℕ). EndsLast (past ++ take n (b ∷ bs))) one (ends-first past b bs ends rest)
ends-by past b bs (suc j) k rest is some true ends more =
    let next : suc (suc j) ≡ k =
    omega (arith, ap (λ (n : ℕ). 1 + n) (sym rest) ∙ sym (last-is past b bs true ends) ∙ is) in
    subst (λ (n : ℕ). EndsLast (past ++ take n (b ∷ bs))) next
    (subst EndsLast (append_assoc past (b ∷ []) (take (suc j) bs)) (more (omega arith)))

pub ends-at : (past bytes : List ℕ) (k : ℕ) → last_end past bytes ≡ k → 0 < k → EndsLast (past ++ take k bytes)
ends-at past [] k is some = absurd (omega (arith, is, some))
ends-at past (b ∷ bs) k is some =
    let rest = last_end (past ++ b ∷ []) bs in
    ends-by past b bs rest k refl is some (ends_in past (b ∷ bs)) refl (λ more. ends-at (past ++ b ∷ []) bs rest refl more)
