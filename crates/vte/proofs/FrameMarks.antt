-- Marks as the parser reads them, and their places in a text.
use Rattle.std.proofs.Common.{◌≡◌, ℕ, zero, suc, ◌+◌, ◌-◌, ◌<◌, ◌≤◌, Bool, true, false, ◌&&◌, ◌||◌, ◌==◌, List, [], ◌∷◌}
use Rattle.std.proofs.Common.{◌++◌, length, take, drop, nat_eq, refl, sym, ◌∙◌, ap, inl, inr, arith, length-append}
use Rattle.std.proofs.Common.{append_assoc, length-drop}
use Rattle.std.specs.List.{list_any, starts_with}
use Rattle.std.proofs.lemmas.Bool.{cases_Bool, cases_lt, eqb-true, or_parts, and_right, agree_below_at}
use Rattle.std.proofs.lemmas.List.{take-append-drop, take_at, nil_from_length}
use Rattle.std.proofs.lemmas.List.Folds.{list_any-append}
use Rattle.std.proofs.Math.Seq.{drop-append-add, drop-append_seam}
use Rattle.std.specs.List.{All}
use Rattle.std.specs.Int.{is_in_range}
use Rattle.std.proofs.lemmas.List.Elements.{All-head, All-tail}
use Rattle.vte_core.specs.Event.{Event, Print, Unhook, Osc}
use Rattle.vte_core.specs.Shapes.{events}
use Rattle.vte_core.specs.Ground.{AtGround}
use Rattle.vte_core.specs.Laws.{IsCutOff}
use Rattle.vte_core.proofs.LawLemmas.{esc-cut}
use Rattle.vte_core.proofs.AddedLemmas.{added-is, events-added}
use Rattle.vte_core.proofs.QuietBytes.{esc-cuts_off}
use Rattle.vte_core.proofs.GroundLemmas.{ground-added, ground-esc, ground-sequence}
use Rattle.vte_types.specs.Call.{set_private_mode}
use Rattle.vte_types.specs.declared.mode.PrivateMode.TheVariants.{Named}
use Rattle.vte_types.specs.declared.mode.NamedPrivateMode.TheVariants.{SyncUpdate}
use Rattle.vte.specs.Table.{opens}
use Rattle.vte.specs.Performed.{calls_of_all}
use Rattle.vte.specs.Marks.{start_mark, end_mark, is_found_at, NoneFrom, IsLast, IsFirstFrom}
use Rattle.vte.specs.Stretch.{added, last_of, calls_from, opens_in, OpensAt}
use Rattle.vte.specs.Hold.{closing}
use Rattle.vte.proofs.HoldLemmas.{opens_in-append, opens_in-none}

-- stretches one after the other

pub opens_in-parts : (past a b : List ℕ) → opens_in past (a ++ b) ≡ false → (opens_in past a ≡ false)
    × (opens_in (past ++ a) b ≡ false)
opens_in-parts past a b h = or_parts (opens_in past a) (opens_in (past ++ a) b) (sym (opens_in-append past a b) ∙ h)

pub opens_in-later : (past a b : List ℕ) → opens_in past a ≡ false → opens_in past (a ++ b) ≡ opens_in (past ++ a) b
opens_in-later past a b h = opens_in-append past a b ∙ ap (λ v. v || opens_in (past ++ a) b) h

pub opens_in-sooner : (past a b : List ℕ) → opens_in past a ≡ true → opens_in past (a ++ b) ≡ true
opens_in-sooner past a b h = opens_in-append past a b ∙ ap (λ v. v || opens_in (past ++ a) b) h

-- a prefix of bytes that open nothing opens nothing
pub opens_in-prefix : (past bytes : List ℕ) (n : ℕ) → opens_in past bytes ≡ false → opens_in past (take n bytes) ≡ false
opens_in-prefix past bytes n h = (opens_in-parts past (take n bytes) (drop n bytes)
    (ap (opens_in past) (take-append-drop n bytes) ∙ h)).0

-- marks

-- ESC itself opens nothing
cut_off_none : (e : Event) → IsCutOff e → opens e ≡ false
cut_off_none (Print c) h = refl
cut_off_none (Osc ps bell) h = refl
cut_off_none Unhook h = refl
cut_off_none e h = absurd h

all_cut_off_none : (es : List Event) → All IsCutOff es → list_any opens es ≡ false
all_cut_off_none [] h = refl
all_cut_off_none (e ∷ es) h = rw (cut_off_none e (All-head IsCutOff e es h))
    (all_cut_off_none es (All-tail IsCutOff e es h))

-- the events of what ESC begins don't depend on what came before
esc_added : (past bytes : List ℕ) → added past (27 ∷ bytes) ≡ added past (27 ∷ []) ++ events 1024 (27 ∷ bytes)
esc_added past bytes =
    let reported = events 1024 (27 ∷ bytes) in
    let whole : events 1024 (past ++ 27 ∷ bytes) ≡ events 1024 past ++ (added past (27 ∷ []) ++ reported) =
    esc-cut 1024 past bytes ∙ (ap (λ es. es ++ reported) (events-added 1024 past (27 ∷ []))
    ∙ append_assoc (events 1024 past) (added past (27 ∷ [])) reported) in
    sym (added-is 1024 past (27 ∷ bytes) (added past (27 ∷ []) ++ reported) whole)

-- nor does whether it opens an update
esc_opens : (past bytes : List ℕ) → opens_in past (27 ∷ bytes) ≡ list_any opens (events 1024 (27 ∷ bytes))
esc_opens past bytes =
    let more = list_any opens (events 1024 (27 ∷ bytes)) in
    ap (list_any opens) (esc_added past bytes)
    ∙ (list_any-append opens (added past (27 ∷ [])) (events 1024 (27 ∷ bytes))
    ∙ ap (λ v. v || more) (all_cut_off_none (added past (27 ∷ [])) (esc-cuts_off 1024 past)))

abbrev start_tail : List ℕ
start_tail = 91 ∷ 63 ∷ 50 ∷ 48 ∷ 50 ∷ 54 ∷ 104 ∷ []

tail_none : (count : ℕ) → count < 7 → list_any opens (events 1024 (27 ∷ take count start_tail)) ≡ false
tail_none count h =
    agree_below_at (λ k. list_any opens (events 1024 (27 ∷ take k start_tail))) (λ k. false) 7 count refl h

-- less than a start mark opens nothing
pub begun_none : (past : List ℕ) (count : ℕ) → count < 8 → opens_in past (take count start_mark) ≡ false
begun_none past zero h = opens_in-none past
begun_none past (suc count) h = esc_opens past (take count start_tail) ∙ tail_none count (omega arith)

pub prefix_none : (past part left : List ℕ) → start_mark ≡ part ++ left → length part < 8 → opens_in past part ≡ false
prefix_none past part left e h =
    let is : take (length part) start_mark ≡ part = ap (take (length part)) e ∙ take_at part left (length part) refl in
    ap (opens_in past) (sym is) ∙ begun_none past (length part) h

pub start_opens : (past : List ℕ) → opens_in past start_mark ≡ true
start_opens past = esc_opens past start_tail

pub end_none : (past : List ℕ) → opens_in past end_mark ≡ false
end_none past = esc_opens past (91 ∷ 63 ∷ 50 ∷ 48 ∷ 50 ∷ 54 ∷ 108 ∷ [])

pub start_opens_at : (past : List ℕ) → OpensAt past start_mark 8
start_opens_at past = record { within = omega arith; opened = start_opens past; first = λ m h. begun_none past m h }

-- after a mark nothing is unfinished
mark_ends : (final : ℕ) → is_in_range 0x40 0x7E final ≡ true
    → AtGround 1024 (27 ∷ 91 ∷ (63 ∷ 50 ∷ 48 ∷ 50 ∷ 54 ∷ final ∷ []))
mark_ends final h = ground-sequence 1024 (63 ∷ 50 ∷ 48 ∷ 50 ∷ 54 ∷ []) final
    ((refl, (refl, (refl, (refl, (refl, tt))))), h)

pub ground_start : (past : List ℕ) → AtGround 1024 (past ++ start_mark)
ground_start past = ground-esc 1024 past start_tail (mark_ends 104 refl)

pub ground_end : (past : List ℕ) → AtGround 1024 (past ++ end_mark)
ground_end past = ground-esc 1024 past (91 ∷ 63 ∷ 50 ∷ 48 ∷ 50 ∷ 54 ∷ 108 ∷ []) (mark_ends 108 refl)

begun_events : (count : ℕ) → count < 8 → events 1024 (take count start_mark) ≡ []
begun_events count h = nil_from_length _ (eqb-true _ 0
    (agree_below_at (λ k. length (events 1024 (take k start_mark)) == 0) (λ k. true) 8 count refl h))

calls_alone : (past bytes : List ℕ) → AtGround 1024 past
    → calls_from past bytes ≡ calls_of_all (last_of past) (events 1024 bytes)
calls_alone past bytes g = ap (calls_of_all (last_of past)) (ground-added 1024 past bytes g)

pub begun_calls : (past : List ℕ) (count : ℕ) → AtGround 1024 past → count < 8
    → calls_from past (take count start_mark) ≡ []
begun_calls past count g h = calls_alone past (take count start_mark) g
    ∙ ap (calls_of_all (last_of past)) (begun_events count h)

pub start_calls : (past : List ℕ) → AtGround 1024 past
    → calls_from past start_mark ≡ set_private_mode (Named SyncUpdate) ∷ []
start_calls past g = calls_alone past start_mark g

pub end_calls : (past : List ℕ) → AtGround 1024 past → calls_from past end_mark ≡ closing
end_calls past g = calls_alone past end_mark g

-- places

pub at_later : (mark prefix back : List ℕ) (k : ℕ) → is_found_at mark (prefix ++ back) (length prefix + k)
    ≡ is_found_at mark back k
at_later mark prefix back k = ap (λ text. starts_with nat_eq text mark) (drop-append-add prefix back k)

starts_short : (mark text : List ℕ) → length text < length mark → starts_with nat_eq text mark ≡ false
starts_short [] text h = absurd (omega arith)
starts_short (y ∷ mark) [] h = refl
starts_short (y ∷ mark) (x ∷ text) h = ap (λ b. nat_eq y x && b) (starts_short mark text (omega arith))
    ∙ and_right (nat_eq y x) false refl

-- too little follows for a mark to be there
pub none_short : (mark text : List ℕ) (k : ℕ) → length text < length mark → is_found_at mark text k ≡ false
none_short mark text k h = starts_short mark (drop k text) (omega (arith, length-drop k text, h))

starts_so : (mark text : List ℕ) → starts_with nat_eq text mark ≡ true → text ≡ mark ++ drop (length mark) text
starts_so [] text h = refl
starts_so (y ∷ mark) [] h = absurd (let no : false ≡ true = h in cc)
starts_so (y ∷ mark) (x ∷ text) h = elim (cases_Bool (nat_eq y x)) [
  | inl e ↦
      let same : y ≡ x = eqb-true y x e in
      let more : text ≡ mark ++ drop (length mark) text = starts_so mark text (rw e at h) in
      ap (λ z. z ∷ text) (sym same) ∙ ap (λ zs. y ∷ zs) more
  | inr e ↦ absurd (let no : false ≡ true = rw e at h in cc)
]

-- a mark at a place cuts the text
pub at_cuts : (mark text : List ℕ) (k : ℕ) → is_found_at mark text k ≡ true
    → text ≡ take k text ++ (mark ++ drop (length mark) (drop k text))
at_cuts mark text k h = sym (take-append-drop k text) ∙ ap (λ zs. take k text ++ zs) (starts_so mark (drop k text) h)

-- no mark begins inside an end mark
end_inside : (back : List ℕ) (k : ℕ) → 0 < k → k < 8 → (is_found_at start_mark (end_mark ++ back) k ≡ false)
    × (is_found_at end_mark (end_mark ++ back) k ≡ false)
end_inside back zero low high = absurd (omega arith)
end_inside back (suc k) low high = (
  agree_below_at (λ j. is_found_at start_mark (end_mark ++ back) (suc j)) (λ j. false) 7 k refl (omega arith),
  agree_below_at (λ j. is_found_at end_mark (end_mark ++ back) (suc j)) (λ j. false) 7 k refl (omega arith),
)

-- no end mark begins inside a start mark
pub start_inside : (back : List ℕ) (k : ℕ) → k < 8 → is_found_at end_mark (start_mark ++ back) k ≡ false
start_inside back k h = agree_below_at (is_found_at end_mark (start_mark ++ back)) (λ j. false) 8 k refl h

pub contrary : (b : Bool) → b ≡ true → b ≡ false → ⊥
contrary b h k = let e : true ≡ false = sym h ∙ k in cc

pub end_state_after : (prefix back : List ℕ) → is_found_at end_mark (prefix ++ (end_mark ++ back)) (length prefix)
    ≡ true
end_state_after prefix back = ap (λ text. starts_with nat_eq text end_mark) (drop-append_seam prefix (end_mark ++ back))

-- a place after the end mark's first byte is after its last, for a mark that doesn't begin inside it
past_end : (mark prefix back : List ℕ) (n : ℕ)
    → ((k : ℕ) → 0 < k → k < 8 → is_found_at mark (end_mark ++ back) k ≡ false) → length prefix < n
    → is_found_at mark (prefix ++ (end_mark ++ back)) n ≡ true
    → (length prefix + 8 ≤ n) × (is_found_at mark back (n - length prefix - 8) ≡ true)
past_end mark prefix back n none low at =
    let d = n - length prefix in
    let there : is_found_at mark (end_mark ++ back) d ≡ true = sym (at_later mark prefix (end_mark ++ back) d)
    ∙ (ap (is_found_at mark (prefix ++ (end_mark ++ back))) (omega (arith, low)) ∙ at) in
    elim (cases_lt d 8) [
      | inl inside ↦ absurd (contrary _ there (none d (omega (arith, low)) inside))
      | inr past ↦ (
        omega (arith, past),
        sym (at_later mark end_mark back (d - 8))
            ∙ (ap (is_found_at mark (end_mark ++ back)) (omega (arith, past)) ∙ there),
      )
    ]

-- the last end mark, if none follows it
pub last_is : (prefix back : List ℕ) (e : ℕ) → IsLast end_mark (prefix ++ (end_mark ++ back)) e
    → NoneFrom end_mark back 0 → e ≡ length prefix
last_is prefix back e last none =
    let text = prefix ++ (end_mark ++ back) in
    let long : length text ≡ length prefix + length (end_mark ++ back) = length-append prefix (end_mark ++ back) in
    elim (cases_lt e (length prefix)) [
      | inl sooner ↦ absurd (contrary _ (end_state_after prefix back)
          (last.2 (length prefix) (omega (arith, sooner)) (omega (arith, long))))
      | inr later ↦ elim (cases_lt (length prefix) e) [
        | inr same ↦ omega (arith, later, same)
        | inl behind ↦
            let past = past_end end_mark prefix back e (λ k low high. (end_inside back k low high).1) behind last.1 in
            absurd (contrary _ past.1 (none (e - length prefix - 8) (omega arith)
            (omega (arith, long, last.0, length-append end_mark back, past.0))))
      ]
    ]

-- the first start mark after that end mark, if one follows right after it
pub first_is : (prefix back : List ℕ) (n : ℕ) → IsFirstFrom start_mark (prefix
    ++ (end_mark ++ (start_mark ++ back))) (length prefix + 1) n → n ≡ length (prefix ++ end_mark)
first_is prefix back n first =
    let rest = start_mark ++ back in
    let text = prefix ++ (end_mark ++ rest) in
    let here : is_found_at start_mark text (length prefix + 8)
    ≡ true = at_later start_mark prefix (end_mark ++ rest) 8 in
    let size : length (prefix ++ end_mark) ≡ length prefix + 8 = length-append prefix end_mark in
    elim (cases_lt n (length prefix + 8)) [
      | inl sooner ↦
          let past = past_end start_mark prefix rest n (λ k low high. (end_inside rest k low high).0)
          (omega (arith, first.0)) first.2 in
          absurd (omega (arith, past.0, sooner))
      | inr later ↦ elim (cases_lt (length prefix + 8) n) [
        | inl behind ↦ absurd (contrary _ here (first.3 (length prefix + 8) (omega arith) behind))
        | inr same ↦ omega (arith, later, same, size)
      ]
    ]

-- there is none if too little follows the end mark
pub no_first : (prefix back : List ℕ) (n : ℕ) → IsFirstFrom start_mark (prefix
    ++ (end_mark ++ back)) (length prefix + 1) n → length back < 8 → ⊥
no_first prefix back n first short =
    let past = past_end start_mark prefix back n (λ k low high. (end_inside back k low high).0)
    (omega (arith, first.0)) first.2 in
    contrary _ past.1 (none_short start_mark back _ short)

pub start_state_after : (prefix back : List ℕ) → NoneFrom start_mark (prefix
    ++ (end_mark ++ (start_mark ++ back))) (length prefix + 1) → ⊥
start_state_after prefix back none =
    let here = at_later start_mark prefix (end_mark ++ (start_mark ++ back)) 8 in
    let long = length-append prefix (end_mark ++ (start_mark ++ back)) in
    contrary _ here (none (length prefix + 8) (omega arith) (omega (arith, long)))
