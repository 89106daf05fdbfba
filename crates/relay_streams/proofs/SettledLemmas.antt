-- The screen at the last end of an update.
use Rattle.std.proofs.Common.{◌≡◌, ◌∙◌, ℕ, ◌<◌, ◌==◌, ◌&&◌, ◌||◌, Bool, true, false, List, [], ◌∷◌, ◌++◌, take, Option}
use Rattle.std.proofs.Common.{Some, None, refl, sym, ap, subst, append-nil}
use Rattle.std.proofs.lemmas.Bool.{and_parts, cond_both, eqb-true}
use Rattle.std.specs.List.{list_any}
use Rattle.vte_core.specs.Event.{Event, Csi, Esc}
use Rattle.vte_core.specs.Pending.{InText, events_from}
use Rattle.vte_core.specs.Shapes.{events}
use Rattle.vte_core.proofs.Machine.{events-reported}
use Rattle.vt100_forms.specs.declared.modes.MouseProtocolMode.{MouseProtocolMode}
use Rattle.vt100_forms.specs.declared.modes.MouseProtocolEncoding.{MouseProtocolEncoding}
use Rattle.screen_model.specs.Effect.{effect}
use Rattle.screen_model.specs.Made.{played}
use Rattle.screen_model.specs.PrivateModes.{is_mouse, is_encoding, mouse_reset, encoding_reset, reset_rows, row_of}
use Rattle.screen_model.specs.PrivateModes.{row_state, partly_on, modes_from}
use Rattle.screen_model.specs.State.{State}
use Rattle.screen_model.specs.Step.{Partly, alternate_shown, main_shown, erased_all}
use Rattle.screen_model.proofs.Tables.{Each, ◌&◌, Where, looked-up}
use Rattle.charset_filter.specs.Behind.{behind, drawn_events, mode_behind, modes_behind}
use Rattle.charset_filter.specs.Lines.{passed}
use Rattle.charset_filter.specs.Sets.{after_events, after_mode, first_sets, shown}
use Rattle.charset_filter.specs.declared.lines.LineDrawing.{LineDrawing}
use Rattle.charset_filter.specs.declared.lines.LineDrawing.TheVariants.{Kept, Drawn}
use Rattle.charset_filter.specs.declared.sets.CharacterSets.{CharacterSets}
use Rattle.charset_filter.proofs.EventLemmas.{drawn_events-append}
use Rattle.charset_filter.proofs.LawLemmas.{draws-events}
use Rattle.relay_streams.specs.Updates.{is_update_mode, ends_update, last_end}
use Rattle.relay_streams.proofs.EndEvents.{EndsLast, ends-at}

-- ---- it ends the update

-- a change that begins no update
abbrev KeepsEnded : (State → State) → Type 0
KeepsEnded f = (s : State) → s.updating ≡ false → (f s).updating ≡ false

abbrev Ended : State → Type 0
Ended s = s.updating ≡ false

same : (s : State) → Ended s → Ended s
same s h = h

mouse-ended : (m : MouseProtocolMode) → KeepsEnded (mouse_reset m)
mouse-ended m s h = cond_both (is_mouse s.modes.mouse m) _ s Ended (λ _. h) (λ _. h)

encoding-ended : (e : MouseProtocolEncoding) → KeepsEnded (encoding_reset e)
encoding-ended e s h = cond_both (is_encoding s.modes.encoding e) _ s Ended (λ _. h) (λ _. h)

main-ended : KeepsEnded main_shown
main-ended s h = cond_both s.alternate _ s Ended (λ _. h) (λ _. h)

alternate-ended : KeepsEnded alternate_shown
alternate-ended s h = cond_both s.alternate _ _ Ended (λ _. h) (λ _. h)

resets-ended : Each KeepsEnded reset_rows
resets-ended =
    same & same & mouse-ended _ & same & main-ended & mouse-ended _ & mouse-ended _ & mouse-ended _
    & encoding-ended _ & encoding-ended _ & main-ended & same & (λ s h. refl) & tt

row-ended : (g : List ℕ) → Where KeepsEnded (row_of reset_rows g)
row-ended [] = tt
row-ended (n ∷ []) = looked-up KeepsEnded n reset_rows resets-ended
row-ended (n ∷ m ∷ ns) = tt

row-keeps : (g : List ℕ) (s : State) → Ended s → Ended (row_state (row_of reset_rows g) s)
row-keeps g s h = by (row_of reset_rows g) (row-ended g)
  where
    by : (o : Option (State → State)) → Where KeepsEnded o → Ended (row_state o s)
    by None keeps = h
    by (Some f) keeps = keeps s h

still-ended : (gs : List (List ℕ)) (x : Partly) → Ended x.state → Ended (modes_from reset_rows x gs).state
still-ended [] x h = h
still-ended (g ∷ gs) x h = still-ended gs (partly_on (row_of reset_rows g) x) (row-keeps g x.state h)

-- the mode of updates is reset
update-reset : (g : List ℕ) (s : State) → is_update_mode g ≡ true → Ended (row_state (row_of reset_rows g) s)
update-reset [] s h = absurd (let no : false ≡ true = h in cc)
update-reset (n ∷ []) s h =
    subst (λ (m : ℕ). Ended (row_state (row_of reset_rows (m ∷ [])) s)) (sym (eqb-true n 2026 h)) refl
update-reset (n ∷ m ∷ ns) s h = absurd (let no : false ≡ true = h in cc)

modes-ended : (gs : List (List ℕ)) (x : Partly) → list_any is_update_mode gs ≡ true
    → Ended (modes_from reset_rows x gs).state
modes-ended [] x h = absurd (let no : false ≡ true = h in cc)
modes-ended (g ∷ gs) x h =
    let next = partly_on (row_of reset_rows g) x in
    by (is_update_mode g) refl (λ among. modes-ended gs next among)
  where
    by : (v : Bool) → is_update_mode g ≡ v
        → (list_any is_update_mode gs ≡ true → Ended (modes_from reset_rows (partly_on (row_of reset_rows g) x) gs).state)
        → Ended (modes_from reset_rows (partly_on (row_of reset_rows g) x) gs).state
    by true is later = still-ended gs (partly_on (row_of reset_rows g) x) (update-reset g x.state is)
    by false is later = later (sym (ap (λ (v : Bool). v || list_any is_update_mode gs) is) ∙ h)

-- what such a sequence is
is-reset : (gs : List (List ℕ)) (i : ℕ) (is : List ℕ) (many : Bool) (f : ℕ)
    → ends_update (Csi gs (i ∷ is) many f) ≡ true → (i ≡ 0x3F) × (f ≡ 0x6C) × (list_any is_update_mode gs ≡ true)
is-reset gs i is many f h =
    let parts = and_parts ((i == 0x3F) && (f == 0x6C)) (list_any is_update_mode gs) h in
    let both = and_parts (i == 0x3F) (f == 0x6C) parts.0 in
    (eqb-true i 0x3F both.0, eqb-true f 0x6C both.1, parts.1)

ends-effect : (e : Event) (s : State) → ends_update e ≡ true → Ended (effect e s).state
ends-effect (Csi gs [] many f) s h = absurd (let no : false ≡ true = h in cc)
ends-effect (Csi gs (i ∷ is) many f) s h =
    let is_so = is-reset gs i is many f h in
    subst (λ (m : ℕ). Ended (effect (Csi gs (m ∷ is) many f) s).state) (sym is_so.0)
    (subst (λ (b : ℕ). Ended (effect (Csi gs (0x3F ∷ is) many b) s).state) (sym is_so.1)
    (modes-ended gs (record { state = s; reports = []; unhandled = 0 }) is_so.2))
ends-effect (Esc [] many f) s h =
    subst (λ (b : ℕ). Ended (effect (Esc [] many b) s).state) (sym (eqb-true f 0x63 h)) refl
ends-effect (Esc (i ∷ is) many f) s h = absurd (let no : false ≡ true = h in cc)
ends-effect _ s h = absurd (let no : false ≡ true = h in cc)

-- ---- and so do the bytes behind it

-- bytes whose events begin no update
abbrev AreEnded : List ℕ → Type 0
AreEnded bytes = (s : State) → Ended s → Ended (played (events_from 0 (InText []) bytes) s)

-- the bytes behind one mode that is reset, and then the rest
mode-behind : (sets : CharacterSets) (g rest : List ℕ) → AreEnded rest → AreEnded (mode_behind false sets g ++ rest)
mode-behind sets [] rest h = h
mode-behind sets (m ∷ n ∷ ns) rest h = h
mode-behind sets (m ∷ []) rest h =
    cond_both (m == 1047) _ _ (λ (bs : List ℕ). AreEnded (bs ++ rest))
    (λ _. cond_both sets.alternate _ _ (λ (bs : List ℕ). AreEnded (bs ++ rest))
    (λ _ s k. h _ (main-ended (erased_all (alternate_shown s)) (alternate-ended s k))) (λ _. h))
    (λ _. cond_both (m == 1048) _ _ (λ (bs : List ℕ). AreEnded (bs ++ rest)) (λ _ s k. h _ k) (λ _. h))

modes-behind : (sets : CharacterSets) (gs : List (List ℕ)) → AreEnded (modes_behind false sets gs)
modes-behind sets [] = λ s h. h
modes-behind sets (g ∷ gs) =
    mode-behind sets g (modes_behind false (after_mode false sets g) gs) (modes-behind (after_mode false sets g) gs)

behind-ended : (sets : CharacterSets) (e : Event) → ends_update e ≡ true → AreEnded (behind sets e)
behind-ended sets (Csi gs [] many f) h = absurd (let no : false ≡ true = h in cc)
behind-ended sets (Csi gs (i ∷ []) many f) h =
    let is_so = is-reset gs i [] many f h in
    subst (λ (m : ℕ). AreEnded (behind sets (Csi gs (m ∷ []) many f))) (sym is_so.0)
    (subst (λ (b : ℕ). AreEnded (behind sets (Csi gs (0x3F ∷ []) many b))) (sym is_so.1) (modes-behind sets gs))
behind-ended sets (Csi gs (i ∷ j ∷ is) many f) h = λ s k. k
behind-ended sets (Esc [] many f) h =
    subst (λ (b : ℕ). AreEnded (behind sets (Esc [] many b))) (sym (eqb-true f 0x63 h)) (λ s k. k)
behind-ended sets (Esc (i ∷ is) many f) h = absurd (let no : false ≡ true = h in cc)
behind-ended sets _ h = absurd (let no : false ≡ true = h in cc)

-- it is shown as it is
shown-same : (sets : CharacterSets) (e : Event) → ends_update e ≡ true → shown sets e ≡ e
shown-same sets (Csi gs is many f) h = refl
shown-same sets (Esc is many f) h = refl
shown-same sets _ h = absurd (let no : false ≡ true = h in cc)

-- ---- so no update is open then

pub played-after : (es fs : List Event) (s : State) → played (es ++ fs) s ≡ played fs (played es s)
played-after [] fs s = refl
played-after (e ∷ es) fs s = played-after es fs (effect e s).state

-- bytes that pass have made this screen
abbrev made_of : LineDrawing → State → List ℕ → State
made_of lines s bytes = played (events 1024 (passed lines [] bytes)) s

ends-last : (lines : LineDrawing) (bytes : List ℕ) (s : State) → EndsLast bytes → Ended (made_of lines s bytes)
ends-last Kept bytes s h =
    let last : List Event = h.last ∷ [] in
    subst Ended (sym (ap (λ (es : List Event). played es s) h.is ∙ played-after h.before last s))
    (ends-effect h.last (played h.before s) h.ends)
ends-last Drawn bytes s h =
    let sets = after_events first_sets h.before in
    let before = drawn_events first_sets h.before in
    let last = drawn_events sets (h.last ∷ []) in
    let drawn : events 1024 (passed Drawn [] bytes) ≡ before ++ last =
    draws-events 1024 bytes ∙ ap (drawn_events first_sets) h.is ∙ drawn_events-append first_sets h.before (h.last ∷ []) in
    subst Ended (sym (ap (λ (es : List Event). played es s) drawn ∙ played-after before last s))
    (last-drawn sets h.last (played before s) h.ends)
  where
    last-drawn : (sets : CharacterSets) (e : Event) (t : State) → ends_update e ≡ true
        → Ended (played (drawn_events sets (e ∷ [])) t)
    last-drawn sets e t ends =
        let next = (effect e t).state in
        subst Ended (sym (ap (λ (x : Event). played (events 0 (behind sets e) ++ []) (effect x t).state)
        (shown-same sets e ends)
        ∙ ap (λ (es : List Event). played es next)
        (append-nil (events 0 (behind sets e)) ∙ events-reported 0 (behind sets e))))
        (behind-ended sets e ends next (ends-effect e t ends))

pub settled : (lines : LineDrawing) (past piece : List ℕ) (s : State) → 0 < last_end past piece
    → Ended (made_of lines s (past ++ take (last_end past piece) piece))
settled lines past piece s some =
    ends-last lines (past ++ take (last_end past piece) piece) s (ends-at past piece (last_end past piece) refl some)
