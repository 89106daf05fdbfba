-- The calls of each form.
use Rattle.std.proofs.Common.{◌≡◌, ℕ, ◌+◌, ◌^◌, ◌<◌, ◌==◌, true, false, cond, ◌&&◌, List, []}
use Rattle.std.proofs.Common.{◌∷◌, ◌++◌, map, nat_eq, Option, Some, refl, sym, ap, ◌∙◌, arith, append_assoc}
use Rattle.std.proofs.Common.{append-nil}
use Rattle.std.proofs.lemmas.Bool.{cond_both, eqb-true, ne_eqb, and_parts}
use Rattle.std.proofs.lemmas.Bool.Decides.{nat_tests}
use Rattle.vte_core.specs.Event.{Event, Print}
use Rattle.vte_types.specs.Call as call
use Rattle.vte_types.specs.Call.{Call}
use Rattle.vte_types.specs.declared.attr.Attr.{Attr}
use Rattle.vte.specs.Sgr.{attributes, nothing}
use Rattle.vte.specs.Table.{calls_of, last_after}
use Rattle.vte.specs.Performed.{last_after_all, calls_of_all}
use Rattle.vt100_forms.specs.declared.modes.CursorStyle.{CursorStyle}
use Rattle.vt100_forms.specs.declared.modes.CursorStyle.TheVariants as style
use Rattle.vt100_forms.specs.Form.{Text, MoveTo, MoveRight, EraseChar, HideCursor, Keypad, CursorKeys}
use Rattle.vt100_forms.specs.Form.{Paste, Mouse, Encoding, Style, Sgr, mouse_number, encoding_number, style_number}
use Rattle.vt100_forms.specs.Form.{sgr_numbers}
use Rattle.vt100_forms.specs.Length.{HasSmallNumbers}
use Rattle.forms_read.specs.Events.{kept_number, sequence, bare, counted_events, set_event, reset_event, mode_events}
use Rattle.forms_read.specs.Events.{sgr_events, events_of, events_of_all}
use Rattle.forms_read.specs.Laws.{IsReadable}
use Rattle.forms_read.proofs.ReadForms.{cond-two, mouse-small, encoding-small, list-read}
use Rattle.terminal_model.proofs.FormTexts.{all-each}
use Rattle.forms_read.specs.Calls.{set_call, reset_call, mode_calls, style_reported, form_calls}
use Rattle.forms_read.specs.CallLaws.{EachFormCalls, EachListCalls, EachWrittenFormCalls}
use Rattle.forms_read.proofs.Reported.{groups_reported, IsReportedBy, reported-change, reported-all}

-- ---- text

calls-text : (last : Option ℕ) (cs : List ℕ) → calls_of_all last (map Print cs) ≡ map call.input cs
calls-text last [] = refl
calls-text last (c ∷ cs) = ap (λ xs. call.input c ∷ xs) (calls-text (Some c) cs)

-- ---- places and counts

kept-some : (k : ℕ) → 0 < k → nat_eq (kept_number k) 0 ≡ false
kept-some k h = ne_eqb (kept_number k) 0 (λ e. absurd (omega (arith, e, h)))

calls-MoveTo : (last : Option ℕ) (r c : ℕ) → calls_of_all last (events_of (MoveTo r c)) ≡ form_calls (MoveTo r c)
calls-MoveTo last r c =
    cond_both ((r == 0) && (c == 0)) (bare 0x48 ∷ []) (sequence [] ((r + 1) ∷ (c + 1) ∷ []) 0x48 ∷ [])
    (λ es. calls_of_all last es ≡ form_calls (MoveTo r c))
    (λ e. let parts = and_parts (r == 0) (c == 0) e in
    let row = eqb-true r 0 parts.0 in
    let col = eqb-true c 0 parts.1 in
    sym (λ i. form_calls (MoveTo (row i) (col i))))
    (λ _. rw (kept-some (r + 1) (omega arith), kept-some (c + 1) (omega arith)) refl)

nonzero : (k : ℕ) → (k == 0) ≡ false → 0 < k
nonzero k h = grind (arith, nat_tests)

calls-counted : (last : Option ℕ) (k final : ℕ) (reported : ℕ → Call)
    → calls_of_all last (bare final ∷ []) ≡ reported 1 ∷ []
    → calls_of_all last (sequence [] (k ∷ []) final ∷ [])
    ≡ reported (cond (nat_eq (kept_number k) 0) 1 (kept_number k)) ∷ []
    → calls_of_all last (counted_events k final) ≡ cond (k == 0) [] (reported (kept_number k) ∷ [])
calls-counted last k final reported one many =
    cond-two (λ es cs. calls_of_all last es ≡ cs) (k == 0) _ _ _ _ (λ _. refl)
    (λ e. cond_both (k == 1) (bare final ∷ []) (sequence [] (k ∷ []) final ∷ [])
    (λ es. calls_of_all last es ≡ reported (kept_number k) ∷ [])
    (λ q. one ∙ ap (λ j. reported (kept_number j) ∷ []) (sym (eqb-true k 1 q)))
    (λ _. many ∙ ap (λ b. reported (cond b 1 (kept_number k)) ∷ []) (kept-some k (nonzero k e))))

-- ---- modes

calls-set : (last : Option ℕ) (k : ℕ) → k < 2 ^ 16 → calls_of_all last (set_event k ∷ []) ≡ set_call k ∷ []
calls-set last k h = let kept : kept_number k ≡ k = omega (arith, h) in ap (λ j. set_call j ∷ []) kept

calls-reset : (last : Option ℕ) (k : ℕ) → k < 2 ^ 16 → calls_of_all last (reset_event k ∷ []) ≡ reset_call k ∷ []
calls-reset last k h = let kept : kept_number k ≡ k = omega (arith, h) in ap (λ j. reset_call j ∷ []) kept

calls-mode : (last : Option ℕ) (to from : ℕ) → to < 2 ^ 16 → from < 2 ^ 16
    → calls_of_all last (mode_events to from) ≡ mode_calls to from
calls-mode last to from h k =
    cond-two (λ es cs. calls_of_all last es ≡ cs) (to == from) _ _ _ _ (λ _. refl)
    (λ _. cond-two (λ es cs. calls_of_all last es ≡ cs) (to == 0) _ _ _ _ (λ _. calls-reset last from k)
    (λ _. calls-set last to h))

style-called : (last : Option ℕ) (s : CursorStyle)
    → calls_of_all last (sequence (0x20 ∷ []) (style_number s ∷ []) 0x71 ∷ [])
    ≡ call.set_cursor_style (style_reported s) ∷ []
style-called last style.Default = refl
style-called last s = refl

calls-Style : (last : Option ℕ) (to from : CursorStyle)
    → calls_of_all last (events_of (Style to from)) ≡ form_calls (Style to from)
calls-Style last to from =
    cond-two (λ es cs. calls_of_all last es ≡ cs) (style_number to == style_number from) _ _ _ _ (λ _. refl)
    (λ _. style-called last to)

-- ---- attributes

calls-sgr : (last : Option ℕ) (ns : List ℕ) (xs : List Attr) → IsReportedBy ns xs
    → calls_of_all last (sgr_events ns) ≡ map call.terminal_attribute xs
calls-sgr last [] xs h = ap (map call.terminal_attribute) (reported-all [] xs h)
calls-sgr last (k ∷ ns) xs h =
    append-nil (map call.terminal_attribute (attributes nothing (groups_reported (k ∷ ns))))
    ∙ ap (map call.terminal_attribute) (reported-all (k ∷ ns) xs h)

-- ---- forms, lists of them, and their bytes

pub form-called : EachFormCalls
form-called last (Text cs) h = calls-text last cs
form-called last (MoveTo r c) h = calls-MoveTo last r c
form-called last (MoveRight k) h = calls-counted last k 0x43 call.move_forward refl refl
form-called last (EraseChar k) h = calls-counted last k 0x58 call.erase_chars refl refl
form-called last (HideCursor true) h = refl
form-called last (Keypad true) h = refl
form-called last (CursorKeys true) h = refl
form-called last (Paste true) h = refl
form-called last (Mouse to from) h =
    calls-mode last (mouse_number to) (mouse_number from) (mouse-small to) (mouse-small from)
form-called last (Encoding to from) h =
    calls-mode last (encoding_number to) (encoding_number from) (encoding-small to) (encoding-small from)
form-called last (Style to from) h = calls-Style last to from
form-called last (Sgr c) h = calls-sgr last (sgr_numbers c) _ (reported-change c h.0 h.1)
form-called last f h = refl

calls-joined : (last : Option ℕ) (es gs : List Event)
    → calls_of_all last (es ++ gs) ≡ calls_of_all last es ++ calls_of_all (last_after_all last es) gs
calls-joined last [] gs = refl
calls-joined last (e ∷ es) gs =
    ap (λ xs. calls_of last e ++ xs) (calls-joined (last_after last e) es gs)
    ∙ sym (append_assoc (calls_of last e) (calls_of_all (last_after last e) es)
    (calls_of_all (last_after_all (last_after last e) es) gs))

pub list-called : EachListCalls
list-called last [] h = refl
list-called last (f ∷ fs) h =
    calls-joined last (events_of f) (events_of_all fs)
    ∙ (λ i. form-called last f h.0 i ++ list-called (last_after_all last (events_of f)) fs h.1 i)

pub written_form-called : EachWrittenFormCalls
written_form-called k past last fs g h =
    ap (calls_of_all last) (list-read k past fs g h).0
    ∙ list-called last fs (all-each IsReadable HasSmallNumbers (λ f k. k.1) fs h)
