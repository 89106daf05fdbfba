-- Frames made of forms, and forms that arrive in pieces.
use Rattle.std.proofs.Common.{◌≡◌, ℕ, ◌+◌, ◌<◌, ◌==◌, Bool, true, false, ◌&&◌, ◌||◌, List, [], ◌∷◌, ◌++◌, map}
use Rattle.std.proofs.Common.{nat_eq, length, get_or, Option, None, refl, sym, ap, subst, ◌∙◌, arith, inl, inr}
use Rattle.std.proofs.Common.{append-nil, append_assoc, length-append}
use Rattle.std.specs.List.{AllByRecursion, list_any}
use Rattle.std.proofs.lemmas.Bool.{cond_both, cases_lt}
use Rattle.std.proofs.lemmas.List.{take-append-le, nil_from_length}
use Rattle.std.proofs.lemmas.List.Folds.{list_any-append}
use Rattle.std.proofs.Math.Bool.{or-true}
use Rattle.vte_core.specs.Event.{Event, Print, Csi}
use Rattle.vte_core.specs.Shapes.{events}
use Rattle.vte_core.specs.Ground.{AtGround}
use Rattle.vte_core.proofs.LawLemmas.{esc-cut}
use Rattle.vte_core.proofs.GroundLemmas.{ground-nothing, ground-added}
use Rattle.vte_types.specs.Call.{Call}
use Rattle.vte.specs.Csi.{opens_group}
use Rattle.vte.specs.Table.{opens}
use Rattle.vte.specs.Timeout.{Ticking, Tick}
use Rattle.vte.specs.Marks.{start_mark, end_mark}
use Rattle.vte.specs.Stretch.{opens_in}
use Rattle.vte.specs.Hold.{held_of, Takes, parses, begins}
use Rattle.vte.specs.Moves.{Move, given}
use Rattle.vte.specs.Frames.{Drives, ends, gives, stops}
use Rattle.vte.proofs.HoldLemmas.{opens_in-append}
use Rattle.vte.proofs.FrameLemmas.{cut_later}
use Rattle.vte.proofs.FrameMarks.{opens_in-parts, opens_in-prefix, begun_none, start_opens, end_none, ground_start}
use Rattle.vte.proofs.FrameMarks.{ground_end, contrary}
use Rattle.vt100_forms.specs.declared.modes.MouseProtocolEncoding.{MouseProtocolEncoding}
use Rattle.vt100_forms.specs.declared.modes.MouseProtocolEncoding.TheVariants as encoding
use Rattle.vt100_forms.specs.declared.modes.MouseProtocolMode.{MouseProtocolMode}
use Rattle.vt100_forms.specs.declared.modes.MouseProtocolMode.TheVariants as mouse
use Rattle.vt100_forms.specs.declared.modes.CursorStyle.{CursorStyle}
use Rattle.vt100_forms.specs.declared.modes.CursorStyle.TheVariants as style
use Rattle.vt100_forms.specs.Form.{Form, Text, MoveTo, MoveRight, EraseChar}
use Rattle.vt100_forms.specs.Form.{HideCursor, Keypad, CursorKeys}
use Rattle.vt100_forms.specs.Form.{Paste, Mouse, Encoding, Style, Sgr, mouse_number, encoding_number, style_number}
use Rattle.vt100_forms.specs.Form.{sgr_numbers, bytes_of}
use Rattle.terminal_model.specs.Apply.{run}
use Rattle.terminal_model.proofs.TermLemmas.{neither}
use Rattle.forms_read.specs.Events.{kept_number, sequence, bare, counted_events, mode_events}
use Rattle.forms_read.specs.Events.{sgr_events, events_of, events_of_all}
use Rattle.terminal_model.specs.FormText.{IsSentForm}
use Rattle.forms_read.proofs.ReadForms.{list-read}
use Rattle.forms_read.proofs.SentTexts.{forms-readable}
use Rattle.termview.specs.Seen.{seen}
use Rattle.termview.specs.Standing.{HoldsAt}
use Rattle.termview.specs.FormFrames.{FormsMakeFrames, FramesOpenOnce, FramesFinish, FramesShowForms}
use Rattle.termview.specs.FormFrames.{WrittenFormsAreParsed, WrittenFormsAreTaken}
use Rattle.termview.proofs.LawLemmas.{marks_show}
use Rattle.termview.proofs.WrittenForms.{written_form-shown}

-- ---- forms say nothing of updates

-- a control sequence with one intermediate and a group that begins with 2026, as both marks have
abbrev is_mark : Event → Bool
is_mark (Csi gs (m ∷ []) ignore f) = list_any opens_group gs
is_mark _ = false

abbrev Unmarked : List Event → Type 0
Unmarked es = list_any is_mark es ≡ false

event-opens_nothing : (e : Event) → is_mark e ≡ false → opens e ≡ false
event-opens_nothing (Csi gs ms true f) h = refl
event-opens_nothing (Csi gs [] false f) h = refl
event-opens_nothing (Csi gs (m ∷ []) false f) h =
    cond_both (nat_eq m 63 && nat_eq f 104) gs [] (λ (hs : List (List ℕ)). list_any opens_group hs ≡ false) (λ _. h)
    (λ _. refl)
event-opens_nothing (Csi gs (m ∷ k ∷ ms) false f) h = refl
event-opens_nothing _ h = refl

events-open_nothing : (es : List Event) → Unmarked es → list_any opens es ≡ false
events-open_nothing [] h = refl
events-open_nothing (e ∷ es) h =
    let each = neither (is_mark e) (list_any is_mark es) h in
    rw (event-opens_nothing e each.0) (events-open_nothing es each.1)

unmarked-append : (es gs : List Event) → Unmarked es → Unmarked gs → Unmarked (es ++ gs)
unmarked-append es gs h k = list_any-append is_mark es gs ∙ rw h k

unmarked-text : (cs : List ℕ) → Unmarked (map Print cs)
unmarked-text [] = refl
unmarked-text (c ∷ cs) = unmarked-text cs

unmarked-counted : (n final : ℕ) → Unmarked (counted_events n final)
unmarked-counted n final =
    cond_both (n == 0) _ _ Unmarked (λ _. refl) (λ _. cond_both (n == 1) _ _ Unmarked (λ _. refl) (λ _. refl))

-- a number other than that of updates
abbrev IsOther : ℕ → Type 0
IsOther n = nat_eq (kept_number n) 2026 ≡ false

unmarked-mode : (to from : ℕ) → IsOther to → IsOther from → Unmarked (mode_events to from)
unmarked-mode to from h k =
    cond_both (to == from) _ _ Unmarked (λ _. refl)
    (λ _. cond_both (to == 0) _ _ Unmarked (λ _. rw k refl) (λ _. rw h refl))

mouse-other : (m : MouseProtocolMode) → IsOther (mouse_number m)
mouse-other mouse.None = refl
mouse-other _ = refl

encoding-other : (e : MouseProtocolEncoding) → IsOther (encoding_number e)
encoding-other encoding.Default = refl
encoding-other _ = refl

style-other : (s : CursorStyle) → IsOther (style_number s)
style-other style.Default = refl
style-other _ = refl

unmarked-sgr : (ns : List ℕ) → Unmarked (sgr_events ns)
unmarked-sgr [] = refl
unmarked-sgr (n ∷ ns) = refl

unmarked-form : (f : Form) → Unmarked (events_of f)
unmarked-form (Text cs) = unmarked-text cs
unmarked-form (MoveTo r c) =
    cond_both ((r == 0) && (c == 0)) (bare 0x48 ∷ []) (sequence [] ((r + 1) ∷ (c + 1) ∷ []) 0x48 ∷ []) Unmarked
    (λ _. refl) (λ _. refl)
unmarked-form (MoveRight n) = unmarked-counted n 0x43
unmarked-form (EraseChar n) = unmarked-counted n 0x58
unmarked-form (HideCursor true) = refl
unmarked-form (Keypad true) = refl
unmarked-form (CursorKeys true) = refl
unmarked-form (Paste true) = refl
unmarked-form (Mouse to from) = unmarked-mode _ _ (mouse-other to) (mouse-other from)
unmarked-form (Encoding to from) = unmarked-mode _ _ (encoding-other to) (encoding-other from)
unmarked-form (Style to from) =
    cond_both (style_number to == style_number from) _ _ Unmarked (λ _. refl) (λ _. rw (style-other to) refl)
unmarked-form (Sgr c) = unmarked-sgr (sgr_numbers c)
unmarked-form _ = refl

unmarked-forms : (fs : List Form) → Unmarked (events_of_all fs)
unmarked-forms [] = refl
unmarked-forms (f ∷ fs) = unmarked-append (events_of f) (events_of_all fs) (unmarked-form f) (unmarked-forms fs)

-- ---- so no end mark is in their bytes

reported : (fs : List Form) → AllByRecursion IsSentForm fs → events 1024 (bytes_of fs) ≡ events_of_all fs
reported fs k =
    sym (ground-added 1024 [] (bytes_of fs) (ground-nothing 1024))
    ∙ (list-read 1024 [] fs (ground-nothing 1024) (forms-readable fs k)).0

unmarked-written_form : (fs : List Form) → AllByRecursion IsSentForm fs → Unmarked (events 1024 (bytes_of fs))
unmarked-written_form fs k = ap (list_any is_mark) (reported fs k) ∙ unmarked-forms fs

end-marks : (before after : List ℕ) → list_any is_mark (events 1024 (before ++ (end_mark ++ after))) ≡ true
end-marks before after =
    let tail = 91 ∷ 63 ∷ 50 ∷ 48 ∷ 50 ∷ 54 ∷ 108 ∷ after in
    ap (list_any is_mark) (esc-cut 1024 before tail)
    ∙ list_any-append is_mark (events 1024 (before ++ 27 ∷ [])) (events 1024 (end_mark ++ after))
    ∙ ap (λ es. list_any is_mark (events 1024 (before ++ 27 ∷ [])) || list_any is_mark es) (ground_end [] after)
    ∙ or-true (list_any is_mark (events 1024 (before ++ 27 ∷ [])))

-- two end marks don't overlap
end-apart : (prefix after : List ℕ) → length prefix < 8 → end_mark ++ after ≡ prefix ++ end_mark → prefix ≡ []
end-apart [] after h e = refl
end-apart (a ∷ []) after h e = absurd (omega (arith, ap (λ xs. get_or xs 1 0) e))
end-apart (a ∷ b ∷ []) after h e = absurd (omega (arith, ap (λ xs. get_or xs 2 0) e))
end-apart (a ∷ b ∷ c ∷ []) after h e = absurd (omega (arith, ap (λ xs. get_or xs 3 0) e))
end-apart (a ∷ b ∷ c ∷ d ∷ []) after h e = absurd (omega (arith, ap (λ xs. get_or xs 4 0) e))
end-apart (a ∷ b ∷ c ∷ d ∷ f ∷ []) after h e = absurd (omega (arith, ap (λ xs. get_or xs 5 0) e))
end-apart (a ∷ b ∷ c ∷ d ∷ f ∷ g ∷ []) after h e = absurd (omega (arith, ap (λ xs. get_or xs 6 0) e))
end-apart (a ∷ b ∷ c ∷ d ∷ f ∷ g ∷ i ∷ []) after h e = absurd (omega (arith, ap (λ xs. get_or xs 7 0) e))
end-apart (a ∷ b ∷ c ∷ d ∷ f ∷ g ∷ i ∷ j ∷ prefix) after h e = absurd (omega (arith, h))

-- an end mark occurs only at the end, if none is among the events of the body
ends-once : (body before after : List ℕ) → Unmarked (events 1024 body)
    → body ++ end_mark ≡ before ++ (end_mark ++ after) → after ≡ []
ends-once body before after none e =
    let size : length body + 8 ≡ length before + length (end_mark ++ after) =
    sym (length-append body end_mark) ∙ ap length e ∙ length-append before (end_mark ++ after) in
    let later = cut_later before (end_mark ++ after) body end_mark (sym e) (omega (arith, size)) in
    let rest = later.0 in
    let rest_size : length body ≡ length before + length rest = ap length later.1 ∙ length-append before rest in
    elim (cases_lt (length rest) 8) [
      | inl short ↦
          let at_end : rest ≡ [] = end-apart rest after short later.2 in
          nil_from_length after (omega (arith, size, rest_size, ap length at_end))
      | inr long ↦
          let inside = cut_later end_mark after rest end_mark later.2 long in
          let marked : list_any is_mark (events 1024 (before ++ (end_mark ++ inside.0))) ≡ false =
          ap (λ xs. list_any is_mark (events 1024 xs)) (sym (later.1 ∙ ap (λ xs. before ++ xs) inside.1)) ∙ none in
          absurd (contrary (list_any is_mark (events 1024 (before ++ (end_mark ++ inside.0))))
          (end-marks before inside.0) marked)
    ]

-- ---- frames

opens-nothing : (fs : List Form) → AllByRecursion IsSentForm fs → list_any opens (events 1024 (bytes_of fs)) ≡ false
opens-nothing fs k = events-open_nothing (events 1024 (bytes_of fs)) (unmarked-written_form fs k)

pub forms-framed : FormsMakeFrames
forms-framed fs k = record {
  body = bytes_of fs;
  is = refl;
  ends_once = λ before after e. ends-once (bytes_of fs) before after (unmarked-written_form fs k) e;
  opens_nothing = opens-nothing fs k;
}

-- outside of a character or a sequence, forms open no update
opens_in-written_form : (past : List ℕ) (fs : List Form) → AtGround 1024 past → AllByRecursion IsSentForm fs
    → opens_in past (bytes_of fs) ≡ false
opens_in-written_form past fs g k = ap (list_any opens) (ground-added 1024 past (bytes_of fs) g) ∙ opens-nothing fs k

pub frame-opens : FramesOpenOnce
frame-opens past fs k =
    let rest = bytes_of fs ++ end_mark in (
      record {
        within = omega arith;
        opened = start_opens past;
        first = λ m h. ap (opens_in past) (take-append-le m start_mark rest (omega (arith, h))) ∙ begun_none past m h;
      },
      opens_in-append (past ++ start_mark) (bytes_of fs) end_mark
          ∙ rw (opens_in-written_form (past ++ start_mark) fs (ground_start past) k)
          (end_none ((past ++ start_mark) ++ bytes_of fs)),
    )

parts : (past body : List ℕ) → past ++ (start_mark ++ (body ++ end_mark)) ≡ ((past ++ start_mark) ++ body) ++ end_mark
parts past body = sym (append_assoc past start_mark (body ++ end_mark))
    ∙ sym (append_assoc (past ++ start_mark) body end_mark)

pub frame-finishes : FramesFinish
frame-finishes past fs = subst (λ (xs : List ℕ). AtGround 1024 xs) (sym (parts past (bytes_of fs)))
    (ground_end ((past ++ start_mark) ++ bytes_of fs))

pub frame-shows : FramesShowForms
frame-shows z past fs some_row some_col small g k =
    let opened = past ++ start_mark in
    let body = written_form-shown z opened fs some_row some_col small (ground_start past) k in
    ap (seen z) (parts past (bytes_of fs))
    ∙ (marks_show z (opened ++ bytes_of fs) body.1).1
    ∙ body.0
    ∙ ap (run z fs) ((marks_show z past g).0 8 (omega arith))

-- ---- pieces

-- a piece that opens nothing is parsed
quiet-piece : (past piece parsed : List ℕ) (hold : Option (List ℕ)) (calls : List Call) (ticks : List Tick)
    → Takes past None piece parsed hold calls ticks → opens_in past piece ≡ false
    → (parsed ≡ past ++ piece) × (hold ≡ None)
quiet-piece past piece parsed hold calls ticks (parses _ _ none) q = (refl, refl)
quiet-piece past piece parsed hold calls ticks (begins _ _ n _ _ cs ts at t) q =
    absurd (contrary _ at.opened (opens_in-prefix past piece n q))

quiet-moves : (moves : List Move) (past parsed : List ℕ) (start hold : Option (List ℕ)) → start ≡ None
    → opens_in past (given moves) ≡ false → Drives moves past start parsed hold
    → (parsed ≡ past ++ given moves) × (hold ≡ None)
quiet-moves moves past parsed start hold none q (ends _ _) = (sym (append-nil past), none)
quiet-moves moves past parsed start hold none q (gives piece rest _ _ mid mid_hold calls ticks _ _ t l) =
    let each = opens_in-parts past piece (given rest) q in
    let here = quiet-piece past piece mid mid_hold calls ticks
    (subst (λ (h : Option (List ℕ)). Takes past h piece mid mid_hold calls ticks) none t) each.0 in
    let later = quiet-moves rest mid parsed mid_hold hold here.1
    (ap (λ xs. opens_in xs (given rest)) here.0 ∙ each.1) l in
    (later.0 ∙ ap (λ xs. xs ++ given rest) here.0 ∙ append_assoc past piece (given rest), later.1)
quiet-moves moves past parsed start hold none q (stops rest _ _ _ _ l) =
    let same : past ++ held_of start ≡ past = ap (λ h. past ++ held_of h) none ∙ append-nil past in
    let later = quiet-moves rest (past ++ held_of start) parsed None hold refl
    (ap (λ xs. opens_in xs (given rest)) same ∙ q) l in
    (later.0 ∙ ap (λ xs. xs ++ given rest) same, later.1)

pub written_form-parsed : WrittenFormsAreParsed
written_form-parsed fs moves past parsed hold g k e l =
    let quiet : opens_in past (given moves) ≡ false = ap (opens_in past) e ∙ opens_in-written_form past fs g k in
    let r = quiet-moves moves past parsed None hold refl quiet l in
    (r.0 ∙ ap (λ xs. past ++ xs) e, r.1)

pub written_form-taken : {T : Type 0} (ticking : Ticking T) → WrittenFormsAreTaken ticking
written_form-taken ticking fs past old new g k t =
    let l = t.leads in
    let r = quiet-piece past (bytes_of fs) l.parsed' l.hold' l.calls l.ticks l.takes (opens_in-written_form past fs g
    k) in (
      subst (λ (xs : List ℕ). HoldsAt ticking new xs None) r.0
          (subst (λ (h : Option (List ℕ)). HoldsAt ticking new l.parsed' h) r.1 t.state_after),
      t.size,
    )
